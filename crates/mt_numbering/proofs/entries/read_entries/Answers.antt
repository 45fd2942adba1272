use Rattle.std.proofs.Common.{ap, sym, ◌∙◌}
use Rattle.std.specs.Prelude.{bytes_eq}
use Rattle.mt_terms.specs.Registration.Ids.{all_differ}
use Rattle.mt_records.specs.Records.{all_seen}
use Rattle.mt_numbering.specs.Withdrawals.{stays_after}
use Rattle.mt_numbering.proofs.MarketFacts.{couples_fail, applicants_fail, programs_fail, given_by_both, given}
use Rattle.mt_numbering.specs.Sides.{GivesByApplicants, GivesByPrograms, IsTableOf}
use Rattle.mt_numbering.proofs.entries.read_entries.Goals as goal

pub returns-in_default : goal.returns-in_default
returns-in_default g c =
    let same = given (IsTableOf c.args.names.now.couples) _ _ _ c.in_ok-couples.was c.in_default.is c.ids_and_sides-couples.ensures.couples in
    couples_fail c.args.half_pairs (stays_after c.args.withdrawn.now) (all_seen c.args.records.now) (ap (all_differ bytes_eq) (sym c.requires.names.couples) ∙ same)

pub returns-in_default-2 : goal.returns-in_default-2
returns-in_default-2 g c =
    let given = given (GivesByApplicants (stays_after c.args.withdrawn.now) (all_seen c.args.records.now)) _ _ _ c.in_ok-applicants.was c.in_default-2.is c.ids_and_sides-couples.ensures.applicants in
    applicants_fail c.args.half_pairs (stays_after c.args.withdrawn.now) (all_seen c.args.records.now) given

pub returns-in_default-3 : goal.returns-in_default-3
returns-in_default-3 g c =
    let given = given (GivesByPrograms c.args.half_pairs (stays_after c.args.withdrawn.now) (all_seen c.args.records.now)) _ _ _ c.in_ok-programs.was c.in_default-3.is c.ids_and_sides-couples.ensures.programs in
    programs_fail c.args.half_pairs (stays_after c.args.withdrawn.now) (all_seen c.args.records.now) given

pub returns : goal.returns
returns g c =
    let table = given (IsTableOf c.args.names.now.couples) _ _ _ c.in_ok-couples.was c.in-Some.is c.ids_and_sides-couples.ensures.couples in
    let applicants = given (GivesByApplicants (stays_after c.args.withdrawn.now) (all_seen c.args.records.now)) _ _ _ c.in_ok-applicants.was c.in-Some-2.is c.ids_and_sides-couples.ensures.applicants in
    let programs = given (GivesByPrograms c.args.half_pairs (stays_after c.args.withdrawn.now) (all_seen c.args.records.now)) _ _ _ c.in_ok-programs.was c.in-Some-3.is c.ids_and_sides-couples.ensures.programs in
    given_by_both c.args.half_pairs (stays_after c.args.withdrawn.now) (all_seen c.args.records.now) (c.in-Some-2.applicants, c.in-Some-2.by_applicants)
    (c.in-Some-3.programs, c.in-Some-3.by_programs) applicants programs c.in-Some.couples
    (table.1 ∙ c.requires.names.couples) (ap (all_differ bytes_eq) (sym c.requires.names.couples) ∙ table.0)
