use Rattle.std.proofs.Common.{◌≡◌, refl, ◌∙◌}
use Rattle.std.specs.Prelude.{bytes_eq}
use Rattle.mt_terms.specs.Registration.Ids.{all_differ}
use Rattle.mt_terms.specs.Registration.Records.{OfProgram}
use Rattle.mt_terms.specs.Registration.Rows.{ids_of}
use Rattle.mt_records.specs.Records.{all_seen}
use Rattle.mt_numbering.specs.Withdrawals.{stays_after}
use Rattle.mt_numbering.proofs.MarketFacts.{table_found, table_missing, choices_fail, pairs_fail, given_by_programs}
use Rattle.mt_numbering.proofs.entries.programs_side.Goals as goal

pub returns-in_default : goal.returns-in_default
returns-in_default g c =
    let differ : all_differ bytes_eq (ids_of OfProgram (all_seen c.args.listed.now.records.now)) ≡ _ = table_missing _ _ _ c.requires.names c.in_ok-ids.ensures.differ c.in_default.is in
    rw differ refl

pub numbered_programs-requires-clause-ids : goal.numbered_programs-requires-clause-ids
numbered_programs-requires-clause-ids g c =
    (table_found _ _ _ c.in-Some.ids c.requires.names c.in_ok-ids.ensures.ids c.in_ok-ids.ensures.differ c.in-Some.is).0

pub returns-in_default-2 : goal.returns-in_default-2
returns-in_default-2 g c =
    let found = table_found _ _ _ c.in-Some.ids c.requires.names c.in_ok-ids.ensures.ids c.in_ok-ids.ensures.differ c.in-Some.is in
    choices_fail (stays_after c.args.listed.now.withdrawn.now) (all_seen c.args.listed.now.records.now) c.args.half_pairs c.in_ok-programs.programs (c.in_ok-programs.ensures.ids ∙ found.0)
    _ c.in_default-2.is c.in_ok-lists.ensures

pub returns-in_default-3 : goal.returns-in_default-3
returns-in_default-3 g c =
    let found = table_found _ _ _ c.in-Some.ids c.requires.names c.in_ok-ids.ensures.ids c.in_ok-ids.ensures.differ c.in-Some.is in
    pairs_fail (stays_after c.args.listed.now.withdrawn.now) (all_seen c.args.listed.now.records.now) c.args.half_pairs c.in_ok-programs.programs (c.in_ok-programs.ensures.ids ∙ found.0)
    _ c.in_default-3.is c.in_ok-pairs.ensures

pub returns : goal.returns
returns g c =
    let found = table_found _ _ _ c.in-Some.ids c.requires.names c.in_ok-ids.ensures.ids c.in_ok-ids.ensures.differ c.in-Some.is in
    given_by_programs (stays_after c.args.listed.now.withdrawn.now) (all_seen c.args.listed.now.records.now) c.args.half_pairs c.in_ok-programs.programs (c.in_ok-programs.ensures.ids ∙ found.0)
    c.in_ok-programs.ensures.numbers found.1 (c.into_ids.result, _) c.into_ids.ensures _ c.in-Some-2.is c.in_ok-lists.ensures _ c.in-Some-3.is c.in_ok-pairs.ensures
