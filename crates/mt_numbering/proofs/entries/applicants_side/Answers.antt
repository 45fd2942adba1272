use Rattle.std.proofs.Common.{◌≡◌, refl, ◌∙◌}
use Rattle.std.specs.Prelude.{bytes_eq}
use Rattle.mt_terms.specs.Registration.Ids.{all_differ}
use Rattle.mt_terms.specs.Registration.Rows.{applicant_ids}
use Rattle.mt_records.specs.Records.{all_seen}
use Rattle.mt_numbering.specs.Withdrawals.{stays_after}
use Rattle.mt_numbering.proofs.MarketFacts.{table_found, table_missing, rankings_fail, given_by_applicants}
use Rattle.mt_numbering.proofs.entries.applicants_side.Goals as goal

pub returns-in_default : goal.returns-in_default
returns-in_default g c =
    let differ : all_differ bytes_eq (applicant_ids (all_seen c.args.listed.now.records.now)) ≡ _ = table_missing _ _ _ c.requires.names c.in_ok-ids.ensures.differ c.in_default.is in
    rw differ refl

pub numbered_applicants-requires-clause-ids : goal.numbered_applicants-requires-clause-ids
numbered_applicants-requires-clause-ids g c =
    (table_found _ _ _ c.in-Some.ids c.requires.names c.in_ok-ids.ensures.ids c.in_ok-ids.ensures.differ c.in-Some.is).0

pub returns-in_default-2 : goal.returns-in_default-2
returns-in_default-2 g c =
    let found = table_found _ _ _ c.in-Some.ids c.requires.names c.in_ok-ids.ensures.ids c.in_ok-ids.ensures.differ c.in-Some.is in
    rankings_fail (stays_after c.args.listed.now.withdrawn.now) (all_seen c.args.listed.now.records.now) c.in_ok-applicants.applicants (c.in_ok-applicants.ensures.ids ∙ found.0)
    _ c.in_default-2.is c.in_ok-rankings.ensures

pub returns : goal.returns
returns g c =
    let found = table_found _ _ _ c.in-Some.ids c.requires.names c.in_ok-ids.ensures.ids c.in_ok-ids.ensures.differ c.in-Some.is in
    given_by_applicants (stays_after c.args.listed.now.withdrawn.now) (all_seen c.args.listed.now.records.now) c.in_ok-applicants.applicants (c.in_ok-applicants.ensures.ids ∙ found.0)
    c.in_ok-applicants.ensures.numbers found.1 (c.into_ids.result, _) c.into_ids.ensures _ c.in-Some-2.is c.in_ok-rankings.ensures c.in_ok-members.ensures
