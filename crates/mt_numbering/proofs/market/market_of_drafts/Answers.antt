use Rattle.std.proofs.Common.{◌∙◌, List, ap, sym, subst}
use Rattle.mt_terms.specs.Registration.Records.{Record}
use Rattle.mt_terms.specs.Registration.Accepted.{IsRegistration}
use Rattle.mt_drafts.specs.Drafts.{drafted}
use Rattle.mt_numbering.specs.Markets.{AreEntries}
use Rattle.mt_records.specs.Records.{all_seen}
use Rattle.mt_numbering.specs.Numbered.{registered_by_all}
use Rattle.mt_numbering.proofs.MarketFacts.{names_stay, remains_found}
use Rattle.mt_numbering.proofs.market.market_of_drafts.Goals as goal

pub remaining_names-requires : goal.remaining_names-requires
remaining_names-requires g c =
    let found = remains_found c.args.rules.now (drafted c.args.drafts) _ _ (c.in-Some.by_applicants, c.in-Some.by_programs) c.in_ok-read.ensures c.in-Some.is in
    names_stay c.args.drafts.records.items _ _ _ (c.len-count.ensures ∙ c.args.drafts.records.ok.0) (ap all_seen c.deref.ensures.value ∙ found.1) c.requires.drafts.names

pub make_roster-requires-clause-market : goal.make_roster-requires-clause-market
make_roster-requires-clause-market g c =
    let found = remains_found c.args.rules.now (drafted c.args.drafts) _ _ (c.in-Some.by_applicants, c.in-Some.by_programs) c.in_ok-read.ensures c.in-Some.is in
    subst (λ (xs : List Record). IsRegistration (registered_by_all xs)) (sym (ap all_seen c.deref-2.ensures.value ∙ found.1)) (c.requires.accepted found.0)

pub make_roster-requires-clause-entries : goal.make_roster-requires-clause-entries
make_roster-requires-clause-entries g c =
    let found = remains_found c.args.rules.now (drafted c.args.drafts) _ _ (c.in-Some.by_applicants, c.in-Some.by_programs) c.in_ok-read.ensures c.in-Some.is in
    subst (λ (xs : List Record). AreEntries xs (c.in-Some.by_applicants, c.in-Some.by_programs)) (sym (ap all_seen c.deref-2.ensures.value)) found.2

pub returns : goal.returns
returns g c =
    let found = remains_found c.args.rules.now (drafted c.args.drafts) _ _ (c.in-Some.by_applicants, c.in-Some.by_programs) c.in_ok-read.ensures c.in-Some.is in
    (found.0, c.in_ok-roster.ensures ∙ ap registered_by_all (ap all_seen c.deref-2.ensures.value ∙ found.1))
