use Rattle.std.proofs.Common.{sym, ap, ◌∙◌}
use Rattle.mt_terms.specs.Lists.{below}
use Rattle.mt_terms.specs.Market.{applicants}
use Rattle.mt_terms.specs.Verdict.{blocks_verdict, is_unlisted, over_verdict, unlisted_verdict}
use Rattle.mt_verdict_laws.proofs.VerdictLemmas.{none_found_below}
use Rattle.mt_verify.specs.Blocking.{leads_blocker}
use Rattle.mt_verify.proofs.BlockingFacts.{no_blocking}
use Rattle.mt_verify.proofs.FindFacts.{find_neither}
use Rattle.mt_verify.proofs.verifier.Verifier.verdict.Goals as goal

pub first_over-requires : goal.first_over-requires
first_over-requires g c =
    let m = c.args.self.now.roster.now.market in
    let places = c.args.self.now.matched.now.places in
    none_found_below (is_unlisted m places) (applicants m)
    (find_neither (leads_blocker m places) (is_unlisted m places) (below (applicants m)) (sym c.first_found.ensures ∙ c.in_default.is)).1

pub returns-in-Some-first_over : goal.returns-in-Some-first_over
returns-in-Some-first_over g c =
    let m = c.args.self.now.roster.now.market in
    let places = c.args.self.now.matched.now.places in
    let none = find_neither (leads_blocker m places) (is_unlisted m places) (below (applicants m)) (sym c.first_found.ensures ∙ c.in_default.is) in
    sym (ap (unlisted_verdict m places) none.1 ∙ ap (over_verdict m places) (sym c.first_over.ensures ∙ c.in-Some-first_over.is))

pub returns-in-None : goal.returns-in-None
returns-in-None g c =
    let m = c.args.self.now.roster.now.market in
    let places = c.args.self.now.matched.now.places in
    let none = find_neither (leads_blocker m places) (is_unlisted m places) (below (applicants m)) (sym c.first_found.ensures ∙ c.in_default.is) in
    sym (ap (unlisted_verdict m places) none.1 ∙ ap (over_verdict m places) (sym c.first_over.ensures ∙ c.in-None.is) ∙ ap (blocks_verdict m places) (no_blocking m places none.0))

pub first_over-requires-2 : goal.first_over-requires-2
first_over-requires-2 g c =
    let self = c.args.self.now in
    none_found_below (is_unlisted self.roster.now.market self.matched.now.places) (applicants self.roster.now.market)
    (sym c.first_unlisted.ensures ∙ c.in_default-first_unlisted.is)
