use Rattle.std.proofs.Common.{sym, ◌∙◌}
use Rattle.mt_terms.specs.Lists.{below}
use Rattle.mt_terms.specs.Market.{applicants}
use Rattle.mt_terms.specs.Verdict.{is_unlisted}
use Rattle.mt_verify.specs.Blocking.{leads_blocker}
use Rattle.mt_verify.proofs.BlockingFacts.{first_by_leader}
use Rattle.mt_verify.proofs.FindFacts.{find_without, found_below}
use Rattle.mt_verify.proofs.verifier.Verifier.first_blocker.Goals as goal

pub blocker_led_by-requires : goal.blocker_led_by-requires
blocker_led_by-requires c =
    let m = c.args.self.now.roster.now.market in
    let places = c.args.self.now.matched.now.places in
    (found_below (leads_blocker m places) (applicants m) c.args.found
    (sym (find_without (leads_blocker m places) (is_unlisted m places) (below (applicants m)) c.requires.listed) ∙ c.requires.found)).0

pub returns : goal.returns
returns c =
    let m = c.args.self.now.roster.now.market in
    let places = c.args.self.now.matched.now.places in
    c.blocker_led_by.ensures
    ∙ sym (first_by_leader m places c.args.found
    (sym (find_without (leads_blocker m places) (is_unlisted m places) (below (applicants m)) c.requires.listed) ∙ c.requires.found))
