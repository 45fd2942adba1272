use Rattle.std.proofs.Common.{◌≡◌, Bool, true, false, ◌&&◌, sym, ap, ◌∙◌}
use Rattle.mt_terms.specs.Matching.{Places}
use Rattle.mt_terms.specs.Stability.{is_chosen}
use Rattle.mt_verify.proofs.TakenFacts.{send_both}
use Rattle.mt_verify.proofs.verifier.Verifier.takes_pair.Goals as goal

both_tests : (x y r : Bool) → true ≡ x → r ≡ y → r ≡ (x && (y && true))
both_tests true true r h e = e
both_tests true false r h e = e
both_tests false y r h e = absurd (cc)

pub returns-then-takes_member : goal.returns-then-takes_member
returns-then-takes_member c =
    let self = c.args.self.now in
    both_tests _ _ _ (sym c.if-takes_member.true ∙ c.takes_member.ensures)
    (c.takes_member-then-takes_member.ensures
    ∙ ap (λ (places : Places). is_chosen self.roster.now.market places c.args.second c.args.pair.1) (send_both self.matched.now.places c.args.first c.args.second c.args.pair.0 c.args.pair.1 c.requires.apart))
