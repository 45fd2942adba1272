use Rattle.std.proofs.Common.{◌≡◌, ◌∙◌, List, ℕ, IfOk, ap, subst}
use Rattle.std.specs.Prelude.{◌↔◌, IsTrue}
use Rattle.mt_terms.specs.Market.{Market, Registered}
use Rattle.mt_terms.specs.Stability.{stable}
use Rattle.mt_order_laws.specs.Reordered.{set_aside, set_aside_registered}
use Rattle.mt_answer.proofs.in_ways.is_stable_aside.Goals as goal

pub returns : goal.returns
returns g c =
    let same : c.in_ok-others.others.market ≡ set_aside c.args.aside.now.couples.items c.args.roster.now.market =
    ap Registered.market (c.in_ok-others.ensures ∙ ap (λ (xs : List ℕ). set_aside_registered xs c.args.roster.now) c.deref.ensures.value) in
    subst (λ (m : Market). IfOk c.is_stable.result (λ b. IsTrue b ↔ IsTrue (stable m c.args.aside.now.matched.places))) same c.is_stable.ensures
