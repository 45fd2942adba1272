use Rattle.std.proofs.Common.{◌∙◌, ap, sym}
use Rattle.mt_orders.specs.declared.without.Aside.{Aside}
use Rattle.mt_orders.specs.Fewest.{fewer}
use Rattle.mt_orders.proofs.FewestFacts.{fewest_more}
use Rattle.mt_orders.proofs.fewest.fewest_of.Goals as goal

pub loop-other-preserved : goal.loop-other-preserved
loop-other-preserved c =
    c.fewer-fewest.ensures ∙ ap (λ (a : Aside). fewer a c.in-Some.other) c.loop-other.invariant ∙ sym (fewest_more c.args.first c.loop-other.yielded c.in-Some.other)
