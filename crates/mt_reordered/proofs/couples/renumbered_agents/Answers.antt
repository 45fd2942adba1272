use Rattle.std.proofs.Common.{◌∙◌, ℕ, List, Option, ap, ap₂, map}
use Rattle.mt_terms.specs.Lists.{below}
use Rattle.mt_terms.specs.declared.numbers.Agent.{Agent}
use Rattle.mt_reordered.specs.Copied.{place_from, renumbered, renumbered_agent}
use Rattle.mt_reordered.proofs.ColumnFacts.{one_more}
use Rattle.mt_reordered.proofs.couples.renumbered_agents.Goals as goal

pub loop-number-preserved : goal.loop-number-preserved
loop-number-preserved c =
    let m = c.args.roster.now.market in
    let order = c.args.order.now in
    let k = c.loop-number.number in
    let by_places : List (Option ℕ) → Agent → Agent = λ ps g. renumbered ps k g in
    one_more (renumbered_agent m order) k _ _ c.renumbered.result c.loop-number.invariant
    (c.renumbered.ensures
    ∙ ap₂ by_places (c.deref.ensures.value ∙ c.in_ok-places.ensures ∙ ap (λ n. map (place_from order 0) (below n)) c.couples.ensures.count) c.agent_of.ensures)
    c.in_ok-push.ensures.items
