use Rattle.std.proofs.Common.{◌++◌, ◌∷◌, [], length, sym, ap, ap₂, ◌∙◌, arith}
use Rattle.mt_hold.specs.Holding.{opened}
use Rattle.mt_core.specs.Floors.{opened_for}
use Rattle.mt_terms.proofs.BelowFacts.{map-below_more}
use Rattle.mt_ranks.proofs.LiveMarket.{ranking_few}
use Rattle.mt_core.proofs.floor.opened_holds.Goals as goal

pub overflow_cast-list_len : goal.overflow_cast-list_len
overflow_cast-list_len c =
    omega (arith, ap length c.by_rank.ensures, ranking_few c.args.ranks.now c.programs-program-end.ensures.ranked c.loop-program.program)

pub loop-program-preserved : goal.loop-program-preserved
loop-program-preserved c =
    let hold = c.in_ok-open.ensures ∙ ap₂ opened c.quota.ensures (ap length c.by_rank.ensures) in
    c.in_ok-push.ensures.items
    ∙ ap₂ (λ xs x. xs ++ x ∷ []) c.loop-program.invariant hold
    ∙ sym (map-below_more (opened_for c.args.ranks.now.market) c.loop-program.program)
