use Rattle.std.proofs.Common.{length, ap, arith}
use Rattle.std.proofs.lemmas.Grind.{common_steps}
use Rattle.mt_ranks.proofs.LiveMarket.{ranking_few}
use Rattle.mt_desks.proofs.opening.open_door.Goals as goal

pub overflow_cast-list_len : goal.overflow_cast-list_len
overflow_cast-list_len g c =
    omega (arith, ap length c.by_rank.ensures, ranking_few c.args.ranks.now c.programs.ensures.ranked c.args.program)

pub invariant_of-result : goal.invariant_of-result
invariant_of-result g c = grind (arith, common_steps)
