use Rattle.std.proofs.Common.{◌≡◌, ◌∙◌, ap, replicate, arith}
use Rattle.std.proofs.lemmas.Grind.{common_steps}
use Rattle.mt_tally.proofs.dealing.deal.Goals as goal

pub overflow_add-total : goal.overflow_add-total
overflow_add-total g c = grind (arith, common_steps)

pub loop-i-preserved : goal.loop-i-preserved
loop-i-preserved g c = grind (arith, common_steps)

pub loop-j-preserved : goal.loop-j-preserved
loop-j-preserved g c = grind (arith, common_steps)

pub returns-clause-roll : goal.returns-clause-roll
returns-clause-roll g c = grind (arith, common_steps)

pub returns-clause-desks : goal.returns-clause-desks
returns-clause-desks g c = grind (arith, common_steps)

pub returns-clause-passes : goal.returns-clause-passes
returns-clause-passes g c =
    let all : c.loop-j._j ≡ c.args.passes = omega arith in
    c.loop-j.invariant.shares ∙ ap (λ n. replicate n 0) all
