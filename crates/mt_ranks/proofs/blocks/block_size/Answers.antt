use Rattle.std.proofs.Common.{◌*◌, ◌≤◌, arith}
use Rattle.std.proofs.Math.Nat.{mul-le-mul_left}
use Rattle.std.proofs.lemmas.Grind.{div_ceil_times}
use Rattle.mt_ranks.proofs.blocks.block_size.Goals as goal

pub returns-clause-enough : goal.returns-clause-enough
returns-clause-enough c =
    let blocks = c.min.result in
    let enough : c.args.applicants ≤ c.div_ceil.result * blocks = rw c.div_ceil.ensures (div_ceil_times c.args.applicants blocks (omega (arith, c.min.ensures, c.requires))).0 in
    let more : c.div_ceil.result * blocks ≤ c.div_ceil.result * 4 = mul-le-mul_left c.div_ceil.result (omega (arith, c.min.ensures)) in
    omega (arith, enough, more)
