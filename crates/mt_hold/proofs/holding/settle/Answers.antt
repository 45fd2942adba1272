use Rattle.std.proofs.Common.{arith}
use Rattle.mt_bits.specs.Flags.{flag}
use Rattle.mt_hold.proofs.Counting.{count_past}
use Rattle.mt_hold.proofs.holding.settle.Goals as goal

pub last_flag_below-last-requires-clause-some : goal.last_flag_below-last-requires-clause-some
last_flag_below-last-requires-clause-some c = omega (arith, count_past (flag c.args.words.now) c.args.rank c.args.end.now c.requires.received c.if-end-rank.false)
