use Rattle.std.proofs.Common.{arith}
use Rattle.mt_line_numbers.proofs.EndFacts.{ends-within}
use Rattle.mt_line_numbers.proofs.place.Place.at_start.Goals as goal

pub invariant_of-start : goal.invariant_of-start
invariant_of-start c = record { few = omega (arith, ends-within c.args.text.now) }
