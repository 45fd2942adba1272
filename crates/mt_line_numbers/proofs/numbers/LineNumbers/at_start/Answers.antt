use Rattle.mt_line_numbers.proofs.PlaceFacts.{first_at}
use Rattle.mt_line_numbers.proofs.numbers.LineNumbers.at_start.Goals as goal

pub invariant_of-result : goal.invariant_of-result
invariant_of-result c = first_at c.args.text.now c.at_start.result c.at_start.ensures.rest c.at_start.ensures.lines
