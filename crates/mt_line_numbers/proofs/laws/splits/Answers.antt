use Rattle.mt_line_numbers.proofs.SplitFacts.{splits}
use Rattle.mt_line_numbers.proofs.laws.splits.Goals as goal

pub returns : goal.returns
returns c = splits
