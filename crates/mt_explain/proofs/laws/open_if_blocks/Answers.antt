use Rattle.mt_explain.proofs.LawFacts.{open_if_blocks_lem}
use Rattle.mt_explain.proofs.laws.open_if_blocks.Goals as goal

pub returns : goal.returns
returns c = open_if_blocks_lem
