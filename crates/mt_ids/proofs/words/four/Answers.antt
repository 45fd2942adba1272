use Rattle.std.proofs.Common.{◌∙◌}
use Rattle.mt_ids.specs.Words.{four_from}
use Rattle.mt_ids.proofs.words.four.Goals as goal

pub returns-clause-value : goal.returns-clause-value
unfolding four_from
returns-clause-value c = c.from.ensures ∙ c.from_le_bytes.ensures
