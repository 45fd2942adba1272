use Rattle.mt_text_laws.proofs.TextFacts.{published_aside_is_read_lem}
use Rattle.mt_text_laws.proofs.laws.published_aside_is_read.Goals as goal

pub returns : goal.returns
returns c = published_aside_is_read_lem
