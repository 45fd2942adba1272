use Rattle.std.proofs.Common.{refl}
use Rattle.std.specs.Fmt.{digits}
use Rattle.mt_terms.proofs.examples.text.crossed_text.Goals as goal

pub returns : goal.returns
unfolding digits
returns c = record { text = refl }
