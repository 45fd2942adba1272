use Rattle.std.proofs.Common.{refl}
use Rattle.std.specs.Fmt.{digits}
use Rattle.mt_terms.proofs.examples.text.refusal_lines.Goals as goal

pub returns : goal.returns
unfolding digits
returns c = record { with_id = refl; with_record = refl; alone = refl; last_fault = refl; last_record = refl }
