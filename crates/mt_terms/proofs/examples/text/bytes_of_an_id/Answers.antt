use Rattle.std.proofs.Common.{refl}
use Rattle.mt_terms.proofs.examples.text.bytes_of_an_id.Goals as goal

pub returns : goal.returns
returns c = record { some = refl; comma = refl; line_feed = refl }
