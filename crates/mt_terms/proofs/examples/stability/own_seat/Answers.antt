use Rattle.std.proofs.Common.{refl}
use Rattle.mt_terms.proofs.examples.stability.own_seat.Goals as goal

pub returns : goal.returns
returns c = record { blocks_itself = refl }
