use Rattle.std.proofs.Common.{refl}
use Rattle.mt_explain.proofs.examples.own_seat.Goals as goal

pub returns : goal.returns
returns c = record { lines = refl; is_open = refl }
