use Rattle.std.proofs.Common.{refl}
use Rattle.mt_terms.proofs.examples.stability.closed_program.Goals as goal

pub returns : goal.returns
returns c = record { stable_one = refl; taken_in = refl; one_too_many = refl; to_closed = refl; to_open = refl }
