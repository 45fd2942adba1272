use Rattle.std.proofs.Common.{refl}
use Rattle.mt_stability_laws.proofs.taken.taken_in_examples.Goals as goal

pub returns : goal.returns
returns c = record {
  single = refl;
  pair = refl;
  same_program = refl;
  room_for_one = refl;
  first_alone = refl;
  second_alone = refl;
  twice_at_one = refl;
}
