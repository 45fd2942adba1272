use Rattle.std.proofs.Common.{refl}
use Rattle.mt_floor_laws.proofs.FloorQuiet.{order_free_lem}
use Rattle.mt_floor_laws.proofs.floors.order_free.Goals as goal

pub returns-clause-law : goal.returns-clause-law
returns-clause-law c = order_free_lem

pub returns-clause-example : goal.returns-clause-example
returns-clause-example c = record {
  wishes_quiet = refl;
  last_quiet = refl;
  wishes_result = refl;
  last_result = refl;
  received_by_first = refl;
  received_by_second = refl;
}
