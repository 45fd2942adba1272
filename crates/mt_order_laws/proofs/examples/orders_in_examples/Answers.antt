use Rattle.std.proofs.Common.{refl}
use Rattle.mt_order_laws.proofs.examples.orders_in_examples.Goals as goal

pub returns : goal.returns
returns c = record { first = refl; second = refl; third = refl; of_three = refl; third_first = refl; ends = refl; none_ends = refl }
