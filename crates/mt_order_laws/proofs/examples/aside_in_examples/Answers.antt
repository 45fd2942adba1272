use Rattle.std.proofs.Common.{refl}
use Rattle.mt_order_laws.proofs.examples.aside_in_examples.Goals as goal

pub returns : goal.returns
returns c = record {
  entering = refl;
  aside = refl;
  ends = refl;
  stable_aside = refl;
  not_before = refl;
  four_rounds = refl;
  one_round = refl;
}
