use Rattle.std.proofs.Common.{refl}
use Rattle.mt_terms.specs.Examples.Markets.{one_sided}
use Rattle.mt_floor_laws.proofs.LiveLemmas.{live_market_agrees_lem}
use Rattle.mt_stability_laws.proofs.WellFormedLemmas.{well_formed_from_test}
use Rattle.mt_floor_laws.proofs.live.live_market_agrees.Goals as goal

pub returns-clause-law : goal.returns-clause-law
returns-clause-law c = live_market_agrees_lem

pub returns-clause-example : goal.returns-clause-example
returns-clause-example c = record {
  no_lists = refl;
  agrees = live_market_agrees_lem one_sided (well_formed_from_test one_sided refl);
}
