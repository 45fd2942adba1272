use Rattle.mt_stability_laws.proofs.WellFormedLemmas.{well_formed_test_lem}
use Rattle.mt_stability_laws.proofs.singles.well_formed_test.Goals as goal

pub returns : goal.returns
returns c = well_formed_test_lem
