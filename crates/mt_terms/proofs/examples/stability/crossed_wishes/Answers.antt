use Rattle.std.proofs.Common.{ℕ, zero, suc, [], ◌∷◌, Some, refl}
use Rattle.std.specs.Prelude.{IsTrue}
use Rattle.mt_terms.specs.Best.{IsExcluded, better_programs}
use Rattle.mt_terms.specs.Examples.Markets.{crossed}
use Rattle.mt_terms.specs.Lists.{has}
use Rattle.mt_terms.proofs.examples.stability.crossed_wishes.Goals as goal

-- each of the two has its first wish, so nothing is better
none_better : (a p : ℕ) → IsTrue (has (better_programs crossed (Some 0 ∷ Some 1 ∷ []) a) p) → IsExcluded crossed a p
none_better zero p h = cc
none_better (suc zero) p h = cc
none_better (suc (suc a)) p h = cc

pub returns : goal.returns
returns c = record { first_wishes = refl; second_wishes = refl; nobody = refl; best = record { is_stable = refl; none_better = none_better }; to_first = refl; to_second = refl }
