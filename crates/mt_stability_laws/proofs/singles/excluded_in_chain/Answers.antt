use Rattle.std.proofs.Common.{ℕ, zero, suc, ◌==◌, [], ◌∷◌, refl, arith}
use Rattle.std.proofs.lemmas.Bool.Decides.{nat_tests}
use Rattle.std.specs.Prelude.{IsTrue}
use Rattle.mt_terms.specs.Best.{IsExcluded}
use Rattle.mt_terms.specs.Examples.Markets.{chain}
use Rattle.mt_terms.specs.Lists.{has, until}
use Rattle.mt_terms.specs.Market.{list_of, live}
use Rattle.mt_terms.specs.WellFormed.{IsWellFormed}
use Rattle.mt_stability_laws.proofs.ExclusionLemmas.{exclusion_lem, exclusion_by_quota_lem}
use Rattle.mt_stability_laws.proofs.WellFormedLemmas.{well_formed_from_test}
use Rattle.mt_stability_laws.proofs.singles.excluded_in_chain.Goals as goal

well_formed : IsWellFormed chain
well_formed = well_formed_from_test chain refl

-- the first and the third applicant want the first program most
wanted_first : (b : ℕ) → IsTrue (has (0 ∷ 2 ∷ []) b) → IsTrue (has (list_of chain b) 0)
wanted_first zero h = refl
wanted_first (suc zero) h = cc
wanted_first (suc (suc zero)) h = refl
wanted_first (suc (suc (suc b))) h = absurd (grind (arith, nat_tests))

none_above_first : (b q : ℕ) → IsTrue (has (0 ∷ 2 ∷ []) b) → IsTrue (has (until (λ x. x == 0) (live chain b)) q) → IsExcluded chain b q
none_above_first zero q h above = cc
none_above_first (suc zero) q h above = cc
none_above_first (suc (suc zero)) q h above = cc
none_above_first (suc (suc (suc b))) q h above = cc

first_at_first : IsExcluded chain 0 0
first_at_first = exclusion_lem chain well_formed 0 (has (0 ∷ 2 ∷ [])) wanted_first none_above_first 0 refl refl

-- the first two want the second program, the first of them after the first program
wanted_second : (b : ℕ) → IsTrue (has (0 ∷ 1 ∷ []) b) → IsTrue (has (list_of chain b) 1)
wanted_second zero h = refl
wanted_second (suc zero) h = refl
wanted_second (suc (suc b)) h = absurd (grind (arith, nat_tests))

excluded_above_second : (b q : ℕ) → IsTrue (has (0 ∷ 1 ∷ []) b) → IsTrue (has (until (λ x. x == 1) (live chain b)) q) → IsExcluded chain b q
excluded_above_second zero zero h above = first_at_first
excluded_above_second zero (suc q) h above = absurd (grind (arith, nat_tests))
excluded_above_second (suc zero) q h above = cc
excluded_above_second (suc (suc b)) q h above = absurd (grind (arith, nat_tests, h))

pub returns : goal.returns
returns c = record {
  well_formed = well_formed;
  first_at_first = first_at_first;
  second_at_second = exclusion_by_quota_lem chain well_formed 1 (has (0 ∷ 1 ∷ [])) wanted_second excluded_above_second 1 (omega arith);
}
