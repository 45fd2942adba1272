use Rattle.std.proofs.Common.{[], ◌∷◌, Some, None, refl}
use Rattle.mt_terms.specs.Examples.Markets.{chain}
use Rattle.mt_verdict_laws.proofs.VerdictLemmas.{verdict_in_words_lem}
use Rattle.mt_stability_laws.proofs.WellFormedLemmas.{well_formed_from_test}
use Rattle.mt_verdict_laws.proofs.verdict.verdict_in_words.Goals as goal

pub returns-clause-law : goal.returns-clause-law
returns-clause-law c = verdict_in_words_lem

pub returns-clause-example : goal.returns-clause-example
returns-clause-example c = verdict_in_words_lem chain (well_formed_from_test chain refl) (Some 0 ∷ Some 1 ∷ None ∷ []) refl
