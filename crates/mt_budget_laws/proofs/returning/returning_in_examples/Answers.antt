use Rattle.std.proofs.Common.{◌≡◌, ℕ, List, [], ◌∷◌, Some, None, refl, arith}
use Rattle.mt_terms.specs.Examples.Markets.{unstable}
use Rattle.mt_terms.specs.Matching.{Places}
use Rattle.mt_terms.specs.Rounds.{stage, state}
use Rattle.mt_terms.specs.declared.numbers.Agent.{Agent}
use Rattle.mt_terms.specs.declared.numbers.Agent.TheVariants.{Couple}
use Rattle.mt_budget_laws.specs.Returning.{ComesBack}
use Rattle.mt_budget_laws.proofs.ReturningFacts.{returning_stage_never_ends_lem}
use Rattle.mt_budget_laws.proofs.returning.returning_in_examples.Goals as goal

abbrev single_placed : Places
single_placed = Some 0 ∷ None ∷ None ∷ []

-- the first state of the unstable market comes back
comes : ComesBack unstable 0 (state single_placed (Couple 0 ∷ []))
comes = record {
  waits = λ none. (let both : ◌≡◌ {A = List Agent} (Couple 0 ∷ []) [] = none in cc);
  rounds = 4;
  some = omega arith;
  back = refl;
}

endless : (b : ℕ) → stage unstable single_placed b ≡ None
endless = returning_stage_never_ends_lem unstable single_placed 0 0 (single_placed, 0) (omega arith) refl 0 comes

pub returns : goal.returns
returns c = record { back = refl; endless = endless; same_match = refl; ends = refl }
