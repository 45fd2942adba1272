-- Who waits.
use Rattle.std.proofs.Common.{◌≡◌, ℕ, false, List, [], ◌∷◌, ◌++◌, refl, ap, sym, ◌∙◌, inl, inr, subst, IsTrue}
use Rattle.std.specs.List.{AllByRecursion, IsDistinct}
use Rattle.std.proofs.lemmas.Bool.{or_from, or_right, or_cases, or_parts, both_ways, false≢true, false_from_ne_true}
use Rattle.std.proofs.lemmas.List.Folds.{list_any-append}
use Rattle.std.proofs.lemmas.Map.Keys.{IsDistinct-tail}
use Rattle.mt_terms.specs.Rounds.{is_same_agent, is_on}
use Rattle.mt_terms.specs.declared.numbers.Agent.{Agent}
use Rattle.mt_terms.specs.declared.numbers.Agent.TheVariants.{Single, Couple}
use Rattle.mt_terms.specs.contracts.numbers.AgentPartialEq.TheImpl.{eq-value}
use Rattle.mt_terms.proofs.AgentFacts.{is_same_agent_refl, same_agent}
use Rattle.mt_stage_tables.specs.Waiting.{IsWithin, WaitOnce}

-- each agent on a list is of a kind
abbrev pub AreWithin : ℕ → ℕ → List Agent → Type 0
AreWithin n c gs = (g : Agent) → IsTrue (is_on gs g) → IsWithin n c g

same_back : (g h : Agent) → is_same_agent g h ≡ false → is_same_agent h g ≡ false
same_back g h other = false_from_ne_true _ (λ same. both_ways (is_same_agent g h) other (ap (is_same_agent g) (same_agent h g same) ∙ is_same_agent_refl g))

pub first_off : (g : Agent) (gs : List Agent) → AllByRecursion (λ y. is_same_agent g y ≡ false) gs → is_on gs g ≡ false
first_off g [] h = refl
first_off g (x ∷ xs) h = or_from _ _ h.0 (first_off g xs h.1)

-- one more at the end
apart_more : (x g : Agent) (xs : List Agent) → AllByRecursion (λ y. is_same_agent x y ≡ false) xs → is_same_agent x g ≡ false
    → AllByRecursion (λ y. is_same_agent x y ≡ false) (xs ++ g ∷ [])
apart_more x g [] h other = (other, tt)
apart_more x g (y ∷ ys) h other = (h.0, apart_more x g ys h.1 other)

once_more : (g : Agent) (gs : List Agent) → IsDistinct is_same_agent gs → is_on gs g ≡ false → IsDistinct is_same_agent (gs ++ g ∷ [])
unfolding IsDistinct
once_more g [] once off = (tt, tt)
once_more g (x ∷ xs) once off =
    let parts = or_parts (is_same_agent g x) (is_on xs g) off in
    (apart_more x g xs once.0 (same_back g x parts.0), once_more g xs once.1 parts.1)

all_with : (n c : ℕ) (g : Agent) (gs : List Agent) → IsWithin n c g → AreWithin n c gs → AreWithin n c (gs ++ g ∷ [])
all_with n c g gs g_in all h on = elim (or_cases (is_on gs h) (is_on (g ∷ []) h) (sym (list_any-append (is_same_agent h) gs (g ∷ [])) ∙ on)) [
  | inl before ↦ all h before
  | inr last ↦ elim (or_cases (is_same_agent h g) false last) [
    | inl same ↦ subst (IsWithin n c) (sym (same_agent h g same)) g_in
    | inr none ↦ absurd (false≢true none)
  ]
]

-- one more joins, and the one in front is taken
pub wait_joined : (n c : ℕ) (g : Agent) (gs : List Agent) → WaitOnce n c gs → IsWithin n c g → is_on gs g ≡ false → WaitOnce n c (gs ++ g ∷ [])
wait_joined n c g gs h g_in off = record { once = once_more g gs h.once off; known = all_with n c g gs g_in h.known }

pub wait_rest : (n c : ℕ) (g : Agent) (gs : List Agent) → WaitOnce n c (g ∷ gs) → WaitOnce n c gs
wait_rest n c g gs h = record {
  once = IsDistinct-tail is_same_agent g gs h.once;
  known = λ x on. h.known x (or_right (is_same_agent x g) (is_on gs x) on);
}

-- agents are equal by their kinds and numbers
pub same_eq : (g h : Agent) → eq-value.it g h ≡ is_same_agent g h
same_eq (Single a) (Single b) = refl
same_eq (Single a) (Couple d) = refl
same_eq (Couple c) (Single b) = refl
same_eq (Couple c) (Couple d) = refl
