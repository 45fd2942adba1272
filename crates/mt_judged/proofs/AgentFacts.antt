-- The agents of a market, applicant by applicant.
use Rattle.std.proofs.Common.{◌≡◌, ℕ, zero, suc, ◌+◌, ◌≤◌, true, false, List, [], ◌∷◌, ◌++◌, map, filter, refl, sym, ap, ◌∙◌, inl, inr, arith}
use Rattle.std.specs.List.{All, range_with_len}
use Rattle.std.proofs.lemmas.Bool.{cases_Bool}
use Rattle.std.proofs.lemmas.List.{append-nil, map-append}
use Rattle.std.proofs.lemmas.List.Elements.{All-cons, filter-append}
use Rattle.mt_terms.specs.Lists.{Set, below}
use Rattle.mt_terms.specs.Market.{Market, agent_of, agents, applicants, leads, IsAgentOf}
use Rattle.mt_terms.specs.declared.numbers.Agent.{Agent}
use Rattle.mt_explain.proofs.LawFacts.{agent_numbered}
use Rattle.mt_terms.proofs.BelowFacts.{below_more}

all_none : {X : Type 0} (P : X → Type 0) → All P []
all_none P = λ i d h. absurd (omega arith)

-- the agents of a range of applicants
among_range : (m : Market) (keep : Set) (low n : ℕ) → low + n ≤ applicants m → All (IsAgentOf m) (map (agent_of m) (filter keep (range_with_len low n)))
among_range m keep low zero h = all_none (IsAgentOf m)
among_range m keep low (suc n) h =
    let later = among_range m keep (low + 1) n (omega arith) in
    elim (cases_Bool (keep low)) [
      | inl kept ↦ rw kept (All-cons (IsAgentOf m) (agent_of m low) (map (agent_of m) (filter keep (range_with_len (low + 1) n))) (agent_numbered m low (omega arith)) later)
      | inr dropped ↦ rw dropped later
    ]

-- all agents of a market are there
pub agents_numbered : (m : Market) → All (IsAgentOf m) (agents m)
agents_numbered m = among_range m (leads m) 0 (applicants m) (omega arith)

-- the agents of one applicant more
module _ (m : Market) (n : ℕ) where
  so_many : ℕ → List Agent
  so_many k = map (agent_of m) (filter (leads m) (below k))

  agents_next : so_many (n + 1) ≡ so_many n ++ map (agent_of m) (filter (leads m) (n ∷ []))
  unfolding so_many
  agents_next =
      ap (λ (xs : List ℕ). map (agent_of m) (filter (leads m) xs)) (below_more n)
      ∙ ap (map (agent_of m)) (filter-append (leads m) (below n) (n ∷ []))
      ∙ map-append (agent_of m) (filter (leads m) (below n)) (filter (leads m) (n ∷ []))

  pub agents_with : (gs : List Agent) → leads m n ≡ true → gs ≡ map (agent_of m) (filter (leads m) (below n))
      → gs ++ agent_of m n ∷ [] ≡ map (agent_of m) (filter (leads m) (below (n + 1)))
  unfolding so_many
  agents_with gs leading is =
      let one : map (agent_of m) (filter (leads m) (n ∷ [])) ≡ agent_of m n ∷ [] = rw leading refl in
      ap (λ (xs : List Agent). xs ++ agent_of m n ∷ []) is ∙ sym (agents_next ∙ ap (λ (xs : List Agent). map (agent_of m) (filter (leads m) (below n)) ++ xs) one)

  pub agents_without : (gs : List Agent) → leads m n ≡ false → gs ≡ map (agent_of m) (filter (leads m) (below n))
      → gs ≡ map (agent_of m) (filter (leads m) (below (n + 1)))
  unfolding so_many
  agents_without gs following is =
      let none : map (agent_of m) (filter (leads m) (n ∷ [])) ≡ [] = rw following refl in
      is ∙ sym (agents_next ∙ ap (λ (xs : List Agent). map (agent_of m) (filter (leads m) (below n)) ++ xs) none ∙ append-nil (map (agent_of m) (filter (leads m) (below n))))
