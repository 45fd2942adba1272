-- Whose member an applicant is, among couples that are named by number. Such a couple is the one that the market gives
-- the applicant, so its place in the list is the number of the agent.
use Rattle.std.proofs.Common.{◌≡◌, ℕ, zero, suc, ◌+◌, ◌<◌, true, false, ◌==◌, List, [], ◌∷◌, map, length, inl, inr, refl, ap, sym, ◌∙◌, arith, subst, get_or, eq-eqb}
use Rattle.std.proofs.lemmas.Bool.{or_left, or_right, false_from_ne_true}
use Rattle.mt_terms.specs.Lists.{has, is_distinct}
use Rattle.mt_terms.specs.Market.{Market, Partners, couple_of, is_member, agent_from, agent_of, members}
use Rattle.mt_terms.specs.WellFormed.{IsWellFormed}
use Rattle.mt_terms.specs.declared.numbers.Agent.TheVariants.{Single, Couple}
use Rattle.mt_terms.proofs.ListFacts.{head_differs, tail_distinct}
use Rattle.mt_round_laws.proofs.RoundsAgents.{IsAgent, couple_members, member_of_agent, one_of_two, either_member}

-- and the other way round
pub has_member_of : (p : Partners) (a : ℕ) → has (p.first ∷ p.second ∷ []) a ≡ true → is_member p a ≡ true
has_member_of p a h = elim (one_of_two p.first p.second a h) [
  | inl e ↦ or_left (p.first == a) (p.second == a) (eq-eqb _ _ e)
  | inr e ↦ or_right (p.first == a) (p.second == a) (eq-eqb _ _ e)
]

-- A couple of the market has the members whose couple it is.
pub belongs_to : (m : Market) → IsWellFormed m → (c a : ℕ) → c < length m.couples → is_member (couple_of m c) a ≡ true → agent_of m a ≡ Couple c
belongs_to m wf c a l h = IsAgent.belongs (couple_members m wf c l) a (either_member (couple_of m c) a h)

pub member_by_agent : (m : Market) (c a : ℕ) → agent_of m a ≡ Couple c → is_member (couple_of m c) a ≡ true
member_by_agent m c a e = has_member_of (couple_of m c) a (subst (λ g. has (members m g) a ≡ true) e (member_of_agent m a))

module _ (m : Market) (wf : IsWellFormed m) (couple : ℕ → Partners) (a : ℕ) where
  -- an applicant that belongs to none of them is a single among them
  pub single_among : (order : List ℕ) (k : ℕ) → ((c a : ℕ) → has order c ≡ true → is_member (couple c) a ≡ is_member (couple_of m c) a)
      → ((c : ℕ) → has order c ≡ true → c < length m.couples) → ((c : ℕ) → has order c ≡ true → agent_of m a ≡ Couple c → ⊥)
      → agent_from (map couple order) k a ≡ Single a
  single_among [] k are within none = refl
  single_among (x ∷ xs) k are within none =
      let head : has (x ∷ xs) x ≡ true = or_left (x == x) (has xs x) (eq-eqb x x refl) in
      let no : is_member (couple x) a ≡ false =
      false_from_ne_true (is_member (couple x) a) (λ h. none x head (belongs_to m wf x a (within x head) (sym (are x a head) ∙ h))) in
      rw no (single_among xs (k + 1) (λ c b i. are c b (or_right (x == c) (has xs c) i))
      (λ c i. within c (or_right (x == c) (has xs c) i)) (λ c i. none c (or_right (x == c) (has xs c) i)))

  -- an applicant that belongs to one of them has that one's place as its number
  pub couple_among : (order : List ℕ) (k i : ℕ) → ((c a : ℕ) → has order c ≡ true → is_member (couple c) a ≡ is_member (couple_of m c) a)
      → ((c : ℕ) → has order c ≡ true → c < length m.couples) → is_distinct order ≡ true → i < length order → agent_of m a ≡ Couple (get_or order i 0)
      → agent_from (map couple order) k a ≡ Couple (k + i)
  couple_among [] k i are within distinct l is = absurd (omega arith)
  couple_among (x ∷ xs) k zero are within distinct l is =
      let head : has (x ∷ xs) x ≡ true = or_left (x == x) (has xs x) (eq-eqb x x refl) in
      let yes : is_member (couple x) a ≡ true = are x a head ∙ member_by_agent m x a is in
      rw yes (ap Couple (omega arith))
  couple_among (x ∷ xs) k (suc i) are within distinct l is =
      let head : has (x ∷ xs) x ≡ true = or_left (x == x) (has xs x) (eq-eqb x x refl) in
      let no : is_member (couple x) a ≡ false =
      false_from_ne_true (is_member (couple x) a) (λ h.
      let here : agent_of m a ≡ Couple x = belongs_to m wf x a (within x head) (sym (are x a head) ∙ h) in
      let both : Couple x ≡ Couple (get_or xs i 0) = sym here ∙ is in
      head_differs x xs i distinct (omega arith) cc) in
      rw no (couple_among xs (k + 1) i (λ c b j. are c b (or_right (x == c) (has xs c) j))
      (λ c j. within c (or_right (x == c) (has xs c) j)) (tail_distinct x xs distinct) (omega arith) is ∙ ap Couple (omega arith))
