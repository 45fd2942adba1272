-- What an applicant's entries say of its positions on the programs' lists.
use Rattle.std.proofs.Common.{◌≡◌, ◌==◌, ℕ, zero, suc, ◌+◌, ◌<◌, ◌≤◌, List, [], ◌∷◌, ◌++◌, true, false, Option, Some, None, IfSome, eqb, IsTrue, not, get_or, refl, sym, ap, ◌∙◌, inl, inr, arith}
use Rattle.std.specs.Option.{is_some}
use Rattle.std.specs.List.{position, position_from}
use Rattle.std.proofs.lemmas.Bool.{cases_Bool, eqb-true, eq-eqb, ne_eqb, and_parts, or_parts, not-true}
use Rattle.std.proofs.lemmas.Iterator.Adapters.{position_from-zero}
use Rattle.std.proofs.lemmas.List.Quantifiers.{position-Some}
use Rattle.mt_terms.specs.Lists.{has, is_distinct}
use Rattle.mt_ranks.specs.Entries.{entries_in, entries_from, rank_among, AscendFrom}
use Rattle.mt_ranks.specs.Ranked.{IsRank}
use Rattle.mt_ranks.specs.declared.entries.Live.{Live}
use Rattle.mt_ranks.proofs.ListedFacts.{AreDistinct}

-- the first of two answers
abbrev or_else : Option ℕ → Option ℕ → Option ℕ
or_else None o = o
or_else (Some x) o = Some x

-- Below, entries at one program stand before others.
rank_here : (p i : ℕ) (xs : List ℕ) (a : ℕ) (rest : List Live) → rank_among (entries_in p i xs a ++ rest) p ≡ or_else (position_from (λ x. eqb x a) i xs) (rank_among rest p)
rank_here p i [] a rest = refl
rank_here p i (x ∷ xs) a rest =
    elim (cases_Bool (eqb x a)) as (λ o. rank_among (entries_in p i (x ∷ xs) a ++ rest) p ≡ or_else (position_from (λ y. eqb y a) i (x ∷ xs)) (rank_among rest p)) [
      | inl is_a ↦ rw is_a (rw (eq-eqb p p refl) refl)
      | inr other ↦ rw other (rank_here p (i + 1) xs a rest)
    ]

rank_elsewhere : (p q i : ℕ) (xs : List ℕ) (a : ℕ) (rest : List Live) → (q ≡ p → ⊥) → rank_among (entries_in q i xs a ++ rest) p ≡ rank_among rest p
rank_elsewhere p q i [] a rest ne = refl
rank_elsewhere p q i (x ∷ xs) a rest ne =
    elim (cases_Bool (eqb x a)) as (λ o. rank_among (entries_in q i (x ∷ xs) a ++ rest) p ≡ rank_among rest p) [
      | inl is_a ↦ rw is_a (rw (ne_eqb q p ne) (rank_elsewhere p q (i + 1) xs a rest ne))
      | inr other ↦ rw other (rank_elsewhere p q (i + 1) xs a rest ne)
    ]

rank_before : (p q : ℕ) (rs : List (List ℕ)) (a : ℕ) → p < q → rank_among (entries_from q rs a) p ≡ None
rank_before p q [] a h = refl
rank_before p q (r ∷ rs) a h = rank_elsewhere p q 0 r a (entries_from (q + 1) rs a) (λ e. absurd (omega arith)) ∙ rank_before p (q + 1) rs a (omega arith)

or_else-None : (o : Option ℕ) → or_else o None ≡ o
or_else-None None = refl
or_else-None (Some x) = refl

rank_from : (q k p : ℕ) (rs : List (List ℕ)) (a : ℕ) → q + k ≡ p → rank_among (entries_from q rs a) p ≡ position_from (λ x. eqb x a) 0 (get_or rs k [])
rank_from q k p [] a h = refl
rank_from q zero p (r ∷ rs) a h =
    let e : q ≡ p = omega arith in
    let none : rank_among (entries_from (q + 1) rs a) p ≡ None = rank_before p (q + 1) rs a (omega arith) in
    rw e (rank_here p 0 r a (entries_from (p + 1) rs a) ∙ rw (rw e at none) (or_else-None (position_from (λ x. eqb x a) 0 r)))
rank_from q (suc k) p (r ∷ rs) a h =
    rank_elsewhere p q 0 r a (entries_from (q + 1) rs a) (λ e. absurd (omega arith)) ∙ rank_from (q + 1) k p rs a (omega arith)

-- the rank at a program, among all of an applicant's entries, is its position on the program's list
pub rank_among-entries : (rs : List (List ℕ)) (a p : ℕ) → rank_among (entries_from 0 rs a) p ≡ position (λ x. x == a) (get_or rs p [])
rank_among-entries rs a p = rank_from 0 p p rs a (omega arith) ∙ sym (position_from-zero (λ x. eqb x a) (get_or rs p []))

AscendFrom-weaker : (p q : ℕ) (xs : List Live) → p ≤ q → AscendFrom q xs → AscendFrom p xs
AscendFrom-weaker p q [] h up = tt
AscendFrom-weaker p q (x ∷ xs) h up = (omega (arith, up.0), up.1)

no_entries : (p i : ℕ) (xs : List ℕ) (a : ℕ) → has xs a ≡ false → entries_in p i xs a ≡ []
no_entries p i [] a h = refl
no_entries p i (x ∷ xs) a h =
    let parts : (eqb x a ≡ false) × (has xs a ≡ false) = or_parts (eqb x a) (has xs a) h in
    rw parts.0 (no_entries p (i + 1) xs a parts.1)

ascend_here : (p i : ℕ) (xs : List ℕ) (a : ℕ) (rest : List Live) → IsTrue (is_distinct xs) → AscendFrom (p + 1) rest → AscendFrom p (entries_in p i xs a ++ rest)
ascend_here p i [] a rest d up = AscendFrom-weaker p (p + 1) rest (omega arith) up
ascend_here p i (x ∷ xs) a rest d up =
    let parts : (not (has xs x) ≡ true) × (is_distinct xs ≡ true) = and_parts (not (has xs x)) (is_distinct xs) d in
    elim (cases_Bool (eqb x a)) as (λ o. AscendFrom p (entries_in p i (x ∷ xs) a ++ rest)) [
      | inl is_a ↦
          let none : entries_in p (i + 1) xs a ≡ [] = no_entries p (i + 1) xs a (rw (eqb-true x a is_a) at (not-true (has xs x) parts.0)) in
          rw (is_a, none) (omega arith, up)
      | inr other ↦ rw other (ascend_here p (i + 1) xs a rest parts.1 up)
    ]

ascend_from : (p : ℕ) (rs : List (List ℕ)) (a : ℕ) → AreDistinct rs → AscendFrom p (entries_from p rs a)
ascend_from p [] a d = tt
ascend_from p (r ∷ rs) a d = ascend_here p 0 r a (entries_from (p + 1) rs a) (d 0) (ascend_from (p + 1) rs a (λ k. d (suc k)))

-- the entries of an applicant are in the order of their programs
pub entries_ascend : (rs : List (List ℕ)) (a : ℕ) → AreDistinct rs → AscendFrom 0 (entries_from 0 rs a)
entries_ascend rs a d = ascend_from 0 rs a d

has-position_from : (i : ℕ) (xs : List ℕ) (a : ℕ) → has xs a ≡ is_some (position_from (λ x. eqb x a) i xs)
has-position_from i [] a = refl
has-position_from i (x ∷ xs) a =
    elim (cases_Bool (eqb x a)) as (λ o. has (x ∷ xs) a ≡ is_some (position_from (λ y. eqb y a) i (x ∷ xs))) [
      | inl is_a ↦ rw is_a refl
      | inr other ↦ rw other (has-position_from (i + 1) xs a)
    ]

-- a list has a number if and only if the number has a position on it
pub has-position : (xs : List ℕ) (a : ℕ) → has xs a ≡ is_some (position (λ x. x == a) xs)
has-position xs a = has-position_from 0 xs a ∙ ap is_some (sym (position_from-zero (λ x. eqb x a) xs))

pub IsRank-from_position : (xs : List ℕ) (a r : ℕ) → position (λ x. x == a) xs ≡ Some r → IsRank xs a r
IsRank-from_position xs a r h =
    let at = position-Some (λ x. eqb x a) xs r 0 h in
    record { found = h; within = at.0; stands = eqb-true (get_or xs r 0) a at.1 }

pub found_ranks : (xs : List ℕ) (a : ℕ) (o : Option ℕ) → o ≡ position (λ x. x == a) xs → IfSome o (IsRank xs a)
found_ranks xs a None h = tt
found_ranks xs a (Some r) h = IsRank-from_position xs a r (sym h)
