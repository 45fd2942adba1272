-- A program's choice as the set grows, and that it is full above whom it refuses.
use Rattle.std.proofs.Common.{◌≡◌, ℕ, ◌+◌, ◌-◌, ◌≤◌, Bool, true, false, not, ◌&&◌, ◌==◌, nat_lt, List, [], ◌∷◌, IsTrue, IsFalse, refl, ap, sym, if◌then◌else◌, arith, eq-eqb, ne_eqb, ◌≢◌, inl, inr, min, ltb-false, subst}
use Rattle.std.proofs.lemmas.Bool.{both_ways, and_parts, and_from, false_from_ne_true, not-true}
use Rattle.std.proofs.lemmas.Bool.Decides.{nat_tests}
use Rattle.mt_terms.specs.Lists.{Set, has, until, is_distinct, with_one, above, count}
use Rattle.mt_terms.specs.Market.{Program}
use Rattle.mt_terms.specs.Choice.{choice}
use Rattle.mt_stability_laws.proofs.ListLemmas.{count_agree, has-until}
use Rattle.mt_stability_laws.proofs.ChoiceLemmas.{growing_choice_lem}

-- the choice from a set with one member more takes nobody else whom the set's choice doesn't take
pub choice_with_one : (p : Program) (set : Set) (a b : ℕ) → b ≢ a → IsFalse (choice p set b) → IsFalse (choice p (with_one set a) b)
choice_with_one p set a b other out =
    false_from_ne_true _ (λ now. elim (growing_choice_lem p set a b now) [ inl same ↦ other same | inr before ↦ both_ways _ out before ])

-- a count of a front that is empty or begins with a number
count_front : (set : Set) (x : ℕ) (xs : List ℕ) (here : Bool) → count set (if here then [] else (x ∷ xs)) ≡ (if here then 0 else ((if set x then 1 else 0) + count set xs))
count_front set x xs true = refl
count_front set x xs false = refl

-- how many stand above a number on a list, by its head
above-cons : (set : Set) (x : ℕ) (xs : List ℕ) (a : ℕ) → above set (x ∷ xs) a ≡ (if x == a then 0 else ((if set x then 1 else 0) + above set xs a))
above-cons set x xs a = count_front set x (until (λ y. y == a) xs) (x == a)

-- whether a number is of a set of which, with k others, fewer than q stand above it on a list
abbrev first_few : Set → ℕ → ℕ → List ℕ → Set
first_few set k q xs x = set x && nat_lt (k + above set xs x) q

-- at a list's head nobody of it stands above
first_few-head : (set : Set) (k q x : ℕ) (xs : List ℕ) → first_few set k q (x ∷ xs) x ≡ (set x && nat_lt k q)
first_few-head set k q x xs = let e : k + above set (x ∷ xs) x ≡ k = rw (above-cons set x xs x, eq-eqb x x refl) (omega arith) in ap (λ n. set x && nat_lt n q) e

-- further down a list its head counts with the others
first_few-tail : (set : Set) (k q x : ℕ) (xs : List ℕ) → IsTrue (is_distinct (x ∷ xs)) → (y : ℕ) → IsTrue (has xs y)
    → first_few set k q (x ∷ xs) y ≡ first_few set (k + (if set x then 1 else 0)) q xs y
first_few-tail set k q x xs distinct y on =
    let e : k + above set (x ∷ xs) y ≡ k + (if set x then 1 else 0) + above set xs y = rw (above-cons set x xs y, other) (omega arith) in
    ap (λ n. set y && nat_lt n q) e
  where
    other : IsFalse (x == y)
    other = ne_eqb x y (λ same. both_ways _ (not-true _ (and_parts (not (has xs x)) (is_distinct xs) distinct).0) (subst (λ (z : ℕ). IsTrue (has xs z)) (sym same) on))

-- the first few of a list are at most q
count-first_few : (set : Set) (k q : ℕ) (xs : List ℕ) → IsTrue (is_distinct xs) → count (first_few set k q xs) xs ≤ q - k
count-first_few set k q [] distinct = omega arith
count-first_few set k q (x ∷ xs) distinct =
    joined (set x) (first_few set k q (x ∷ xs) x) _ _ (first_few-head set k q x xs)
    (count_agree (first_few set k q (x ∷ xs)) (first_few set (k + (if set x then 1 else 0)) q xs) xs (first_few-tail set k q x xs distinct))
    (count-first_few set (k + (if set x then 1 else 0)) q xs (and_parts (not (has xs x)) (is_distinct xs) distinct).1)
  where
    joined : (b taken : Bool) (n n' : ℕ) → taken ≡ (b && nat_lt k q) → n ≡ n' → n' ≤ q - (k + (if b then 1 else 0)) → (if taken then 1 else 0) + n ≤ q - k
    joined b taken n n' is alike rest = grind (arith, nat_tests)

-- above a number, the first few are q, or all members of the set there
above-first_few : (set : Set) (k q : ℕ) (xs : List ℕ) (a : ℕ) → IsTrue (is_distinct xs) → min q (k + above set xs a) ≤ k + above (first_few set k q xs) xs a
above-first_few set k q [] a distinct = omega arith
above-first_few set k q (x ∷ xs) a distinct =
    joined (set x) (first_few set k q (x ∷ xs) x) (x == a) _ _ _ (first_few-head set k q x xs)
    (count_agree (first_few set k q (x ∷ xs)) (first_few set (k + (if set x then 1 else 0)) q xs) (until (λ y. y == a) xs)
    (λ y on. first_few-tail set k q x xs distinct y (has-until (λ z. z == a) xs y on)))
    (above-first_few set (k + (if set x then 1 else 0)) q xs a (and_parts (not (has xs x)) (is_distinct xs) distinct).1)
    _ _ (above-cons set x xs a) (above-cons (first_few set k q (x ∷ xs)) x xs a)
  where
    joined : (b taken here : Bool) (n few few' : ℕ) → taken ≡ (b && nat_lt k q) → few ≡ few' → min q (k + (if b then 1 else 0) + n) ≤ k + (if b then 1 else 0) + few'
        → (all all_few : ℕ) → (all ≡ (if here then 0 else ((if b then 1 else 0) + n))) → (all_few ≡ (if here then 0 else ((if taken then 1 else 0) + few)))
        → min q (k + all) ≤ k + all_few
    joined b taken here n few few' is alike rest all all_few e1 e2 = grind (arith, nat_tests)

-- a program's choice is the first few of its list up to the quota
choice-first_few : (p : Program) (set : Set) (a : ℕ) → IsTrue (has p.ranking a) → choice p set a ≡ first_few set 0 p.quota p.ranking a
choice-first_few p set a on = by_tests (has p.ranking a) (set a) (above set p.ranking a) on
  where
    by_tests : (listed member : Bool) (n : ℕ) → IsTrue listed → (listed && member && nat_lt n p.quota) ≡ (member && nat_lt (0 + n) p.quota)
    by_tests listed member n h = grind (arith, nat_tests)

-- a program chooses no more than its quota
pub count-choice : (p : Program) (set : Set) → IsTrue (is_distinct p.ranking) → count (choice p set) p.ranking ≤ p.quota
count-choice p set distinct =
    omega (arith, count-first_few set 0 p.quota p.ranking distinct, count_agree (choice p set) (first_few set 0 p.quota p.ranking) p.ranking (choice-first_few p set))

-- above whom a program lists and doesn't choose, it chooses its quota
pub above-choice : (p : Program) (set : Set) (a : ℕ) → IsTrue (is_distinct p.ranking) → IsTrue (has p.ranking a) → IsTrue (set a) → IsFalse (choice p set a)
    → p.quota ≤ above (choice p set) p.ranking a
above-choice p set a distinct listed member out =
    let few = above-first_few set 0 p.quota p.ranking a distinct in
    let alike = count_agree (choice p set) (first_few set 0 p.quota p.ranking) (until (λ y. y == a) p.ranking) (λ y on. choice-first_few p set y (has-until (λ z. z == a) p.ranking y on)) in
    omega (arith, few, alike, full)
  where
    full : p.quota ≤ above set p.ranking a
    full = ltb-false _ _ (false_from_ne_true _ (λ few. both_ways _ out (and_from _ _ (and_from _ _ listed member) few)))
