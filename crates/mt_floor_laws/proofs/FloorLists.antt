-- Fronts of a list of numbers: what they have, and where they end.
use Rattle.std.proofs.Common.{◌≡◌, ℕ, zero, suc, ◌-◌, ◌≤◌, false, ◌||◌, ◌==◌, List, [], ◌∷◌, take, filter, Some, slice_get, IsTrue, IsFalse, refl, arith, eq-eqb}
use Rattle.std.proofs.lemmas.Bool.{both_ways, or_left, or_right}
use Rattle.std.proofs.lemmas.Bool.Decides.{nat_tests}
use Rattle.mt_terms.specs.Lists.{Set, has, until, through, is_distinct}

-- what stands before an element of a front stands in that front but for its last element
has-before_last : (xs : List ℕ) (k p q : ℕ) → IsTrue (has (take (suc k) xs) p) → IsTrue (has (until (λ x. x == p) xs) q) → IsTrue (has (take k xs) q)
has-before_last [] k p q on before = absurd (both_ways false refl before)
has-before_last (x ∷ xs) zero p q on before = grind (arith, nat_tests)
has-before_last (x ∷ xs) (suc k) p q on before = grind (arith, nat_tests, has-before_last xs k p q)

-- the same of a front of any length
pub has-until-take : (xs : List ℕ) (n p q : ℕ) → IsTrue (has (take n xs) p) → IsTrue (has (until (λ x. x == p) xs) q) → IsTrue (has (take (n - 1) xs) q)
has-until-take xs zero p q on before = absurd (both_ways false refl on)
has-until-take xs (suc k) p q on before = let e : suc k - 1 ≡ k = omega arith in rw e (has-before_last xs k p q on before)

-- a longer front has what a shorter one has
pub has-take-le : (xs : List ℕ) (j k q : ℕ) → j ≤ k → IsTrue (has (take j xs) q) → IsTrue (has (take k xs) q)
has-take-le [] zero k q le on = absurd (both_ways false refl on)
has-take-le [] (suc j) k q le on = absurd (both_ways false refl on)
has-take-le (x ∷ xs) zero k q le on = absurd (both_ways false refl on)
has-take-le (x ∷ xs) (suc j) zero q le on = absurd (omega arith)
has-take-le (x ∷ xs) (suc j) (suc k) q le on = grind (arith, nat_tests, has-take-le xs j k q)

-- a front with one element more
pub has-take-suc : (xs : List ℕ) (k p q : ℕ) → slice_get xs k ≡ Some p → has (take (suc k) xs) q ≡ (has (take k xs) q || (p == q))
has-take-suc [] k p q e = cc
has-take-suc (x ∷ xs) zero p q e = grind (arith, nat_tests)
has-take-suc (x ∷ xs) (suc k) p q e = grind (arith, nat_tests, has-take-suc xs k p q)

-- the element at a place is on the list
pub has-get : (xs : List ℕ) (k p : ℕ) → slice_get xs k ≡ Some p → IsTrue (has xs p)
has-get [] k p e = cc
has-get (x ∷ xs) zero p e = grind (arith, nat_tests)
has-get (x ∷ xs) (suc k) p e = grind (arith, nat_tests, has-get xs k p)

-- no element of a list without repeats stands in the front before it
pub has-take_before : (xs : List ℕ) (k p : ℕ) → IsTrue (is_distinct xs) → slice_get xs k ≡ Some p → IsFalse (has (take k xs) p)
has-take_before [] k p d e = cc
has-take_before (x ∷ xs) zero p d e = refl
has-take_before (x ∷ xs) (suc k) p d e = grind (arith, nat_tests, has-take_before xs k p, has-get xs k p)

-- the front before the first element that passes, if the element at a place passes
pub has-until-get : (test : Set) (xs : List ℕ) (k p q : ℕ) → slice_get xs k ≡ Some p → IsTrue (test p) → IsTrue (has (until test xs) q) → IsTrue (has (take k xs) q)
has-until-get test [] k p q e pass before = absurd (both_ways false refl before)
has-until-get test (x ∷ xs) zero p q e pass before = grind (arith, nat_tests)
has-until-get test (x ∷ xs) (suc k) p q e pass before = grind (arith, nat_tests, has-until-get test xs k p q)

-- the front up to the first element that passes, if that is the one at this place
pub through-get : (test : Set) (xs : List ℕ) (k p : ℕ) → slice_get xs k ≡ Some p → IsTrue (test p)
    → ((q : ℕ) → IsTrue (has (take k xs) q) → IsFalse (test q)) → through test xs ≡ take (suc k) xs
through-get test [] k p e pass none = cc
through-get test (x ∷ xs) zero p e pass none = grind (arith, nat_tests)
through-get test (x ∷ xs) (suc k) p e pass none =
    let head : IsFalse (test x) = none x (or_left _ _ (eq-eqb x x refl)) in
    let rest : through test xs ≡ take (suc k) xs = through-get test xs k p e pass (λ q h. none q (or_right _ _ h)) in
    grind (arith, nat_tests)

-- the whole list, if none passes
pub through_none : (test : Set) (xs : List ℕ) → ((q : ℕ) → IsTrue (has xs q) → IsFalse (test q)) → through test xs ≡ xs
through_none test [] none = refl
through_none test (x ∷ xs) none =
    let head : IsFalse (test x) = none x (or_left _ _ (eq-eqb x x refl)) in
    let rest : through test xs ≡ xs = through_none test xs (λ q h. none q (or_right _ _ h)) in
    grind (arith, nat_tests)

-- the front of a filtered list has what passes of the list's front
pub has-until-filter : (test kept : Set) (xs : List ℕ) (q : ℕ) → IsTrue (has (until test xs) q) → IsTrue (kept q) → IsTrue (has (until test (filter kept xs)) q)
has-until-filter test kept [] q before keep = before
has-until-filter test kept (x ∷ xs) q before keep = grind (arith, nat_tests, has-until-filter test kept xs q)
