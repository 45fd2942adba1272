-- Lists of numbers as sets: what passes a test, what stands before a first one, and how many.
use Rattle.std.proofs.Common.{◌≡◌, ℕ, zero, suc, ◌+◌, ◌<◌, ◌≤◌, Bool, true, false, not, ◌||◌, ◌==◌, List, [], ◌∷◌, map, filter, length, None, IsTrue, IsFalse, refl, ap, sym, ◌∙◌, arith, eq-eqb, ne_eqb, slice_index_or, slice_set, if◌then◌else◌, ◌⊎◌, ◌≢◌, subst, inl, inr, eq-or-lt_of_le}
use Rattle.std.specs.List.{list_any, list_all, range_with_len, find}
use Rattle.std.proofs.lemmas.Bool.{and_parts, and_from, or_parts, or_from, or_left, or_right, not-true, not-false, not_from_true, not_from_false, cases_Bool, both_ways}
use Rattle.std.proofs.lemmas.Bool.Decides.{nat_tests}
use mathlib.Core.Path.{fun_ext}
use Rattle.mt_terms.specs.Lists.{Set, has, until, count, above, below, with_one}
use Rattle.mt_terms.proofs.ListFacts.{with_one-other}
use Rattle.mt_terms.proofs.AgentFacts.{eqb_sym}
pub use Rattle.mt_terms.proofs.ListFacts.{count_agree}

-- all numbers of a range pass if each of them does
all_in_range : (test : Set) (a n : ℕ) → ((k : ℕ) → a ≤ k → k < a + n → IsTrue (test k)) → IsTrue (list_all test (range_with_len a n))
all_in_range test a zero h = refl
all_in_range test a (suc n) h =
    and_from _ _ (h a (omega arith) (omega arith)) (all_in_range test (a + 1) n (λ k low high. h k (omega arith) (omega arith)))

-- each number of a range passes if all of it does
each_in_range : (test : Set) (a n : ℕ) → IsTrue (list_all test (range_with_len a n)) → (k : ℕ) → a ≤ k → k < a + n → IsTrue (test k)
each_in_range test a zero h k low high = absurd (omega arith)
each_in_range test a (suc n) h k low high =
    let parts = and_parts (test a) (list_all test (range_with_len (a + 1) n)) h in
    elim (eq-or-lt_of_le low) [
      | inl here ↦ subst (λ (i : ℕ). IsTrue (test i)) here parts.0
      | inr later ↦ each_in_range test (a + 1) n parts.1 k (omega arith) (omega arith)
    ]

-- all numbers below n pass if each of them does
pub all_below : (test : Set) (n : ℕ) → ((k : ℕ) → k < n → IsTrue (test k)) → IsTrue (list_all test (below n))
all_below test n h = all_in_range test 0 n (λ k low high. h k (omega arith))

-- each number below n passes if all of them do
pub each_below : (test : Set) (n : ℕ) → IsTrue (list_all test (below n)) → (k : ℕ) → k < n → IsTrue (test k)
each_below test n h k k_below = each_in_range test 0 n h k (omega arith) (omega arith)

-- a search that finds nothing
pub nothing_found : {X : Type 0} (test : X → Bool) (xs : List X) → IsFalse (list_any test xs) → find test xs ≡ None
nothing_found test [] h = refl
nothing_found test (x ∷ xs) h =
    let parts = or_parts (test x) (list_any test xs) h in
    rw parts.0 (nothing_found test xs parts.1)

-- some element passes, unless all pass the opposite test
pub list_any-not : {X : Type 0} (test : X → Bool) (xs : List X) → list_any test xs ≡ not (list_all (λ x. not (test x)) xs)
list_any-not test [] = refl
list_any-not test (x ∷ xs) = grind (arith, list_any-not test xs)

-- none of the numbers below n passes if each of them fails
pub none_below : (test : Set) (n : ℕ) → ((k : ℕ) → k < n → IsFalse (test k)) → IsFalse (list_any test (below n))
none_below test n h =
    list_any-not test (below n)
    ∙ not_from_true _ (all_below (λ k. not (test k)) n (λ k k_below. not_from_false _ (h k k_below)))

-- each number below n fails if none of them passes
pub each_fails_below : (test : Set) (n : ℕ) → IsFalse (list_any test (below n)) → (k : ℕ) → k < n → IsFalse (test k)
each_fails_below test n h k k_below =
    not-true _ (each_below (λ i. not (test i)) n (not-false _ (sym (list_any-not test (below n)) ∙ h)) k k_below)

-- a number on a list passes if all of the list pass
pub each_has : (test : Set) (xs : List ℕ) (a : ℕ) → IsTrue (list_all test xs) → IsTrue (has xs a) → IsTrue (test a)
each_has test [] a all on = absurd (both_ways false refl on)
each_has test (x ∷ xs) a all on = grind (arith, nat_tests, each_has test xs a)

-- all of a list pass if each number on it does
pub all_from_has : (test : Set) (xs : List ℕ) → ((a : ℕ) → IsTrue (has xs a) → IsTrue (test a)) → IsTrue (list_all test xs)
all_from_has test [] h = refl
all_from_has test (x ∷ xs) h = and_from _ _ (h x (or_left _ _ (eq-eqb x x refl))) (all_from_has test xs (λ a on. h a (or_right _ _ on)))

-- nobody on a list passes if none of the list does
pub none_has : (test : Set) (xs : List ℕ) (a : ℕ) → IsFalse (list_any test xs) → IsTrue (has xs a) → IsFalse (test a)
none_has test [] a none on = absurd (both_ways false refl on)
none_has test (x ∷ xs) a none on = grind (arith, nat_tests, none_has test xs a)

-- none of a list passes if nobody on it does
pub none_from_each : (test : Set) (xs : List ℕ) → ((a : ℕ) → IsTrue (has xs a) → IsFalse (test a)) → IsFalse (list_any test xs)
none_from_each test [] h = refl
none_from_each test (x ∷ xs) h = or_from _ _ (h x (grind (arith, nat_tests))) (none_from_each test xs (λ a on. h a (or_right _ _ on)))

-- one step of the next lemma
until-map_step : {X Y : Type 0} (test : Y → Bool) (f : X → Y) (x : X) (xs : List X) (b : Bool)
    → until test (map f xs) ≡ map f (until (λ y. test (f y)) xs)
    → (if b then [] else (f x ∷ until test (map f xs))) ≡ map f (if b then [] else (x ∷ until (λ y. test (f y)) xs))
until-map_step test f x xs true h = refl
until-map_step test f x xs false h = ap (λ ys. f x ∷ ys) h

-- the front of a mapped list
pub until-map : {X Y : Type 0} (test : Y → Bool) (f : X → Y) (xs : List X) → until test (map f xs) ≡ map f (until (λ x. test (f x)) xs)
until-map test f [] = refl
until-map test f (x ∷ xs) = until-map_step test f x xs (test (f x)) (until-map test f xs)

-- a filter that everything passes
pub filter_all : {X : Type 0} (xs : List X) → filter (λ x. true) xs ≡ xs
filter_all [] = refl
filter_all (x ∷ xs) = ap (λ ys. x ∷ ys) (filter_all xs)

-- a count of elements that all fail
pub count_none : {X : Type 0} (test : X → Bool) (xs : List X) (d : X) → ((k : ℕ) → k < length xs → IsFalse (test (slice_index_or xs k d))) → count test xs ≡ 0
count_none test [] d h = refl
count_none test (x ∷ xs) d h =
    let here : IsFalse (test x) = h 0 (omega arith) in
    let rest = count_none test xs d (λ k k_in. h (suc k) (omega arith)) in
    rw (here, rest) (omega arith)

-- a set that holds of no fewer of a list counts no fewer there
pub count-le : (s t : Set) (xs : List ℕ) → ((b : ℕ) → IsTrue (s b) → IsTrue (t b)) → count s xs ≤ count t xs
count-le s t [] h = omega arith
count-le s t (x ∷ xs) h = grind (arith, nat_tests, count-le s t xs h, h x)

-- a member of a list is counted there
pub count_has : (set : Set) (xs : List ℕ) (b : ℕ) → IsTrue (has xs b) → IsTrue (set b) → 0 < count set xs
count_has set [] b on in_set = absurd (both_ways false refl on)
count_has set (x ∷ xs) b on in_set = grind (arith, nat_tests, count_has set xs b)

-- if a list has fewer of t than of s, some member of s on it is not of t
pub one_not_of : (s t : Set) (xs : List ℕ) → count t xs < count s xs → (b : ℕ) × IsTrue (has xs b) × IsTrue (s b) × IsFalse (t b)
one_not_of s t [] fewer = absurd (omega arith)
one_not_of s t (x ∷ xs) fewer =
    let later : count t xs < count s xs → (b : ℕ) × IsTrue (has (x ∷ xs) b) × IsTrue (s b) × IsFalse (t b) =
    λ lt. let r = one_not_of s t xs lt in (r.0, or_right _ _ r.1, r.2, r.3) in
    elim (cases_Bool (t x)) [
      | inl in_t ↦ later (grind (arith, nat_tests))
      | inr not_t ↦ elim (cases_Bool (s x)) [
        | inl in_s ↦ (x, or_left _ _ (eq-eqb x x refl), in_s, not_t)
        | inr not_s ↦ later (grind (arith, nat_tests))
      ]
    ]

-- the front of a list is of the list
pub has-until : (test : Set) (xs : List ℕ) (b : ℕ) → IsTrue (has (until test xs) b) → IsTrue (has xs b)
has-until test [] b on = on
has-until test (x ∷ xs) b on = grind (arith, nat_tests, has-until test xs b)

-- nobody stands above itself
pub until-itself : (xs : List ℕ) (a : ℕ) → IsFalse (has (until (λ x. x == a) xs) a)
until-itself [] a = refl
until-itself (x ∷ xs) a = grind (arith, nat_tests, until-itself xs a)

-- a number above another one has no more above it
pub above-le : (set : Set) (xs : List ℕ) (a b : ℕ) → IsTrue (has (until (λ x. x == a) xs) b) → above set xs b ≤ above set xs a
above-le set [] a b higher = omega arith
above-le set (x ∷ xs) a b higher = grind (arith, nat_tests, above-le set xs a b)

-- a member of a list has fewer above it than there are
pub above-lt : (set : Set) (xs : List ℕ) (a : ℕ) → IsTrue (has xs a) → IsTrue (set a) → above set xs a < count set xs
above-lt set [] a on in_set = absurd (both_ways false refl on)
above-lt set (x ∷ xs) a on in_set = grind (arith, nat_tests, above-lt set xs a)

-- of two on a list, one stands above the other
pub one_higher : (xs : List ℕ) (a b : ℕ) → a ≢ b → IsTrue (has xs a) → IsTrue (has xs b)
    → IsTrue (has (until (λ x. x == a) xs) b) ⊎ IsTrue (has (until (λ x. x == b) xs) a)
one_higher [] a b apart on_a on_b = absurd (both_ways false refl on_a)
one_higher (x ∷ xs) a b apart on_a on_b = grind (arith, nat_tests, one_higher xs a b)

-- if nobody passes, all of a list stands before the first that does
pub until_nobody : (xs : List ℕ) → until (λ x. false) xs ≡ xs
until_nobody [] = refl
until_nobody (x ∷ xs) = ap (λ ys. x ∷ ys) (until_nobody xs)

-- the front of a list before a number, whichever way the test is written
pub until_eqb_sym : (xs : List ℕ) (p : ℕ) → until (λ x. p == x) xs ≡ until (λ x. x == p) xs
until_eqb_sym xs p = ap (λ (test : Set). until test xs) (fun_ext λ x. eqb_sym p x)

-- what stands above p on a list, and passes, stands above p on the filtered list
pub until-filter : (test : Set) (xs : List ℕ) (p q : ℕ) → IsTrue (has (until (λ x. x == p) xs) q) → IsTrue (test q)
    → IsTrue (has (until (λ x. x == p) (filter test xs)) q)
until-filter test [] p q on passes = on
until-filter test (x ∷ xs) p q on passes = elim (cases_Bool (test x)) [
  | inl kept ↦ rw kept (grind (arith, nat_tests, until-filter test xs p q))
  | inr dropped ↦ rw dropped (grind (arith, nat_tests, until-filter test xs p q))
]

-- what stands above p on a list still does with one more at the front that isn't p
until_later : (xs : List ℕ) (x p q : ℕ) → IsFalse (x == p) → IsTrue (has (until (λ y. y == p) xs) q) → IsTrue (has (until (λ y. y == p) (x ∷ xs)) q)
until_later xs x p q other higher = rw other (or_right _ _ higher)

-- if an element of a list isn't before the first that passes, and doesn't pass, one before it does
pub passes_before : (test : Set) (xs : List ℕ) (p : ℕ) → IsTrue (has xs p) → IsFalse (has (until test xs) p) → IsFalse (test p)
    → (q : ℕ) × IsTrue (test q) × IsTrue (has (until (λ x. x == p) xs) q)
passes_before test [] p on none fails = absurd (both_ways false refl on)
passes_before test (x ∷ xs) p on none fails = elim (cases_Bool (test x)) [
  | inl here ↦
      let other : IsFalse (x == p) = ne_eqb x p (λ same. both_ways _ fails (subst (λ (y : ℕ). IsTrue (test y)) same here)) in
      (x, here, rw other (or_left _ _ (eq-eqb x x refl)))
  | inr not_here ↦
      let none' : IsFalse ((x == p) || has (until test xs) p) = rw not_here at none in
      let parts = or_parts (x == p) (has (until test xs) p) none' in
      let r = passes_before test xs p (grind (arith, nat_tests, parts.0, on)) parts.1 fails in
      (r.0, r.1, until_later xs x p r.0 parts.0 r.2)
]

-- somebody besides a set has as many of it above
pub above-with_one : (set : Set) (xs : List ℕ) (b : ℕ) → above (with_one set b) xs b ≡ above set xs b
above-with_one set xs b =
    count_agree (with_one set b) set (until (λ x. x == b) xs)
    (λ c higher. with_one-other set b c (λ same. both_ways _ (until-itself xs b) (subst (λ (d : ℕ). IsTrue (has (until (λ x. x == b) xs) d)) same higher)))

-- one less passes if one that does is replaced by one that doesn't
pub count-slice_set : {X : Type 0} (test : X → Bool) (xs : List X) (i : ℕ) (y d : X) → i < length xs → IsTrue (test (slice_index_or xs i d)) → IsFalse (test y)
    → count test (slice_set xs i y) + 1 ≡ count test xs
count-slice_set test [] i y d i_in was isn't = absurd (omega arith)
count-slice_set test (x ∷ xs) zero y d i_in was isn't = rw (was, isn't) (omega arith)
count-slice_set test (x ∷ xs) (suc i) y d i_in was isn't =
    let rest = count-slice_set test xs i y d (omega arith) was isn't in omega arith
