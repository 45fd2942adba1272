-- Lists of numbers: what a filtered list, a front and each place has, and how many pass a test. Other crates' proofs
-- cite these lemmas.
use Rattle.std.proofs.Common.{◌≡◌, ◌≢◌, ℕ, zero, suc, ◌+◌, ◌<◌, ◌≤◌, Bool, true, false, not, ◌||◌, ◌&&◌, ◌==◌, nat_lt, List, [], ◌∷◌, ◌++◌, length, map, take, drop, filter, get_or, append-nil, Some, IsTrue, IsFalse, refl, ap, sym, ◌∙◌, inl, inr, arith, eq-eqb, ne_eqb, if◌then◌else◌}
use Rattle.std.specs.List.{position, list_all, list_any}
use Rattle.std.specs.List.Sorted.{IsPartitionPoint}
use Rattle.std.proofs.lemmas.Bool.{cases_Bool, or_left, or_right, and_parts, and_from, both_ways, lt-ltb, le-ltb, false_from_ne_true, false≢true, not-true, not_from_false}
use Rattle.std.proofs.lemmas.Bool.Decides.{nat_tests}
use Rattle.std.proofs.lemmas.List.{get_or_read, take_all, drop_all}
use Rattle.std.proofs.lemmas.List.Folds.{list_any-append}
use Rattle.std.proofs.lemmas.List.Quantifiers.{position-Some}
use Rattle.mt_terms.specs.Lists.{Set, has, until, count, is_distinct, with_one}
use Rattle.mt_terms.specs.Matching.{ranks_from}

-- another number that is in a set with one more is in the set
pub with_one-other : (set : Set) (a b : ℕ) → b ≢ a → with_one set a b ≡ set b
with_one-other set a b other = ap (λ (r : Bool). r || set b) (ne_eqb b a other)

-- a filtered list has the elements that pass
pub has-filter : (test : Set) (xs : List ℕ) (a : ℕ) → has (filter test xs) a ≡ (test a && has xs a)
has-filter test [] a = grind (arith, nat_tests)
has-filter test (x ∷ xs) a = grind (arith, nat_tests, has-filter test xs a)

-- a filtered list has no repeats if the list has none
pub distinct-filter : (test : Set) (xs : List ℕ) → IsTrue (is_distinct xs) → IsTrue (is_distinct (filter test xs))
distinct-filter test [] h = refl
distinct-filter test (x ∷ xs) h = grind (arith, nat_tests, has-filter test xs x, distinct-filter test xs)

-- a list filtered twice is filtered
pub filter-filter : (test : Set) (xs : List ℕ) → filter test (filter test xs) ≡ filter test xs
filter-filter test [] = refl
filter-filter test (x ∷ xs) = elim (cases_Bool (test x)) [
  | inl passes ↦ rw (passes, passes) (ap (λ rest. x ∷ rest) (filter-filter test xs))
  | inr fails ↦ rw fails (filter-filter test xs)
]

-- a front has only what the list has
pub has-from_take : (xs : List ℕ) (k q : ℕ) → IsTrue (has (take k xs) q) → IsTrue (has xs q)
has-from_take [] zero q on = on
has-from_take [] (suc k) q on = on
has-from_take (x ∷ xs) zero q on = absurd (both_ways false refl on)
has-from_take (x ∷ xs) (suc k) q on = grind (arith, nat_tests, has-from_take xs k q)

-- the front of a list without repeats has none
pub distinct-take : (xs : List ℕ) (r : ℕ) → IsTrue (is_distinct xs) → IsTrue (is_distinct (take r xs))
distinct-take [] zero distinct = refl
distinct-take [] (suc r) distinct = refl
distinct-take (x ∷ xs) zero distinct = refl
distinct-take (x ∷ xs) (suc r) distinct =
    let parts = and_parts (not (has xs x)) (is_distinct xs) distinct in
    and_from _ _ (not_from_false _ (false_from_ne_true _ (λ on. both_ways _ (not-true _ parts.0) (has-from_take xs r x on)))) (distinct-take xs r parts.1)

-- an element of a list is on it
pub has_item : (xs : List ℕ) (i : ℕ) → i < length xs → IsTrue (has xs (get_or xs i 0))
has_item [] i h = absurd (omega arith)
has_item (x ∷ xs) zero h = rw eq-eqb refl
has_item (x ∷ xs) (suc i) h = or_right (x == get_or xs i 0) _ (has_item xs i (omega arith))

-- the head of a list without repeats stands nowhere else
pub head_differs : (x : ℕ) (xs : List ℕ) (k : ℕ) → IsTrue (is_distinct (x ∷ xs)) → k < length xs → x ≢ get_or xs k 0
head_differs x xs k d h e =
    let out : has xs x ≡ false = not-true (has xs x) (and_parts (not (has xs x)) (is_distinct xs) d).0 in
    false≢true (sym out ∙ ap (has xs) e ∙ has_item xs k h)

-- the rest of a list without repeats has none
pub tail_distinct : (x : ℕ) (xs : List ℕ) → IsTrue (is_distinct (x ∷ xs)) → IsTrue (is_distinct xs)
tail_distinct x xs d = (and_parts (not (has xs x)) (is_distinct xs) d).1

-- a list has what its front has
pub has_front : (us vs : List ℕ) (c : ℕ) → has us c ≡ true → has (us ++ vs) c ≡ true
has_front us vs c h = list_any-append (λ z. z == c) us vs ∙ or_left (has us c) (has vs c) h

-- what a list has with one number more at its end
pub has_push : (xs : List ℕ) (c a : ℕ) → has (xs ++ c ∷ []) a ≡ (has xs a || c == a)
has_push [] c a = grind (arith, nat_tests)
has_push (x ∷ xs) c a = grind (arith, nat_tests, has_push xs c a)

-- a list without repeats has none with a new number at its end
pub distinct_push : (xs : List ℕ) (c : ℕ) → is_distinct xs ≡ true → has xs c ≡ false → is_distinct (xs ++ c ∷ []) ≡ true
distinct_push [] c d h = refl
distinct_push (x ∷ xs) c d h = grind (arith, nat_tests, has_push xs c x, distinct_push xs c)

-- if all elements of a list are below a number, so is the one that a loop reads
pub item_below : (xs : List ℕ) (i x n : ℕ) → i < length xs → x ≡ get_or xs i x → ((a : ℕ) → IsTrue (has xs a) → a < n) → x < n
item_below xs i x n h at w =
    let is : x ≡ get_or xs i 0 = get_or_read xs i x h at 0 in
    rw is (w (get_or xs i 0) (has_item xs i h))

-- what passes at each element passes at each place
pub passes_at : {X : Type 0} (p : X → Bool) (xs : List X) (i : ℕ) (d : X) → list_all p xs ≡ true → i < length xs → p (get_or xs i d) ≡ true
passes_at p [] i d h k = absurd (omega arith)
passes_at p (x ∷ xs) zero d h k = (and_parts (p x) _ h).0
passes_at p (x ∷ xs) (suc i) d h k = passes_at p xs i d (and_parts (p x) _ h).1 (omega arith)

-- whether some mapped element passes
pub list_any-map : {X Y : Type 0} (test : Y → Bool) (f : X → Y) (xs : List X) → list_any test (map f xs) ≡ list_any (λ x. test (f x)) xs
list_any-map test f [] = refl
list_any-map test f (x ∷ xs) = ap (λ (b : Bool). test (f x) || b) (list_any-map test f xs)

-- a part that is written back to the whole is the whole
pub take_whole : {X : Type 0} (xs ys : List X) (n : ℕ) → length xs ≡ length ys → n ≡ length ys → take n (xs ++ drop (length xs) ys) ≡ xs
take_whole xs ys n h e =
    let none : drop (length xs) ys ≡ [] = drop_all (length xs) ys (omega arith) in
    rw (none, append-nil) (take_all n xs (omega arith))

-- what stands before the first element that passes is no longer than the list
pub until-le : {X : Type 0} (test : X → Bool) (xs : List X) → length (until test xs) ≤ length xs
until-le test [] = omega arith
until-le test (x ∷ xs) = elim (cases_Bool (test x)) [
  | inl here ↦ rw here (omega arith)
  | inr other ↦ rw other (let rest = until-le test xs in omega arith)
]

-- two positions with one number are one
pub same_position : (xs : List ℕ) (j k : ℕ) → IsTrue (is_distinct xs) → j < length xs → k < length xs → get_or xs j 0 ≡ get_or xs k 0 → j ≡ k
same_position [] j k d hj hk e = absurd (omega arith)
same_position (x ∷ xs) zero zero d hj hk e = refl
same_position (x ∷ xs) zero (suc k) d hj hk e = absurd (head_differs x xs k d (omega arith) e)
same_position (x ∷ xs) (suc j) zero d hj hk e = absurd (head_differs x xs j d (omega arith) (sym e))
same_position (x ∷ xs) (suc j) (suc k) d hj hk e = ap suc (same_position xs j k (tail_distinct x xs d) (omega arith) (omega arith) e)

-- the front of a list up to a number ends at the number's place
until_is_take : (xs : List ℕ) (a k : ℕ) → k < length xs → IsTrue (get_or xs k 0 == a) → ((j : ℕ) → j < k → IsFalse (get_or xs j 0 == a)) → until (λ x. x == a) xs ≡ take k xs
until_is_take [] a k within here before = absurd (omega arith)
until_is_take (x ∷ xs) a zero within here before = rw here refl
until_is_take (x ∷ xs) a (suc k) within here before =
    rw (before 0 (omega arith)) (ap (λ ys. x ∷ ys) (until_is_take xs a k (omega arith) here (λ j less. before (suc j) (omega arith))))

pub until_position : (xs : List ℕ) (a k : ℕ) → position (λ x. x == a) xs ≡ Some k → until (λ x. x == a) xs ≡ take k xs
until_position xs a k at =
    let found = position-Some (λ x. x == a) xs k 0 at in
    until_is_take xs a k found.0 found.1 found.2

-- whether the front of a list has a number, by the number's first place
has-take_at : (xs : List ℕ) (b k r : ℕ) → k < length xs → IsTrue (get_or xs k 0 == b) → ((j : ℕ) → j < k → IsFalse (get_or xs j 0 == b))
    → has (take r xs) b ≡ nat_lt k r
has-take_at [] b k r within here before = absurd (omega arith)
has-take_at (x ∷ xs) b k zero within here before = sym (le-ltb k 0 (omega arith))
has-take_at (x ∷ xs) b zero (suc r) within here before = rw (here, lt-ltb 0 (suc r) (omega arith)) refl
has-take_at (x ∷ xs) b (suc k) (suc r) within here before =
    let rest = has-take_at xs b k r (omega arith) here (λ j less. before (suc j) (omega arith)) in
    let same : nat_lt k r ≡ nat_lt (suc k) (suc r) = grind (arith, nat_tests) in
    rw (before 0 (omega arith)) (rest ∙ same)

pub has-take-position : (xs : List ℕ) (b k r : ℕ) → position (λ x. x == b) xs ≡ Some k → has (take r xs) b ≡ nat_lt k r
has-take-position xs b k r at =
    let found = position-Some (λ x. x == b) xs k 0 at in
    has-take_at xs b k r found.0 found.1 found.2

-- sets that agree on a list count the same there
pub count_agree : (s t : Set) (xs : List ℕ) → ((b : ℕ) → IsTrue (has xs b) → s b ≡ t b) → count s xs ≡ count t xs
count_agree s t [] h = refl
count_agree s t (x ∷ xs) h =
    let here : s x ≡ t x = h x (or_left _ _ (eq-eqb x x refl)) in
    let rest = count_agree s t xs (λ b on. h b (or_right _ _ on)) in
    rw (here, rest)

-- no more pass a test than there are
pub count-le-length : {X : Type 0} (test : X → Bool) (xs : List X) → count test xs ≤ length xs
count-le-length test [] = omega arith
count-le-length test (x ∷ xs) = one_or_none (test x) (count test xs) (length xs) (count-le-length test xs)
  where
    one_or_none : (b : Bool) (k n : ℕ) → k ≤ n → (if b then 1 else 0) + k ≤ suc n
    one_or_none true k n h = omega arith
    one_or_none false k n h = omega arith

-- the count of those that pass is where they end, if those that pass come first
pub count_to_point : (test : ℕ → Bool) (xs : List ℕ) (i : ℕ) → i ≤ length xs → IsPartitionPoint (λ x. IsTrue (test x)) (λ x. IsFalse (test x)) xs i → count test xs ≡ i
count_to_point test [] i within point = omega arith
count_to_point test (x ∷ xs) zero within point =
    let here : IsFalse (test x) = point.1 0 0 (omega arith) (omega arith) in
    let rest : count test xs ≡ 0 = count_to_point test xs 0 (omega arith) ((λ k d low high. absurd (omega arith)), (λ k d low high. point.1 (suc k) d (omega arith) (omega arith))) in
    rw here (omega (arith, rest))
count_to_point test (x ∷ xs) (suc i) within point =
    let here : IsTrue (test x) = point.0 0 0 (omega arith) (omega arith) in
    let rest : count test xs ≡ i = count_to_point test xs i (omega arith)
    ((λ k d low high. point.0 (suc k) d (omega arith) (omega arith)), (λ k d low high. point.1 (suc k) d (omega arith) (omega arith))) in
    rw here (omega arith)

-- Below, a list stands from a rank on, and its members of a set are given by their ranks.
-- none of them are above a rank that all are at or below
none_above : (rank limit : ℕ) (set : Set) (xs : List ℕ) → limit ≤ rank → count (λ r. nat_lt r limit) (ranks_from rank set xs) ≡ 0
none_above rank limit set [] h = refl
none_above rank limit set (x ∷ xs) h = elim (cases_Bool (set x)) [
  | inl here ↦ rw (here, le-ltb rank limit h) (omega (arith, none_above (rank + 1) limit set xs (omega arith)))
  | inr other ↦ rw other (none_above (rank + 1) limit set xs (omega arith))
]

-- those above a rank are the members on the front of the list
pub ranks_above : (rank limit : ℕ) (set : Set) (xs : List ℕ) (k : ℕ) → limit ≡ rank + k → count (λ r. nat_lt r limit) (ranks_from rank set xs) ≡ count set (take k xs)
ranks_above rank limit set [] zero h = refl
ranks_above rank limit set [] (suc k) h = refl
ranks_above rank limit set (x ∷ xs) zero h = none_above rank limit set (x ∷ xs) (omega arith)
ranks_above rank limit set (x ∷ xs) (suc k) h =
    let rest = ranks_above (rank + 1) limit set xs k (omega arith) in
    elim (cases_Bool (set x)) [
      | inl here ↦ rw (here, lt-ltb rank limit (omega arith)) (omega arith)
      | inr other ↦ rw other (omega (arith, rest))
    ]
