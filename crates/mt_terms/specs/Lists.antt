-- Words on lists, and on sets of numbers, which are tests.
use Rattle.std.specs.Prelude.{ℕ, zero, suc, ◌+◌, Bool, true, not, ◌||◌, ◌&&◌, ◌==◌, List, [], ◌∷◌, Option, Some, None, if◌then◌else◌}
use Rattle.std.specs.List.{list_any, range_with_len}

-- a set of applicants or of programs
abbrev pub Set : Type 0
Set = ℕ → Bool

-- whether a list has a number
abbrev pub has : List ℕ → Set
has xs a = list_any (λ x. x == a) xs

-- how many elements of a list pass a test
abbrev pub count : {X : Type 0} → (X → Bool) → List X → ℕ
count test [] = 0
count test (x ∷ xs) = (if test x then 1 else 0) + count test xs

-- the front of a list before the first element that passes a test: all of it if none does
abbrev pub until : {X : Type 0} → (X → Bool) → List X → List X
until test [] = []
until test (x ∷ xs) = if test x then [] else (x ∷ until test xs)

-- the front of a list up to the first element that passes a test, that element included
abbrev pub through : {X : Type 0} → (X → Bool) → List X → List X
through test [] = []
through test (x ∷ xs) = if test x then (x ∷ []) else (x ∷ through test xs)

-- the first element, if there is one
abbrev pub head : {X : Type 0} → List X → Option X
head [] = None
head (x ∷ xs) = Some x

-- the elements two by two, without a last one that has no other
abbrev pub by_twos : {X : Type 0} → List X → List (X × X)
by_twos [] = []
by_twos (x ∷ []) = []
by_twos (x ∷ y ∷ xs) = (x, y) ∷ by_twos xs

-- how many members of a set a list ranks above a number
abbrev pub above : Set → List ℕ → ℕ → ℕ
above set xs a = count set (until (λ x. x == a) xs)

-- a set with one number more
abbrev pub with_one : Set → ℕ → Set
with_one set a b = (b == a) || set b

-- a set without one number
abbrev pub without : Set → ℕ → Set
without set a b = not (b == a) && set b

-- the numbers below n, in order
abbrev pub below : ℕ → List ℕ
below n = range_with_len 0 n

-- the sum of a function over the numbers below n
abbrev pub total_below : (ℕ → ℕ) → ℕ → ℕ
total_below f zero = 0
total_below f (suc n) = f n + total_below f n

-- how many numbers below n are in a set
abbrev pub count_below : Set → ℕ → ℕ
count_below set n = total_below (λ a. if set a then 1 else 0) n

-- whether a list has no number twice
abbrev pub is_distinct : List ℕ → Bool
is_distinct [] = true
is_distinct (x ∷ xs) = not (has xs x) && is_distinct xs
