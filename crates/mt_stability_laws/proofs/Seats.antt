-- How many places a match fills, counted by programs, by applicants and along a program's list.
use Rattle.std.proofs.Common.{◌≡◌, ℕ, ◌<◌, ◌≤◌, Bool, false, not, ◌&&◌, ◌||◌, if◌then◌else◌, ◌==◌, IsTrue, IsFalse, List, [], ◌∷◌, length, get_or, Option, Some, None, is_some, refl, sym, ◌∙◌, ap, arith, inl, inr, nat_lt}
use Rattle.std.proofs.lemmas.Bool.{cases_Bool, and_from, and_parts, eqb-true}
use Rattle.std.proofs.lemmas.Bool.Decides.{nat_tests}
use Rattle.mt_terms.specs.Lists.{Set, has, count, above, is_distinct, total_below, count_below}
use Rattle.mt_terms.specs.Market.{Program}
use Rattle.mt_terms.specs.Matching.{Places, place_of, is_program, at, filled}
use Rattle.mt_terms.specs.Choice.{choice}
use Rattle.mt_stability_laws.proofs.ChoiceLemmas.{choice_facts}
use Rattle.mt_stability_laws.proofs.FloorChoices.{count-choice}
use Rattle.mt_terms.proofs.Totals.{one_in, total_below-same, total_below-swap, total_below-zero, total_below-front, count_below-mono, count_below-same, count_below-or, count_below-one, count_below-none}

-- the elements of a list that pass a test, counted by their places
pub count_by_place : {X : Type 0} (test : X → Bool) (xs : List X) (d : X) → count test xs ≡ count_below (λ a. test (get_or xs a d)) (length xs)
count_by_place test [] d = refl
count_by_place test (x ∷ xs) d =
    omega (arith, count_by_place test xs d, total_below-front (one_in (λ a. test (get_or (x ∷ xs) a d))) (length xs))

-- a program's places, counted by applicants
pub filled_by_applicant : (places : Places) (p : ℕ) → filled places p ≡ count_below (at places p) (length places)
filled_by_applicant places p = count_by_place (is_program p) places None

-- a place is at one program, if it is at any
one_program : (o : Option ℕ) (k : ℕ) → ((p : ℕ) → IsTrue (is_program p o) → p < k) → count_below (λ p. is_program p o) k ≡ (if is_some o then 1 else 0)
one_program None k h = total_below-zero k
one_program (Some q) k h =
    let within : q < k = h q (grind (arith, nat_tests)) in
    let one : count_below (λ p. q == p) k ≡ (if nat_lt q k then 1 else 0) = count_below-one q k in
    grind (arith, nat_tests)

-- as many of the first n applicants are placed as the programs have of them
pub placed_by_program : (places : Places) (n k : ℕ) → ((a p : ℕ) → IsTrue (at places p a) → p < k) →
    total_below (λ p. count_below (at places p) n) k ≡ count_below (λ a. is_some (place_of places a)) n
placed_by_program places n k h =
    total_below-swap (λ p. one_in (at places p)) n k
    ∙ total_below-same (λ a. total_below (λ p. one_in (at places p) a) k) (one_in (λ a. is_some (place_of places a))) n (λ a l. one_program (place_of places a) k (h a))

-- as many applicants are placed as places are filled
pub placed_count : (places : Places) (k : ℕ) → ((a p : ℕ) → IsTrue (at places p a) → p < k) →
    total_below (filled places) k ≡ count_below (λ a. is_some (place_of places a)) (length places)
placed_count places k h =
    total_below-same (filled places) (λ p. count_below (at places p) (length places)) k (λ p l. filled_by_applicant places p)
    ∙ placed_by_program places (length places) k h

-- the first of a list is on it
has-head : (x : ℕ) (xs : List ℕ) → IsTrue (has (x ∷ xs) x)
has-head x xs = grind (arith, nat_tests)

-- what is on the rest of a list is on it
has-tail : (x : ℕ) (xs : List ℕ) (a : ℕ) → IsTrue (has xs a) → IsTrue (has (x ∷ xs) a)
has-tail x xs a h = grind (arith, nat_tests)

-- what is on the rest of a list without repeats isn't its first
not_head : (x : ℕ) (xs : List ℕ) (a : ℕ) → IsTrue (is_distinct (x ∷ xs)) → IsTrue (has xs a) → IsFalse (x == a)
not_head x xs a d h =
    let new : IsTrue (not (has xs x)) = (and_parts (not (has xs x)) (is_distinct xs) d).0 in
    elim (cases_Bool (x == a)) [
      | inl same ↦ (let e : x ≡ a = eqb-true x a same in let gone : IsTrue (not (has xs a)) = rw e at new in grind arith)
      | inr other ↦ other
    ]

-- the members of a set that are the first of a list or on the rest of it
split_members : (set rest : Set) (x a : ℕ) → (((x == a) || rest a) && set a) ≡ (((x == a) && set a) || (rest a && set a))
split_members set rest x a = grind (arith, nat_tests)

-- a number counts once if it is in the set
count_below-at : (set : Set) (x n : ℕ) → x < n → count_below (λ a. (x == a) && set a) n ≡ one_in set x
count_below-at set x n l =
    elim (cases_Bool (set x)) [
      | inl yes_x ↦
          (let same : (a : ℕ) → a < n → ((x == a) && set a) ≡ (x == a) = λ a la. first_in set x a yes_x in
          let one : count_below (λ a. x == a) n ≡ (if nat_lt x n then 1 else 0) = count_below-one x n in
          count_below-same (λ a. (x == a) && set a) (λ a. x == a) n same ∙ one ∙ both_one set x n l yes_x)
      | inr no_x ↦
          (count_below-none (λ a. (x == a) && set a) n (λ a. first_out set x a no_x) ∙ ap (λ (b : Bool). if b then 1 else 0) (sym no_x))
    ]
  where
    first_in : (set : Set) (x a : ℕ) → IsTrue (set x) → ((x == a) && set a) ≡ (x == a)
    first_in set x a y = grind (arith, nat_tests)

    first_out : (set : Set) (x a : ℕ) → IsFalse (set x) → ((x == a) && set a) ≡ false
    first_out set x a n' = grind (arith, nat_tests)

    both_one : (set : Set) (x n : ℕ) → x < n → IsTrue (set x) → (if nat_lt x n then 1 else 0) ≡ one_in set x
    both_one set x n l y = grind (arith, nat_tests)

-- a set's members on a list without repeats, counted by their numbers
pub listed_count : (set : Set) (xs : List ℕ) (n : ℕ) → IsTrue (is_distinct xs) → ((a : ℕ) → IsTrue (has xs a) → a < n) →
    count set xs ≡ count_below (λ a. has xs a && set a) n
listed_count set [] n d h = sym (count_below-none (λ a. false) n (λ a. refl))
listed_count set (x ∷ xs) n d h =
    let rest : count set xs ≡ count_below (λ a. has xs a && set a) n =
    listed_count set xs n (and_parts (not (has xs x)) (is_distinct xs) d).1 (λ a l. h a (has-tail x xs a l)) in
    let first : count_below (λ a. (x == a) && set a) n ≡ one_in set x = count_below-at set x n (h x (has-head x xs)) in
    let apart : (a : ℕ) → IsTrue ((x == a) && set a) → IsFalse (has xs a && set a) = λ a e. not_both set x xs a (not_head x xs a d) e in
    let both = count_below-or (λ a. (x == a) && set a) (λ a. has xs a && set a) n apart in
    let same = count_below-same (λ a. has (x ∷ xs) a && set a) (λ a. ((x == a) && set a) || (has xs a && set a)) n (λ a l. split_members set (has xs) x a) in
    omega (arith, rest, first, both, same)
  where
    not_both : (set : Set) (x : ℕ) (xs : List ℕ) (a : ℕ) → (IsTrue (has xs a) → IsFalse (x == a)) → IsTrue ((x == a) && set a) → IsFalse (has xs a && set a)
    not_both set x xs a other e = grind arith

-- above an applicant there are no more members of a set than on the whole list
pub above-le-count : (set : Set) (xs : List ℕ) (a : ℕ) → above set xs a ≤ count set xs
above-le-count set [] a = omega arith
above-le-count set (x ∷ xs) a = grind (arith, above-le-count set xs a)

-- a program chooses no more than its quota
pub chosen_count : (p : Program) (set : Set) (n : ℕ) → IsTrue (is_distinct p.ranking) → ((a : ℕ) → IsTrue (has p.ranking a) → a < n) →
    count_below (choice p set) n ≤ p.quota
chosen_count p set n d h =
    let few : count (choice p set) p.ranking ≤ p.quota = count-choice p set d in
    let listed : count (choice p set) p.ranking ≡ count_below (λ a. has p.ranking a && choice p set a) n = listed_count (choice p set) p.ranking n d h in
    let same : count_below (choice p set) n ≤ count_below (λ a. has p.ranking a && choice p set a) n =
    count_below-mono (choice p set) (λ a. has p.ranking a && choice p set a) n
    (λ a l chosen. and_from (has p.ranking a) (choice p set a) (choice_facts p set a chosen).is_listed chosen) in
    omega arith
