-- How many places of a front of a match are a program.
use Rattle.std.proofs.Common.{◌≡◌, ℕ, ◌+◌, ◌<◌, ◌≤◌, Bool, false, List, [], ◌∷◌, ◌++◌, Option, Some, None, map, length, get_or, set, take, refl, ap, sym, ◌∙◌, inl, inr, arith, length-take}
use Rattle.std.specs.Prelude.{if◌then◌else◌, IsTrue, is_some, not}
use Rattle.std.proofs.lemmas.Bool.Decides.{nat_tests}
use Rattle.std.proofs.lemmas.Bool.{cases_eq}
use Rattle.std.proofs.lemmas.List.{take_more, get_or_read_under, get_or-set_same, get_or-set_other, ext_get_or}
use Rattle.mt_terms.proofs.BelowFacts.{length-map_below, map_below_at}
use Rattle.mt_terms.proofs.ListFacts.{count-le-length}
use Rattle.mt_terms.specs.Lists.{below, count}
use Rattle.mt_terms.specs.Matching.{filled, is_program, Places}
use Rattle.mt_terms.specs.Text.{unmatched}

pub count-push : {X : Type 0} (test : X → Bool) (xs : List X) (x : X) → count test (xs ++ x ∷ []) ≡ count test xs + (if test x then 1 else 0)
count-push test [] x = omega arith
count-push test (y ∷ ys) x = omega (arith, count-push test ys x)

-- one place more
pub filled_more : (places : Places) (i p : ℕ) → i < length places
    → filled (take (i + 1) places) p ≡ filled (take i places) p + (if is_program p (get_or places i None) then 1 else 0)
filled_more places i p h = ap (count (is_program p)) (take_more places i None h) ∙ count-push (is_program p) (take i places) (get_or places i None)

-- the place that a loop reads
pub read_place : (places : Places) (i : ℕ) (x : Option ℕ) → x ≡ get_or places i x → i < length places → x ≡ get_or places i None
read_place places i x h w = get_or_read_under places i (length places) x None h w refl

-- the counts so far are those of a front of the places
abbrev pub AreCounts : Places → ℕ → ℕ → List ℕ → Type 0
AreCounts places n i counts = (p : ℕ) → p < n → get_or counts p 0 ≡ filled (take i places) p

pub AreCounts-placed : (places : Places) (n i : ℕ) (counts : List ℕ) (q : ℕ) → i < length places → get_or places i None ≡ Some q → length counts ≡ n → q < n
    → AreCounts places n i counts → AreCounts places n (i + 1) (set counts q (get_or counts q 0 + 1))
AreCounts-placed places n i counts q w e l h counted p below = elim (cases_eq p q) [ inl same ↦ at_it same | inr other ↦ elsewhere other ]
  where
    more : filled (take (i + 1) places) p ≡ filled (take i places) p + (if is_program p (Some q) then 1 else 0)
    more = filled_more places i p w ∙ ap (λ o. filled (take i places) p + (if is_program p o then 1 else 0)) e

    at_it : p ≡ q → get_or (set counts q (get_or counts q 0 + 1)) p 0 ≡ filled (take (i + 1) places) p
    at_it same =
        let room : q < length counts = omega arith in
        let now = get_or-set_same counts q (get_or counts q 0 + 1) 0 room in
        let one : IsTrue (is_program p (Some q)) = grind (arith, nat_tests) in
        let more_one = more ∙ ap (λ b. filled (take i places) p + (if b then 1 else 0)) one in
        let here = ap (λ k. get_or (set counts q (get_or counts q 0 + 1)) k 0) same ∙ now in
        omega (arith, here, more_one, counted p below, ap (λ k. get_or counts k 0) same)

    elsewhere : (p ≡ q → ⊥) → get_or (set counts q (get_or counts q 0 + 1)) p 0 ≡ filled (take (i + 1) places) p
    elsewhere other =
        let now = get_or-set_other counts q p (get_or counts q 0 + 1) 0 other in
        let none : is_program p (Some q) ≡ false = grind (arith, nat_tests) in
        let more_none = more ∙ ap (λ b. filled (take i places) p + (if b then 1 else 0)) none in
        omega (arith, now, more_none, counted p below)

pub AreCounts-unplaced : (places : Places) (n i : ℕ) (counts : List ℕ) → i < length places → get_or places i None ≡ None
    → AreCounts places n i counts → AreCounts places n (i + 1) counts
AreCounts-unplaced places n i counts w e counted p below =
    let more = filled_more places i p w ∙ ap (λ o. filled (take i places) p + (if is_program p o then 1 else 0)) e in
    omega (arith, counted p below, more)

-- counts of all places, program by program, are the list of them
pub counts_of_all : (places : Places) (n : ℕ) (counts : List ℕ) → length counts ≡ n → ((p : ℕ) → p < n → get_or counts p 0 ≡ filled places p)
    → counts ≡ map (filled places) (below n)
counts_of_all places n counts l counted =
    ext_get_or 0 counts (map (filled places) (below n)) (l ∙ sym (length-map_below (filled places) n))
    (λ p h. let b : p < n = omega arith in counted p b ∙ sym (map_below_at (filled places) n p 0 b))

-- one place more, of those that have none
pub unmatched_more : (places : Places) (i : ℕ) → i < length places
    → unmatched (take (i + 1) places) ≡ unmatched (take i places) + (if not (is_some (get_or places i None)) then 1 else 0)
unmatched_more places i h =
    ap (count (λ place. not (is_some place))) (take_more places i None h) ∙ count-push (λ place. not (is_some place)) (take i places) (get_or places i None)

pub unmatched-le : (places : Places) (i : ℕ) → unmatched (take i places) ≤ i
unmatched-le places i = omega (arith, count-le-length (λ place. not (is_some place)) (take i places), length-take i places)
