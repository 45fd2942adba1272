-- Elements of lists of numbers, by their places.
use Rattle.std.proofs.Common.{◌≡◌, ℕ, zero, suc, ◌+◌, ◌<◌, Bool, false, not, ◌==◌, List, [], ◌∷◌, ◌++◌, take, drop, length, get_or, Option, Some, IsTrue, refl, ap, sym, ◌∙◌, subst, arith, eq-eqb, eqb-true, if◌then◌else◌}
use Rattle.std.specs.Option.{option_eq}
use Rattle.std.proofs.lemmas.Bool.{or_right, and_parts, not-true, both_ways, false_from_ne_true}
use Rattle.std.proofs.lemmas.List.{take_more}
use Rattle.mt_terms.specs.Lists.{has, count, until, is_distinct}
use Rattle.mt_stage_tables.proofs.OrderFacts.{has_at}
use Rattle.mt_terms.specs.Matching.{Places, place_of, at, is_program}
use Rattle.mt_terms.proofs.AgentFacts.{is_program_read}

-- what is read at a place of a list is on it
pub has_read : (xs : List ℕ) (i a : ℕ) → i < length xs → a ≡ get_or xs i a → IsTrue (has xs a)
has_read xs i a within read = rw read (has_at xs i a within)

-- one element more to count
pub count_more : {X : Type 0} (test : X → Bool) (xs : List X) (i : ℕ) (d : X) → i < length xs
    → count test (take (i + 1) xs) ≡ count test (take i xs) + (if test (get_or xs i d) then 1 else 0)
count_more {X} test xs i d within = ap (count test) (take_more xs i d within) ∙ count_push (take i xs) (get_or xs i d)
  where
    count_push : (ys : List X) (y : X) → count test (ys ++ y ∷ []) ≡ count test ys + (if test y then 1 else 0)
    count_push [] y = omega arith
    count_push (z ∷ ys) y = omega (arith, count_push ys y)

pub has-drop : (xs : List ℕ) (i a : ℕ) → IsTrue (has (drop i xs) a) → IsTrue (has xs a)
has-drop xs zero a on = on
has-drop [] (suc i) a on = on
has-drop (x ∷ xs) (suc i) a on = or_right _ _ (has-drop xs i a on)

-- on a list without repeats, what stands above the element at a place is the front of the list
pub until_at : (xs : List ℕ) (i d : ℕ) → IsTrue (is_distinct xs) → i < length xs → until (λ x. x == get_or xs i d) xs ≡ take i xs
until_at [] i d distinct within = absurd (omega arith)
until_at (x ∷ xs) zero d distinct within = rw (eq-eqb x x refl) refl
until_at (x ∷ xs) (suc i) d distinct within =
    let parts = and_parts (not (has xs x)) (is_distinct xs) distinct in
    let on = has_at xs i d (omega arith) in
    let other : (x == get_or xs i d) ≡ false =
    false_from_ne_true _ (λ same. both_ways (has xs x) (not-true _ parts.0) (subst (λ a. IsTrue (has xs a)) (sym (eqb-true x (get_or xs i d) same)) on)) in
    rw other (ap (λ ys. x ∷ ys) (until_at xs i d parts.1 (omega arith)))

-- who is at a program, by an applicant's place that was read
pub at_read : (places : Places) (p a : ℕ) (place : Option ℕ) (b : Bool) → place ≡ place_of places a → b ≡ option_eq ◌==◌ place (Some p) → at places p a ≡ b
at_read places p a place b read told = ap (is_program p) (sym read) ∙ sym (is_program_read p place) ∙ sym told
