-- Fronts of a list: what is before the first element that passes a test, and where a list is cut in two.
-- By induction on the list.
use Rattle.std.proofs.Common.{◌≡◌, ◌⊎◌, ℕ, false, not, ◌||◌, ◌==◌, List, [], ◌∷◌, ◌++◌, IsTrue, IsFalse, refl, ap, sym, ◌∙◌, inl, inr, arith, eqb-true}
use Rattle.std.proofs.lemmas.Bool.{both_ways, and_parts, and_from, cases_Bool, or_cases, or_left, or_right, false_from_ne_true, not-true, not_from_false}
use Rattle.std.proofs.lemmas.Bool.Decides.{nat_tests}
use Rattle.std.proofs.lemmas.List.Folds.{list_any-append}
use Rattle.mt_terms.specs.Lists.{Set, has, until, is_distinct}

-- the front of a list is of the list
pub has_front : (xs ys : List ℕ) (q : ℕ) → IsTrue (has xs q) → IsTrue (has (xs ++ ys) q)
has_front xs ys q on = list_any-append (λ x. x == q) xs ys ∙ or_left _ _ on

-- the front of a list without repeats has none
pub distinct_front : (xs ys : List ℕ) → IsTrue (is_distinct (xs ++ ys)) → IsTrue (is_distinct xs)
distinct_front [] ys distinct = refl
distinct_front (x ∷ xs) ys distinct =
    let parts = and_parts (not (has (xs ++ ys) x)) (is_distinct (xs ++ ys)) distinct in
    and_from _ _ (not_from_false _ (false_from_ne_true _ (λ on. both_ways _ (not-true _ parts.0) (has_front xs ys x on)))) (distinct_front xs ys parts.1)

-- if an element of the front passes, only the front decides what is before the first that does
pub until_in_front : (test : Set) (xs ys : List ℕ) (p : ℕ) → IsTrue (has xs p) → IsTrue (test p) → until test (xs ++ ys) ≡ until test xs
until_in_front test [] ys p on passes = absurd (both_ways false refl on)
until_in_front test (x ∷ xs) ys p on passes = elim (cases_Bool (test x)) [
  | inl here ↦ rw here refl
  | inr later ↦
      let not_here : IsFalse (x == p) = false_from_ne_true _ (λ same. both_ways _ later (ap test (eqb-true x p same) ∙ passes)) in
      let rest = until_in_front test xs ys p (ap (λ b. b || has xs p) (sym not_here) ∙ on) passes in
      rw later (ap (λ zs. x ∷ zs) rest)
]

-- what is before the first that passes in the front is so in the list
pub until_longer : (test : Set) (xs ys : List ℕ) (q : ℕ) → IsTrue (has (until test xs) q) → IsTrue (has (until test (xs ++ ys)) q)
until_longer test [] ys q before = absurd (both_ways false refl before)
until_longer test (x ∷ xs) ys q before = grind (arith, nat_tests, until_longer test xs ys q)

-- what is above an element that is before the first that passes is so too
pub until_above : (test : Set) (xs : List ℕ) (p q : ℕ) → IsTrue (has (until test xs) p) → IsTrue (has (until (λ x. x == p) xs) q) → IsTrue (has (until test xs) q)
until_above test [] p q before above = above
until_above test (x ∷ xs) p q before above = grind (arith, nat_tests, until_above test xs p q)

-- A list cut below one of its elements: the front has it and what is above it, and nothing else.
pub record IsCutBelow (xs : List ℕ) (p : ℕ) (front back : List ℕ) : Type 0 where
  pub joined : xs ≡ front ++ back
  pub has_it : IsTrue (has front p)
  pub above_it : (q : ℕ) → IsTrue (has front q) → (q ≡ p) ⊎ IsTrue (has (until (λ x. x == p) xs) q)

-- a list can be cut below each of its elements
pub cut_below : (xs : List ℕ) (p : ℕ) → IsTrue (has xs p) → (front back : List ℕ) × IsCutBelow xs p front back
cut_below [] p on = absurd (both_ways false refl on)
cut_below (x ∷ xs) p on = elim (cases_Bool (x == p)) [
  | inl here ↦ (
    x ∷ [],
    xs,
    record {
      joined = refl;
      has_it = or_left _ _ here;
      above_it = λ q h. inl (grind (arith, nat_tests, here, h));
    },
  )
  | inr later ↦
      let rest = cut_below xs p (ap (λ b. b || has xs p) (sym later) ∙ on) in (
        x ∷ rest.0,
        rest.1,
        record {
          joined = ap (λ zs. x ∷ zs) rest.2.joined;
          has_it = or_right _ _ rest.2.has_it;
          above_it = λ q h. elim (or_cases (x == q) (has rest.0 q) h) [
            | inl head ↦ inr (rw later (or_left _ _ head))
            | inr tail ↦ elim (rest.2.above_it q tail) [ inl same ↦ inl same | inr above ↦ inr (rw later (or_right _ _ above)) ]
          ];
        },
      )
]
