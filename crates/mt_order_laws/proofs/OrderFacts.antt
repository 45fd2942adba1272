-- Each numbered order is a permutation of the couples' numbers: each step of the shuffle is a swap.
use Rattle.std.proofs.Common.{◌≡◌, ℕ, zero, suc, ◌+◌, ◌-◌, ◌%◌, ◌<◌, ◌≤◌, true, false, not, ◌==◌, nat_lt, List, [], ◌∷◌, length, inl, inr, refl, sym, ◌∙◌, arith, get_or, eq-eqb, if◌then◌else◌}
use Rattle.std.specs.List.{swap}
use Rattle.std.specs.List.Sorted.{IsPermutation}
use Rattle.std.proofs.lemmas.Bool.{cases_Bool, cases_eq, and_from, ne_eqb, false_from_ne_true, not_from_false}
use Rattle.std.proofs.lemmas.Bool.Decides.{nat_tests}
use Rattle.std.proofs.lemmas.List.Edits.{length-swap, swapped_from_swap}
use Rattle.std.proofs.lemmas.List.Sorted.{IsPermutation-refl, IsPermutation-swap, IsPermutation-trans, IsPermutation-keeps, list_any-IsPermutation}
use Rattle.std.proofs.Math.Bool.{and-true}
use Rattle.rand_pcg.specs.Lcg.{Lcg}
use Rattle.rand_pcg.specs.Pcg.{pcg32}
use Rattle.mt_terms.specs.Lists.{has, below, is_distinct}
use Rattle.mt_terms.proofs.ListFacts.{same_position}
use Rattle.mt_order_laws.specs.Orders.{generator_of, shuffled, order_of}
use Rattle.mt_order_laws.specs.Laws.{OrdersAreOrders}
use Rattle.mt_order_laws.proofs.OrderLists.{below_distinct, has_below, place_in, length_below}

-- one step of the shuffle
step_permutes : (i w : ℕ) (xs : List ℕ) → suc i ≤ length xs - 1 → IsPermutation xs (swap xs (suc i) (w % (suc i + 1)))
step_permutes i w xs l =
    let low : w % (suc i + 1) < suc i + 1 = omega arith in
    IsPermutation-swap xs (swap xs (suc i) (w % (suc i + 1))) (suc i) (w % (suc i + 1)) (omega arith) (omega arith) refl

step_room : (i w : ℕ) (xs : List ℕ) → suc i ≤ length xs - 1 → i ≤ length (swap xs (suc i) (w % (suc i + 1))) - 1
step_room i w xs l = let same = length-swap xs (suc i) (w % (suc i + 1)) in omega arith

shuffled_permutes : (i : ℕ) (g : Lcg) (xs : List ℕ) → i ≤ length xs - 1 → IsPermutation xs (shuffled i g xs)
shuffled_permutes zero g xs l = IsPermutation-refl xs
shuffled_permutes (suc i) g xs l =
    IsPermutation-trans xs (swap xs (suc i) ((pcg32 g).0 % (suc i + 1))) (shuffled (suc i) g xs) (step_permutes i (pcg32 g).0 xs l)
    (shuffled_permutes i (pcg32 g).1 (swap xs (suc i) ((pcg32 g).0 % (suc i + 1))) (step_room i (pcg32 g).0 xs l))

order_permutes : (number n : ℕ) → IsPermutation (below n) (order_of number n)
order_permutes number n = elim (cases_Bool (number == 1)) [
  | inl first ↦ rw first (IsPermutation-refl (below n))
  | inr later ↦ rw later (shuffled_permutes (n - 1) (generator_of number) (below n) (let same = length_below n in omega arith))
]

-- numbers at different places that differ are without repeats
distinct_by_places : (xs : List ℕ) → ((j k : ℕ) → j < length xs → k < length xs → get_or xs j 0 ≡ get_or xs k 0 → j ≡ k) → is_distinct xs ≡ true
distinct_by_places [] h = refl
distinct_by_places (x ∷ xs) h =
    let out : has xs x ≡ false =
    false_from_ne_true (has xs x) (λ on.
    let p = place_in xs x on in
    let same : 0 ≡ suc p.0 = h 0 (suc p.0) (omega arith) (omega arith) (sym p.2) in
    absurd (omega arith)) in
    and_from (not (has xs x)) (is_distinct xs) (not_from_false _ out)
    (distinct_by_places xs (λ j k jl kl e. let same : suc j ≡ suc k = h (suc j) (suc k) (omega arith) (omega arith) e in omega arith))

-- the place from which a swap of two places takes its element
abbrev moved : ℕ → ℕ → ℕ → ℕ
moved i j m = if m == i then j else (if m == j then i else m)

moved_once : (i j a b : ℕ) → moved i j a ≡ moved i j b → a ≡ b
moved_once i j a b e = grind (arith, nat_tests)

moved_within : (n i j m : ℕ) → i < n → j < n → m < n → moved i j m < n
moved_within n i j m il jl ml = grind (arith, nat_tests)

moved_from : (l : List ℕ) (i j m : ℕ) → i < length l → j < length l → get_or (swap l i j) m 0 ≡ get_or l (moved i j m) 0
moved_from l i j m il jl =
    let w = swapped_from_swap l (swap l i j) i j 0 il jl refl in
    elim (cases_eq m i) [
      | inl at_i ↦ rw (eq-eqb m i at_i, at_i) w.0
      | inr not_i ↦ elim (cases_eq m j) [
        | inl at_j ↦ rw (ne_eqb m i not_i, eq-eqb m j at_j, at_j) w.1
        | inr not_j ↦ rw (ne_eqb m i not_i, ne_eqb m j not_j) (w.2 m not_i not_j)
      ]
    ]

distinct_swapped : (l : List ℕ) (i j : ℕ) → i < length l → j < length l → is_distinct l ≡ true → is_distinct (swap l i j) ≡ true
distinct_swapped l i j il jl d =
    let long = length-swap l i j in
    distinct_by_places (swap l i j) (λ a b al bl e.
    moved_once i j a b (same_position l (moved i j a) (moved i j b) d (moved_within (length l) i j a il jl (omega arith)) (moved_within (length l) i j b il jl (omega arith))
    (sym (moved_from l i j a il jl) ∙ e ∙ moved_from l i j b il jl)))

-- so each numbered order has each couple once
pub orders_are_orders_lem : OrdersAreOrders
orders_are_orders_lem m number =
    let permutes = order_permutes number (length m.couples) in
    record {
      distinct = IsPermutation-keeps (below (length m.couples)) (λ l. is_distinct l ≡ true) (below_distinct (length m.couples)) distinct_swapped
          (order_of number (length m.couples)) permutes;
      of_others = λ c.
          sym (list_any-IsPermutation (λ x. x == c) (below (length m.couples)) (order_of number (length m.couples)) permutes)
          ∙ has_below c (length m.couples) ∙ sym (and-true (nat_lt c (length m.couples)));
    }
