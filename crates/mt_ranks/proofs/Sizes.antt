-- A list without repeats of numbers below n has at most n of them.
use Rattle.std.proofs.Common.{◌≡◌, ℕ, zero, suc, ◌*◌, ◌<◌, ◌≤◌, List, [], ◌∷◌, cond, eqb, IsTrue, length, get_or, map, sum, refl, ◌∙◌, arith}
use Rattle.std.proofs.lemmas.Bool.{eq-eqb, or_left, or_right, lt-ltb}
use Rattle.mt_terms.specs.Lists.{has, below, count, total_below, is_distinct}
use Rattle.std.specs.List.{All}
use Rattle.std.proofs.lemmas.List.Sums.{sum_by-le}
use Rattle.std.proofs.lemmas.List.FromFn.{length-map-range_with_len, get_or-map-range_with_len}
use Rattle.mt_terms.proofs.Totals.{total_below-add, total_below-zero, count_below-one}
use Rattle.mt_ranks.specs.Entries.{times_listed}
use Rattle.mt_ranks.proofs.ListedFacts.{AreDistinct, listed_once, times_listed_few}

pub total_below-le : (f : ℕ → ℕ) (n b : ℕ) → ((a : ℕ) → a < n → f a ≤ b) → total_below f n ≤ n * b
total_below-le f zero b h = omega arith
total_below-le f (suc n) b h = omega (arith, h n (omega arith), total_below-le f n b (λ a i. h a (omega arith)))

total_counts : (xs : List ℕ) (n : ℕ) → ((a : ℕ) → IsTrue (has xs a) → a < n) → total_below (λ a. count (λ x. eqb x a) xs) n ≡ length xs
total_counts [] n h = total_below-zero n
total_counts (x ∷ xs) n h =
    let first : total_below (λ a. cond (eqb x a) 1 0) n ≡ 1 = count_below-one x n ∙ rw (lt-ltb x n (h x (or_left (eqb x x) (has xs x) (eq-eqb x x refl)))) refl in
    let rest : total_below (λ a. count (λ y. eqb y a) xs) n ≡ length xs = total_counts xs n (λ a i. h a (or_right (eqb x a) (has xs a) i)) in
    omega (arith, total_below-add (λ a. cond (eqb x a) 1 0) (λ a. count (λ y. eqb y a) xs) n)

pub distinct_length : (xs : List ℕ) (n : ℕ) → IsTrue (is_distinct xs) → ((a : ℕ) → IsTrue (has xs a) → a < n) → length xs ≤ n
distinct_length xs n d h =
    omega (arith, total_counts xs n h, total_below-le (λ a. count (λ x. eqb x a) xs) n 1 (λ a i. listed_once xs a d))

-- so few entries in all that a machine number has room for their count
pub sum_listed : (rs : List (List ℕ)) (n : ℕ) → AreDistinct rs → length rs ≤ 20000 → sum (map (times_listed rs) (below n)) ≤ n * 20000
sum_listed rs n apart h =
    let len : length (map (times_listed rs) (below n)) ≡ n = length-map-range_with_len (times_listed rs) 0 n in
    let each : All (λ x. x ≤ 20000) (map (times_listed rs) (below n)) =
    λ k d i.
    let at : get_or (map (times_listed rs) (below n)) k d ≡ times_listed rs k = get_or-map-range_with_len (times_listed rs) 0 n k k d (omega arith) (omega arith) in
    omega (arith, times_listed_few rs k apart) in
    rw len at (sum_by-le (λ x. x) 20000 (map (times_listed rs) (below n)) each)
