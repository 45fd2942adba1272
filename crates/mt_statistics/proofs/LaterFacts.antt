-- One count of all later numbers is the sum of their counts. Both are summed agent by agent: an agent that has a number
-- counts once, below the first of them or from it on.
use Rattle.std.proofs.Common.{◌≡◌, ℕ, ◌+◌, ◌<◌, ◌≤◌, Bool, true, false, ◌&&◌, nat_le, nat_lt, length, Option, Some, None, ap, sym, ◌∙◌, arith}
use Rattle.std.proofs.lemmas.Bool.Decides.{nat_tests}
use Rattle.mt_terms.specs.Lists.{count_below, total_below}
use Rattle.mt_terms.specs.Market.{applicants}
use Rattle.mt_terms.specs.Matching.{is_program}
use Rattle.mt_terms.specs.declared.numbers.Agent.TheVariants.{Couple, Single}
use Rattle.mt_terms.proofs.Totals.{count_below-one, total_below-add, total_below-same, total_below-swap, total_below-zero}
use Rattle.mt_ranks.specs.Ranked.{is_single}
use Rattle.mt_verify.specs.Held.{held_option}
use Rattle.mt_statistics.specs.Counts.{is_from, most_choices, most_pairs, ordinal}
use Rattle.mt_statistics.specs.Laws.{LaterChoicesAddUp, LaterPairsAddUp}
use Rattle.mt_statistics.proofs.SumFacts.{counted_once, greatest-le, one_if}

one_side : (q k : ℕ) → one_if (nat_lt q k) + one_if (nat_le k q) ≡ 1
one_side q k = grind (arith, nat_tests)

one_agent : (counts : Bool) (held : Option ℕ) (k top : ℕ) → k ≤ top → ordinal held ≤ top
    → total_below (λ j. one_if (counts && is_program j held)) k + one_if (counts && is_from k held)
    ≡ total_below (λ j. one_if (counts && is_program j held)) top
one_agent false held k top within low = omega (arith, total_below-zero k, total_below-zero top)
one_agent true None k top within low = omega (arith, total_below-zero k, total_below-zero top)
one_agent true (Some q) k top within low =
    ap (λ (n : ℕ). n + one_if (nat_le k q)) (count_below-one q k) ∙ one_side q k ∙ sym (counted_once (Some q) top low)

later_add_up : (counts : ℕ → Bool) (held : ℕ → Option ℕ) (n k top : ℕ) → k ≤ top → ((a : ℕ) → a < n → ordinal (held a) ≤ top)
    → total_below (λ j. count_below (λ a. counts a && is_program j (held a)) n) k + count_below (λ a. counts a && is_from k (held a)) n
    ≡ total_below (λ j. count_below (λ a. counts a && is_program j (held a)) n) top
later_add_up counts held n k top within low =
    let at : ℕ → ℕ → ℕ = λ j a. one_if (counts a && is_program j (held a)) in
    let late : ℕ → ℕ = λ a. one_if (counts a && is_from k (held a)) in
    ap (λ (x : ℕ). x + total_below late n) (total_below-swap at n k)
    ∙ sym (total_below-add (λ a. total_below (λ j. at j a) k) late n)
    ∙ total_below-same (λ a. total_below (λ j. at j a) k + late a) (λ a. total_below (λ j. at j a) top) n
    (λ a a_in. one_agent (counts a) (held a) k top within (low a a_in))
    ∙ sym (total_below-swap at n top)

pub later_choices_add_up_lem : LaterChoicesAddUp
later_choices_add_up_lem m places k within =
    later_add_up (is_single m) (λ a. held_option m places (Single a)) (applicants m) k (most_choices m places) within
    (greatest-le (λ a. ordinal (held_option m places (Single a))) (applicants m))

pub later_pairs_add_up_lem : LaterPairsAddUp
later_pairs_add_up_lem m places k within =
    later_add_up (λ c. true) (λ c. held_option m places (Couple c)) (length m.couples) k (most_pairs m places) within
    (greatest-le (λ c. ordinal (held_option m places (Couple c))) (length m.couples))
