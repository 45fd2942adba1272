-- Sums over numbers below n of counts that share out one each: each law adds its terms at one number, where they are
-- one altogether. The choices are summed by singles in place of by numbers.
use Rattle.std.proofs.Common.{◌≡◌, ℕ, zero, suc, ◌+◌, ◌-◌, ◌<◌, ◌≤◌, Bool, true, false, not, ◌&&◌, ◌||◌, ◌==◌, List, [], ◌∷◌, length, Option, Some, None, is_some, IsTrue, IsFalse, refl, ap, sym, ◌∙◌, inl, inr, arith, if◌then◌else◌}
use Rattle.std.specs.List.{list_any}
use Rattle.std.proofs.lemmas.Bool.{both_ways, cases_lt, lt-ltb}
use Rattle.mt_terms.specs.Lists.{total_below}
use Rattle.mt_terms.specs.Market.{Market, applicants, couple_of, list_of, program_of}
use Rattle.mt_terms.specs.Matching.{Places, filled, holds, is_program, options, place_of, single_placement}
use Rattle.mt_terms.specs.declared.numbers.Agent.TheVariants.{Single}
use Rattle.mt_terms.proofs.Totals.{count_below-one, total_below-add, total_below-same, total_below-swap, total_below-zero}
use Rattle.mt_terms.specs.Stability.{has_own_option}
use Rattle.mt_terms.proofs.ListFacts.{list_any-map}
use Rattle.mt_verdict_laws.proofs.VerdictLemmas.{agent_cases}
use Rattle.mt_verify.proofs.FindFacts.{any_has_position}
use Rattle.mt_verify.proofs.OptionFacts.{holds-single_placement, own_option-Single}
use Rattle.mt_ranks.specs.Ranked.{is_single, is_single_agent}
use Rattle.mt_verify.specs.Held.{held_option}
use Rattle.mt_statistics.specs.Counts.{greatest_below, has_choice, has_nobody, is_full, most_choices, ordinal, placed_members}
use Rattle.mt_statistics.specs.Laws.{CouplesAddUp, HaveOwnOptions, PostsAddUp, ProgramsAddUp, SinglesAddUp}

-- one for each number below n
total_of_ones : (n : ℕ) → total_below (λ a. 1) n ≡ n
total_of_ones zero = refl
total_of_ones (suc n) = omega (arith, total_of_ones n)

-- three sums whose terms are one altogether
three_sums : (f g h : ℕ → ℕ) (n : ℕ) → ((a : ℕ) → f a + g a + h a ≡ 1) → total_below f n + total_below g n + total_below h n ≡ n
three_sums f g h n one =
    ap (λ x. x + total_below h n) (sym (total_below-add f g n))
    ∙ sym (total_below-add (λ a. f a + g a) h n)
    ∙ total_below-same (λ a. f a + g a + h a) (λ a. 1) n (λ a within. one a)
    ∙ total_of_ones n

abbrev pub one_if : Bool → ℕ
one_if b = if b then 1 else 0

pub couples_add_up_lem : CouplesAddUp
couples_add_up_lem m places =
    three_sums (λ c. one_if (placed_members m places c == 2)) (λ c. one_if (placed_members m places c == 1)) (λ c. one_if (placed_members m places c == 0))
    (length m.couples)
    (λ c. by_members (is_some (place_of places (couple_of m c).first)) (is_some (place_of places (couple_of m c).second)))
  where
    by_members : (x y : Bool)
        → one_if (one_if x + one_if y == 2) + one_if (one_if x + one_if y == 1) + one_if (one_if x + one_if y == 0) ≡ 1
    by_members true true = refl
    by_members true false = refl
    by_members false true = refl
    by_members false false = refl

pub programs_add_up_lem : ProgramsAddUp
programs_add_up_lem m places =
    three_sums (λ p. one_if (is_full m places p)) (λ p. one_if (not (is_full m places p) && not (has_nobody places p)))
    (λ p. one_if (not (is_full m places p) && has_nobody places p)) (length m.programs)
    (λ p. by_tests (is_full m places p) (has_nobody places p))
  where
    by_tests : (x y : Bool) → one_if x + one_if (not x && not y) + one_if (not x && y) ≡ 1
    by_tests true y = refl
    by_tests false true = refl
    by_tests false false = refl

pub posts_add_up_lem : PostsAddUp
posts_add_up_lem m places within =
    sym (total_below-add (filled places) (λ p. (program_of m p).quota - filled places p) (length m.programs))
    ∙ total_below-same (λ p. filled places p + ((program_of m p).quota - filled places p)) (λ p. (program_of m p).quota) (length m.programs)
    (λ p p_in. let room = within p p_in in omega arith)

-- a value is at most the greatest one
pub greatest-le : (f : ℕ → ℕ) (n a : ℕ) → a < n → f a ≤ greatest_below f n
greatest-le f zero a within = absurd (omega arith)
greatest-le f (suc n) a within = elim (cases_lt a n) [
  | inl lower ↦ (let rest = greatest-le f n a lower in omega arith)
  | inr last ↦
      let same : f a ≡ f n = ap f (let e : a ≡ n = omega arith in e) in
      omega arith
]

-- a search for a place along a list finds none if there is no place
nothing_passes : (xs : List ℕ) → IsFalse (list_any (λ (p : ℕ). false) xs)
nothing_passes [] = refl
nothing_passes (x ∷ xs) = nothing_passes xs

placed_if_found : (place : Option ℕ) (xs : List ℕ) → IsTrue (list_any (λ p. is_program p place) xs) → IsTrue (is_some place)
placed_if_found None xs found = absurd (both_ways _ (nothing_passes xs) found)
placed_if_found (Some q) xs found = refl

-- a single that has an option of its list or nothing is placed exactly if it has an option
same_tests : (held placed : Bool) → IsTrue (held || not placed) → (IsTrue held → IsTrue placed) → held ≡ placed
same_tests true placed own there = sym (there refl)
same_tests false true own there = absurd (both_ways false refl own)
same_tests false false own there = refl

held_if_placed : (m : Market) (places : Places) (a : ℕ) → IsTrue (has_own_option m places (Single a))
    → is_some (held_option m places (Single a)) ≡ is_some (place_of places a)
held_if_placed m places a own =
    let found : Bool = list_any (λ p. is_program p (place_of places a)) (list_of m a) in
    let is_held : is_some (held_option m places (Single a)) ≡ found =
    sym (any_has_position (holds places) (options m (Single a)))
    ∙ list_any-map (holds places) (single_placement a) (list_of m a)
    ∙ ap (λ (test : ℕ → Bool). list_any test (list_of m a)) (holds-single_placement places a) in
    is_held
    ∙ same_tests found (is_some (place_of places a)) (sym (own_option-Single m places a) ∙ own) (placed_if_found (place_of places a) (list_of m a))

-- an option is counted at one number, which is below the largest
pub counted_once : (held : Option ℕ) (top : ℕ) → ordinal held ≤ top → total_below (λ k. one_if (is_program k held)) top ≡ one_if (is_some held)
counted_once None top low = total_below-zero top
counted_once (Some q) top low =
    count_below-one q top ∙ ap (λ (b : Bool). if b then 1 else 0) (lt-ltb q top (omega arith))

-- so a single counts once, at its choice or as unmatched, and a couple's member nowhere
one_share : (m : Market) (places : Places) → HaveOwnOptions m places → (a : ℕ) → a < applicants m
    → total_below (λ k. one_if (has_choice m places k a)) (most_choices m places) + one_if (is_single m a && not (is_some (place_of places a))) ≡ one_if (is_single m a)
one_share m places own a a_in = elim (agent_cases m a) [
  | inl alone ↦
      let single : IsTrue (is_single m a) = ap is_single_agent alone in
      let its_own : IsTrue (has_own_option m places (Single a)) = ap (has_own_option m places) (sym alone) ∙ own a a_in in
      let low : ordinal (held_option m places (Single a)) ≤ most_choices m places =
      greatest-le (λ b. ordinal (held_option m places (Single b))) (applicants m) a a_in in
      let counted = counted_once (held_option m places (Single a)) (most_choices m places) low in
      let choices : total_below (λ k. one_if (has_choice m places k a)) (most_choices m places) ≡ one_if (is_some (place_of places a)) =
      total_below-same (λ k. one_if (has_choice m places k a)) (λ k. one_if (is_program k (held_option m places (Single a)))) (most_choices m places)
      (λ k within. ap (λ (b : Bool). one_if (b && is_program k (held_option m places (Single a)))) single)
      ∙ counted ∙ ap one_if (held_if_placed m places a its_own) in
      ap (λ n. n + one_if (is_single m a && not (is_some (place_of places a)))) choices
      ∙ ap (λ (b : Bool). one_if (is_some (place_of places a)) + one_if (b && not (is_some (place_of places a)))) single
      ∙ one_or_other (is_some (place_of places a)) ∙ sym (ap one_if single)
  | inr w ↦
      let other : IsFalse (is_single m a) = ap is_single_agent w.1 in
      let choices : total_below (λ k. one_if (has_choice m places k a)) (most_choices m places) ≡ 0 =
      total_below-same (λ k. one_if (has_choice m places k a)) (λ k. 0) (most_choices m places)
      (λ k within. ap (λ (b : Bool). one_if (b && is_program k (held_option m places (Single a)))) other)
      ∙ total_below-zero (most_choices m places) in
      ap (λ n. n + one_if (is_single m a && not (is_some (place_of places a)))) choices
      ∙ ap (λ (b : Bool). 0 + one_if (b && not (is_some (place_of places a)))) other
      ∙ sym (ap one_if other)
]
  where
    one_or_other : (b : Bool) → one_if b + one_if (not b) ≡ 1
    one_or_other true = refl
    one_or_other false = refl

pub singles_add_up_lem : SinglesAddUp
singles_add_up_lem m places own =
    let top = most_choices m places in
    let n = applicants m in
    let unmatched : ℕ → ℕ = λ a. one_if (is_single m a && not (is_some (place_of places a))) in
    ap (λ x. x + total_below unmatched n) (total_below-swap (λ k a. one_if (has_choice m places k a)) n top)
    ∙ sym (total_below-add (λ a. total_below (λ k. one_if (has_choice m places k a)) top) unmatched n)
    ∙ total_below-same (λ a. total_below (λ k. one_if (has_choice m places k a)) top + unmatched a) (λ a. one_if (is_single m a)) n (one_share m places own)
