-- How often each number is among those that agents have, summed agent by agent. A couple's member has no list, so it
-- has no choice.
use Rattle.std.proofs.Common.{◌≡◌, ℕ, zero, suc, ◌+◌, ◌-◌, ◌<◌, ◌≤◌, Bool, true, false, ◌&&◌, List, [], ◌∷◌, ◌++◌, map, length, get_or, max, Option, Some, None, IsTrue, refl, sym, ap, ap₂, ◌∙◌, inl, inr, arith, if◌then◌else◌}
use Rattle.std.specs.List.{position}
use Rattle.std.proofs.Math.Path.{fun_ext}
use Rattle.std.proofs.lemmas.Bool.{cases_lt, eqb-true, true≢false}
use Rattle.std.proofs.lemmas.List.{get_or_past}
use Rattle.mt_terms.specs.Lists.{below, count, count_below}
use Rattle.mt_terms.specs.Market.{Market, applicants}
use Rattle.mt_terms.specs.Matching.{Places, holds, is_program, single_placement}
use Rattle.mt_terms.specs.WellFormed.{IsWellFormed}
use Rattle.mt_terms.specs.declared.numbers.Agent.TheVariants.{Couple, Single}
use Rattle.mt_terms.proofs.BelowFacts.{length-map_below, map-below_more, map_below_at}
use Rattle.mt_terms.proofs.Totals.{count_below-same}
use Rattle.mt_ranks.proofs.LiveMarket.{no_list_of_member}
use Rattle.mt_ranks.specs.Ranked.{is_single}
use Rattle.mt_report.proofs.CountFacts.{count-push}
use Rattle.mt_verify.specs.Held.{held_option}
use Rattle.mt_statistics.specs.Counts.{choice_counts, greatest_below, has_choice, last_of, most_choices, ordinal, pair_counts}
use Rattle.mt_statistics.specs.Held.{held_counts, most_held}
use Rattle.mt_statistics.proofs.SumFacts.{greatest-le}

greatest-same : (f g : ℕ → ℕ) (n : ℕ) → ((a : ℕ) → a < n → f a ≡ g a) → greatest_below f n ≡ greatest_below g n
greatest-same f g zero same = refl
greatest-same f g (suc n) same = ap₂ (λ (x y : ℕ). max x y) (same n (omega arith)) (greatest-same f g n (λ a h. same a (omega arith)))

-- what is among some numbers is below the largest, counted from 1
pub below_most : (held : List (Option ℕ)) (i k : ℕ) → IsTrue (is_program k (get_or held i None)) → k < most_held held
below_most held i k there = elim (cases_lt i (length held)) [
  | inl low ↦
      let at_most : ordinal (get_or held i None) ≤ most_held held = greatest-le (λ j. ordinal (get_or held j None)) (length held) i low in
      under (get_or held i None) there at_most
  | inr past ↦ absurd (nothing (get_or held i None) (get_or_past held i None past) there)
]
  where
    under : (o : Option ℕ) → IsTrue (is_program k o) → ordinal o ≤ most_held held → k < most_held held
    under None h le = absurd (true≢false (sym h))
    under (Some q) h le = let same : q ≡ k = eqb-true q k h in omega arith

    nothing : (o : Option ℕ) → o ≡ None → IsTrue (is_program k o) → ⊥
    nothing None e h = true≢false (sym h)
    nothing (Some q) e h = cc

count_of_numbers : (test : Option ℕ → Bool) (h : ℕ → Option ℕ) (n : ℕ) → count test (map h (below n)) ≡ count_below (λ a. test (h a)) n
count_of_numbers test h zero = refl
count_of_numbers test h (suc n) =
    let one_more : suc n ≡ n + 1 = omega arith in
    let step : map h (below (suc n)) ≡ map h (below n) ++ h n ∷ [] = ap (λ k. map h (below k)) one_more ∙ map-below_more h n in
    let counted : count test (map h (below (suc n))) ≡ count test (map h (below n)) + (if test (h n) then 1 else 0) =
    ap (count test) step ∙ count-push test (map h (below n)) (h n) in
    omega (arith, counted, count_of_numbers test h n)

-- the counts of what each number below n has
held_counts-map : (h : ℕ → Option ℕ) (n : ℕ)
    → held_counts (map h (below n)) ≡ map (λ k. count_below (λ a. is_program k (h a)) n) (below (greatest_below (λ a. ordinal (h a)) n))
held_counts-map h n =
    let top : most_held (map h (below n)) ≡ greatest_below (λ a. ordinal (h a)) n =
    ap (greatest_below (λ i. ordinal (get_or (map h (below n)) i None))) (length-map_below h n)
    ∙ greatest-same (λ i. ordinal (get_or (map h (below n)) i None)) (λ a. ordinal (h a)) n (λ a within. ap ordinal (map_below_at h n a None within)) in
    ap (λ (t : ℕ). map (λ k. count (is_program k) (map h (below n))) (below t)) top
    ∙ ap (λ (f : ℕ → ℕ). map f (below (greatest_below (λ a. ordinal (h a)) n))) (fun_ext (λ k. count_of_numbers (is_program k) h n))

and_same : (b c : Bool) → (b ≡ false → c ≡ false) → c ≡ (b && c)
and_same true c h = refl
and_same false c h = h refl

pub choice_counts_are : (m : Market) (places : Places) → IsWellFormed m
    → held_counts (map (λ a. held_option m places (Single a)) (below (applicants m))) ≡ choice_counts m places
choice_counts_are m places w =
    held_counts-map (λ a. held_option m places (Single a)) (applicants m)
    ∙ ap (λ (f : ℕ → ℕ). map f (below (most_choices m places)))
    (fun_ext (λ k. count_below-same (λ a. is_program k (held_option m places (Single a))) (has_choice m places k) (applicants m)
    (λ a within. and_same (is_single m a) (is_program k (held_option m places (Single a))) (λ other. ap (is_program k) (no_choice a other)))))
  where
    no_choice : (a : ℕ) → is_single m a ≡ false → held_option m places (Single a) ≡ None
    no_choice a other = ap (λ (xs : List ℕ). position (holds places) (map (single_placement a) xs)) (no_list_of_member m a w other)

pub pair_counts_are : (m : Market) (places : Places)
    → held_counts (map (λ c. held_option m places (Couple c)) (below (length m.couples))) ≡ pair_counts m places
pair_counts_are m places = held_counts-map (λ c. held_option m places (Couple c)) (length m.couples)

-- the last element is the one before the length
pub last_at : (xs : List ℕ) → 0 < length xs → Some (get_or xs (length xs - 1) 0) ≡ last_of xs
last_at [] h = absurd (omega arith)
last_at (x ∷ []) h = let e : length (x ∷ []) - 1 ≡ 0 = omega arith in ap (λ (i : ℕ). Some (get_or (x ∷ []) i 0)) e
last_at (x ∷ y ∷ xs) h =
    let outer : length (x ∷ y ∷ xs) - 1 ≡ suc (length xs) = omega arith in
    let inner : length xs ≡ length (y ∷ xs) - 1 = omega arith in
    ap (λ (i : ℕ). Some (get_or (x ∷ y ∷ xs) i 0)) outer ∙ ap (λ (i : ℕ). Some (get_or (y ∷ xs) i 0)) inner ∙ last_at (y ∷ xs) (omega arith)

-- what stands at a place, whatever stands for none
pub item_is : (held : List (Option ℕ)) (i : ℕ) (d o : Option ℕ) → get_or held i d ≡ o → i < length held → get_or held i None ≡ o
item_is [] i d o is within = absurd (omega arith)
item_is (x ∷ xs) zero d o is within = is
item_is (x ∷ xs) (suc i) d o is within = item_is xs i d o is (omega arith)
