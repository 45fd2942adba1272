-- How a stable match of the singles compares with the best one.
use Rattle.std.proofs.Common.{◌≡◌, ℕ, ◌<◌, ◌≤◌, ◌==◌, IsTrue, IsFalse, [], length, Option, Some, None, is_some, refl, sym, ◌∙◌, ap, arith, inl, inr}
use Rattle.std.proofs.lemmas.Bool.{cases_lt, both_ways, or_left, true_from_ne_false, eq-eqb, false≢true}
use Rattle.std.proofs.lemmas.List.{get_or_past}
use Rattle.mt_terms.specs.Lists.{has, count, until, above, with_one, total_below, count_below}
use Rattle.mt_terms.specs.Market.{Market, Program, applicants, program_of, list_of, singles_market}
use Rattle.mt_terms.specs.Matching.{Places, place_of, is_program, at, filled}
use Rattle.mt_terms.specs.Choice.{choice}
use Rattle.mt_terms.specs.Stability.{stable}
use Rattle.mt_terms.specs.Best.{IsBest, better_programs}
use Rattle.mt_terms.specs.WellFormed.{IsWellFormed}
use Rattle.mt_floor_laws.specs.Rural.{SinglesFillAlike, FillAlikeWithoutCouples}
use Rattle.mt_stability_laws.proofs.SinglesFacts.{IsStableForSingles, stable_facts}
use Rattle.mt_stability_laws.proofs.ChoiceLemmas.{choice_from_facts}
use Rattle.mt_stability_laws.proofs.ExclusionLemmas.{count-at, best_is_at_least_lem}
use Rattle.mt_stability_laws.proofs.ListLemmas.{until_nobody, until_eqb_sym, passes_before, above-with_one}
use Rattle.mt_floor_laws.proofs.FloorRuns.{best_exists_lem}
use Rattle.mt_terms.proofs.Totals.{total_below-mono, total_below-tight, count_below-mono, count_below-tight}
use Rattle.mt_stability_laws.proofs.Seats.{filled_by_applicant, placed_count, above-le-count}
use Rattle.mt_terms.proofs.AgentFacts.{place_is}

-- an applicant at a program has it as its place
pub place_at : (places : Places) (p a : ℕ) → IsTrue (at places p a) → place_of places a ≡ Some p
place_at places p a h = place_is p (place_of places a) h

-- an applicant that is placed is at a program
pub somewhere : (places : Places) (a : ℕ) → IsTrue (is_some (place_of places a)) → (p : ℕ) × IsTrue (at places p a)
somewhere places a h = of_place (place_of places a) h
  where
    of_place : (o : Option ℕ) → IsTrue (is_some o) → (p : ℕ) × IsTrue (is_program p o)
    of_place None h = absurd (false≢true h)
    of_place (Some p) h = (p, eq-eqb p p refl)

-- an applicant that is unplaced wants each program of its list more
better_than_none : (m : Market) (places : Places) (a : ℕ) → IsFalse (is_some (place_of places a)) → better_programs m places a ≡ list_of m a
better_than_none m places a h = ap (λ (o : Option ℕ). until (λ p. is_program p o) (list_of m a)) (no_place (place_of places a) h) ∙ until_nobody (list_of m a)
  where
    no_place : (o : Option ℕ) → IsFalse (is_some o) → o ≡ None
    no_place None h = refl
    no_place (Some p) h = absurd (false≢true (sym h))

-- an applicant that is placed wants the programs above its place more
better_than_place : (m : Market) (places : Places) (a p : ℕ) → IsTrue (at places p a) → better_programs m places a ≡ until (λ q. q == p) (list_of m a)
better_than_place m places a p h = ap (λ (o : Option ℕ). until (λ q. is_program q o) (list_of m a)) (place_at places p a h) ∙ until_eqb_sym (list_of m a) p

-- a program's places, counted by the market's applicants
pub filled_of : (m : Market) (n : Places) → IsStableForSingles m n → (p : ℕ) → filled n p ≡ count_below (at n p) (applicants m)
filled_of m n st p = filled_by_applicant n p ∙ ap (count_below (at n p)) st.one_each

-- a program with a free post would take whomever it lists
pub taken_where_free : (m : Market) → IsWellFormed m → (n : Places) → IsStableForSingles m n → (p a : ℕ) →
    filled n p < (program_of m p).quota → IsTrue (has (program_of m p).ranking a) →
    IsTrue (choice (program_of m p) (with_one (at n p) a) a)
taken_where_free m w n st p a free listed =
    let there : count (at n p) (program_of m p).ranking ≤ filled n p = count-at n p (program_of m p).ranking (w.rankings_distinct p) in
    let few : above (with_one (at n p) a) (program_of m p).ranking a < (program_of m p).quota =
    omega (arith, there, above-with_one (at n p) (program_of m p).ranking a, above-le-count (at n p) (program_of m p).ranking a) in
    choice_from_facts (program_of m p) (with_one (at n p) a) a
    (record { is_listed = listed; is_member = or_left (a == a) (at n p a) (eq-eqb a a refl); has_few_above = few })

-- how many applicants a match places
abbrev pub placed : Market → Places → ℕ
placed m n = count_below (λ a. is_some (place_of n a)) (applicants m)

-- as many as a match places, its programs have
pub placed_total : (m : Market) → IsWellFormed m → (n : Places) → IsStableForSingles m n → total_below (filled n) (length m.programs) ≡ placed m n
placed_total m w n st =
    placed_count n (length m.programs) (λ a p h. w.lists_within a p (st.on_list a p h))
    ∙ ap (count_below (λ a. is_some (place_of n a))) st.one_each

-- a number that no applicant has is unplaced
unplaced_past : (m : Market) (n : Places) → IsStableForSingles m n → (a : ℕ) → applicants m ≤ a → place_of n a ≡ None
unplaced_past m n st a past = get_or_past n a None (omega (arith, st.one_each))

-- a number that no program has takes nobody
unfilled_past : (m : Market) (n : Places) → IsStableForSingles m n → (p : ℕ) → length m.programs ≤ p → filled n p ≡ 0
unfilled_past m n st p past =
    let none : (program_of m p).quota ≡ 0 = ap (λ (x : Program). x.quota) (get_or_past m.programs p (record { quota = 0; ranking = [] }) past) in
    omega (arith, none, st.within p)

-- Below, b is the best match of a well-formed market, and n a stable one.
module _ (m : Market) (w : IsWellFormed m) (b : Places) (best : IsBest m b) (n : Places) (n_stable : IsTrue (stable (singles_market m) n)) where
  of_b : IsStableForSingles m b
  of_b = stable_facts m b best.is_stable

  of_n : IsStableForSingles m n
  of_n = stable_facts m n n_stable

  -- an applicant that isn't at its best place in a stable match wants that place more
  wants_best_place : (a p : ℕ) → IsTrue (at b p a) → IsFalse (at n p a) → IsTrue (has (better_programs m n a) p)
  wants_best_place a p at_b not_n = true_from_ne_false (has (better_programs m n a) p) (λ unwanted.
      let (q, at_q, above_p) = passes_before (λ q. at n q a) (list_of m a) p (of_b.on_list a p at_b) unwanted not_n in
      both_ways (has (better_programs m b a) q) (best_is_at_least_lem m b n best n_stable a q at_q) (rw (better_than_place m b a p at_b) above_p))

  -- an applicant that is placed in a stable match is placed in the best one
  placed_in_best : (a : ℕ) → IsTrue (is_some (place_of n a)) → IsTrue (is_some (place_of b a))
  placed_in_best a h = true_from_ne_false (is_some (place_of b a)) (λ unplaced.
      let (q, at_q) = somewhere n a h in
      both_ways (has (better_programs m b a) q) (best_is_at_least_lem m b n best n_stable a q at_q) (rw (better_than_none m b a unplaced) (of_n.on_list a q at_q)))

  -- an applicant that the best match places at a program with a free post in a stable match is there in that match
  stays_where_free : (p : ℕ) → filled n p < (program_of m p).quota → (a : ℕ) → IsTrue (at b p a) → IsTrue (at n p a)
  stays_where_free p free a h = true_from_ne_false (at n p a) (λ elsewhere.
      both_ways (choice (program_of m p) (with_one (at n p) a) a)
      (of_n.none_block a p (wants_best_place a p h elsewhere))
      (taken_where_free m w n of_n p a free (of_b.listed a p h)))

  -- no program has more applicants in the best match than in a stable one
  fewest_in_best : (p : ℕ) → filled b p ≤ filled n p
  fewest_in_best p =
      elim (cases_lt (filled n p) (program_of m p).quota) [
        | inl free ↦
            (let all_stay = count_below-mono (at b p) (at n p) (applicants m) (λ a l. stays_where_free p free a) in
            omega (arith, all_stay, filled_of m b of_b p, filled_of m n of_n p))
        | inr full ↦ omega (arith, of_b.within p)
      ]

  -- the totals of a stable match and of the best one agree
  totals_agree : (total_below (filled n) (length m.programs) ≤ total_below (filled b) (length m.programs)) × (placed m b ≤ placed m n)
  totals_agree =
      let programs_have = total_below-mono (filled b) (filled n) (length m.programs) (λ p l. fewest_in_best p) in
      let are_placed = count_below-mono (λ a. is_some (place_of n a)) (λ a. is_some (place_of b a)) (applicants m) (λ a l. placed_in_best a) in
      omega (arith, programs_have, are_placed, placed_total m w b of_b, placed_total m w n of_n)

  -- a stable match has as many at each program as the best one
  as_many_as_best : (p : ℕ) → filled n p ≡ filled b p
  as_many_as_best p =
      elim (cases_lt p (length m.programs)) [
        | inl within ↦ sym (total_below-tight (filled b) (filled n) (length m.programs) (λ q l. fewest_in_best q) totals_agree.0 p within)
        | inr past ↦ unfilled_past m n of_n p past ∙ sym (unfilled_past m b of_b p past)
      ]

  -- a number that no applicant has is unplaced in both
  same_past : (a : ℕ) → applicants m ≤ a → place_of n a ≡ place_of b a
  same_past a past = unplaced_past m n of_n a past ∙ sym (unplaced_past m b of_b a past)

  -- a stable match places whom the best one places
  placed_as_in_best : (a : ℕ) → is_some (place_of n a) ≡ is_some (place_of b a)
  placed_as_in_best a =
      elim (cases_lt a (applicants m)) [
        | inl within ↦ count_below-tight (λ c. is_some (place_of n c)) (λ c. is_some (place_of b c)) (applicants m) (λ c l. placed_in_best c) totals_agree.1 a within
        | inr past ↦ ap is_some (same_past a past)
      ]

  -- a program with a free post in a stable match has there whom it has in the best one
  same_as_best_where_free : (p : ℕ) → filled n p < (program_of m p).quota → (a : ℕ) → at n p a ≡ at b p a
  same_as_best_where_free p free a =
      elim (cases_lt a (applicants m)) [
        | inl within ↦
            (let no_more : count_below (at n p) (applicants m) ≤ count_below (at b p) (applicants m) =
            omega (arith, as_many_as_best p, filled_of m b of_b p, filled_of m n of_n p) in
            sym (count_below-tight (at b p) (at n p) (applicants m) (λ c l. stays_where_free p free c) no_more a within))
        | inr past ↦ ap (is_program p) (same_past a past)
      ]

-- any two stable matches of the singles fill the market as the best one does, and so alike
pub singles_fill_alike : SinglesFillAlike
singles_fill_alike m w s t s_stable t_stable = record {
  same_placed = λ a. placed_as_in_best m w b best s s_stable a ∙ sym (placed_as_in_best m w b best t t_stable a);
  equally_many = equally_many;
  same_where_free = λ p free a.
      same_as_best_where_free m w b best s s_stable p free a
      ∙ sym (same_as_best_where_free m w b best t t_stable p (omega (arith, equally_many p)) a);
}
  where
    b : Places
    b = (best_exists_lem m w).0

    best : IsBest m b
    best = (best_exists_lem m w).1

    equally_many : (p : ℕ) → filled s p ≡ filled t p
    equally_many p = as_many_as_best m w b best s s_stable p ∙ sym (as_many_as_best m w b best t t_stable p)

-- without couples any two stable matches fill the market alike
pub fill_alike_without_couples : FillAlikeWithoutCouples
fill_alike_without_couples m w no_couples s t s_stable t_stable =
    singles_fill_alike m w s t (for_singles s s_stable) (for_singles t t_stable)
  where
    for_singles : (n : Places) → IsTrue (stable m n) → IsTrue (stable (singles_market m) n)
    for_singles n n_stable = rw no_couples at n_stable
