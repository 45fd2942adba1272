-- Stability by choices and by blocking pairs is one thing.
use Rattle.std.proofs.Common.{◌≡◌, ◌≢◌, ℕ, ◌+◌, ◌<◌, ◌≤◌, not, ◌==◌, ◌||◌, List, [], ◌∷◌, length, None, slice_set, IsTrue, IsFalse, refl, ap, sym, ◌∙◌, subst, inl, inr, arith, eq-eqb, ne_eqb, eqb-true}
use Rattle.std.proofs.lemmas.Bool.{and_parts, or_left, or_right, or_cases, cases_Bool, cases_lt, cases_eq, both_ways, false_from_ne_true, not-true}
use Rattle.std.proofs.lemmas.Bool.Decides.{nat_tests}
use Rattle.mt_terms.specs.Lists.{Set, has, until, count, above, with_one, is_distinct}
use Rattle.mt_terms.specs.Market.{Market, program_of, list_of, singles_market}
use Rattle.mt_terms.specs.Matching.{Places, at, filled, is_program}
use Rattle.mt_terms.specs.Choice.{choice}
use Rattle.mt_terms.specs.Stability.{stable}
use Rattle.mt_terms.specs.WellFormed.{IsWellFormed}
use Rattle.mt_verdict_laws.specs.Pairs.{HasRoomFor, IsStableByPairs, StabilityByPairs}
use Rattle.mt_stability_laws.proofs.ListLemmas.{above-with_one, above-le, above-lt, count-slice_set, count-le, count_none}
use Rattle.mt_stability_laws.proofs.ChoiceLemmas.{choice_facts, choice_from_facts}
use Rattle.mt_stability_laws.proofs.TakenLemmas.{at-slice_set_same, at-slice_set_other}
use Rattle.mt_stability_laws.proofs.ExclusionLemmas.{count-at, lt_of_there}
use Rattle.mt_stability_laws.proofs.SinglesFacts.{stable_facts, stable_from_facts}

-- there are no fewer on a list than on its front
count-until-le : (set test : Set) (xs : List ℕ) → count set (until test xs) ≤ count set xs
count-until-le set test [] = omega arith
count-until-le set test (x ∷ xs) = grind (arith, nat_tests, count-until-le set test xs)

-- a number before the first that passes doesn't pass
until-fails : (test : Set) (xs : List ℕ) (p : ℕ) → IsTrue (has (until test xs) p) → IsFalse (test p)
until-fails test [] p on = absurd (both_ways _ refl on)
until-fails test (x ∷ xs) p on = elim (cases_Bool (test x)) [
  | inl here ↦ absurd (both_ways _ refl (rw here at on))
  | inr not_here ↦
      let on' : IsTrue ((x == p) || has (until test xs) p) = rw not_here at on in
      elim (or_cases (x == p) (has (until test xs) p) on') [
        | inl same ↦ subst (λ (y : ℕ). IsFalse (test y)) (eqb-true x p same) not_here
        | inr later ↦ until-fails test xs p later
      ]
]

-- a list on which some of a set stand
one_of : (set : Set) (xs : List ℕ) → 0 < count set xs → (b : ℕ) × IsTrue (has xs b) × IsTrue (set b)
one_of set [] some = absurd (omega arith)
one_of set (x ∷ xs) some = elim (cases_Bool (set x)) [
  | inl here ↦ (x, or_left _ _ (eq-eqb x x refl), here)
  | inr not_here ↦
      let rest : 0 < count set xs = grind (arith, nat_tests) in
      let r = one_of set xs rest in
      (r.0, or_right _ _ r.1, r.2)
]

-- an element of the front is of the list up to another number than its first
in_front : (x : ℕ) (xs : List ℕ) (b a : ℕ) → IsFalse (x == b) → IsTrue ((x == a) || has (until (λ y. y == b) xs) a) → IsTrue (has (until (λ y. y == b) (x ∷ xs)) a)
in_front x xs b a other h = rw other h

-- if not all of a set stand above somebody who isn't of it, it stands above one of the set
one_below : (set : Set) (xs : List ℕ) (a : ℕ) → IsTrue (is_distinct xs) → IsTrue (has xs a) → IsFalse (set a) → above set xs a < count set xs
    → (b : ℕ) × IsTrue (has xs b) × IsTrue (set b) × IsTrue (has (until (λ x. x == b) xs) a)
one_below set [] a distinct on not_in some = absurd (omega arith)
one_below set (x ∷ xs) a distinct on not_in some =
    let parts = and_parts (not (has xs x)) (is_distinct xs) distinct in
    let apart : (b : ℕ) → IsTrue (has xs b) → IsFalse (x == b) =
    λ b later. ne_eqb x b (λ same. both_ways _ (not-true _ parts.0) (subst (λ (c : ℕ). IsTrue (has xs c)) (sym same) later)) in
    elim (cases_eq x a) [
      | inl same ↦
          let rest : 0 < count set xs = grind (arith, nat_tests, ap set same) in
          let r = one_of set xs rest in
          (r.0, or_right _ _ r.1, r.2, in_front x xs r.0 a (apart r.0 r.1) (or_left _ _ (eq-eqb x a same)))
      | inr other ↦
          let other' : IsFalse (x == a) = ne_eqb x a other in
          let on' : IsTrue (has xs a) = grind (arith, nat_tests) in
          let some' : above set xs a < count set xs = grind (arith, nat_tests) in
          let r = one_below set xs a parts.1 on' not_in some' in
          (r.0, or_right _ _ r.1, r.2, in_front x xs r.0 a (apart r.0 r.1) (or_right _ _ r.3))
    ]

-- a number on a list that isn't its first is on the rest of it
still_on : (x : ℕ) (xs : List ℕ) (b : ℕ) → b ≢ x → IsTrue (has (x ∷ xs) b) → IsTrue (has xs b)
still_on x xs b other on = elim (or_cases (x == b) (has xs b) on) [ inl same ↦ absurd (other (sym (eqb-true x b same))) | inr later ↦ later ]

-- if a list has all those at a program, no more are there than on the list
filled-le : (places : Places) (p : ℕ) (xs : List ℕ) → ((b : ℕ) → IsTrue (at places p b) → IsTrue (has xs b)) → filled places p ≤ count (at places p) xs
filled-le places p [] all =
    let none : filled places p ≡ 0 = count_none (is_program p) places None (λ b b_in. false_from_ne_true _ (λ there. both_ways _ refl (all b there))) in
    omega arith
filled-le places p (x ∷ xs) all = elim (cases_Bool (at places p x)) [
  | inl there ↦
      let left : Places = slice_set places x None in
      let x_in : x < length places = lt_of_there places x p there in
      let none_left : IsFalse (at left p x) = at-slice_set_same places x p None x_in in
      let stays : (b : ℕ) → IsTrue (at left p b) → (b ≢ x) × IsTrue (at places p b) = λ b there_left.
      let other : b ≢ x = λ same. both_ways _ none_left (subst (λ (c : ℕ). IsTrue (at left p c)) same there_left) in
      (other, sym (at-slice_set_other places x b p None other) ∙ there_left) in
      let rest : filled left p ≤ count (at left p) xs =
      filled-le left p xs (λ b there_left. still_on x xs b (stays b there_left).0 (all b (stays b there_left).1)) in
      let fewer : count (at left p) xs ≤ count (at places p) xs = count-le (at left p) (at places p) xs (λ b there_left. (stays b there_left).1) in
      let less : filled left p + 1 ≡ filled places p = count-slice_set (is_program p) places x None None x_in there refl in
      rw there (omega arith)
  | inr elsewhere ↦
      let other : (b : ℕ) → IsTrue (at places p b) → b ≢ x = λ b there same. both_ways _ elsewhere (subst (λ (c : ℕ). IsTrue (at places p c)) same there) in
      let rest : filled places p ≤ count (at places p) xs = filled-le places p xs (λ b there. still_on x xs b (other b there) (all b there)) in
      rw elsewhere (omega arith)
]

-- whom a program that keeps its quota has room for, it would choose
chosen_from_room : (m : Market) → IsWellFormed m → (places : Places) (a p : ℕ)
    → ((b : ℕ) → IsTrue (at places p b) → IsTrue (has (program_of m p).ranking b)) → filled places p ≤ (program_of m p).quota
    → IsTrue (has (program_of m p).ranking a) → HasRoomFor m places p a
    → IsTrue (choice (program_of m p) (with_one (at places p) a) a)
chosen_from_room m well places a p listed within is_listed room =
    let ranking : List ℕ = (program_of m p).ranking in
    let same_above : above (with_one (at places p) a) ranking a ≡ above (at places p) ranking a = above-with_one (at places p) ranking a in
    let few_there : count (at places p) ranking ≤ filled places p = count-at places p ranking (well.rankings_distinct p) in
    let no_more_above : above (at places p) ranking a ≤ count (at places p) ranking = count-until-le (at places p) (λ x. x == a) ranking in
    let few_above : above (at places p) ranking a < (program_of m p).quota = elim room [
      | inl free ↦ omega arith
      | inr less ↦
          let fewer : above (at places p) ranking a ≤ above (at places p) ranking less.0 = above-le (at places p) ranking less.0 a less.2 in
          let one_less : above (at places p) ranking less.0 < count (at places p) ranking = above-lt (at places p) ranking less.0 (listed less.0 less.1) less.1 in
          omega arith
    ] in
    choice_from_facts (program_of m p) (with_one (at places p) a) a
    (record { is_listed = is_listed; is_member = or_left _ _ (eq-eqb a a refl); has_few_above = omega arith })

-- a program that would choose somebody who isn't there has room for it
room_from_chosen : (m : Market) → IsWellFormed m → (places : Places) (a p : ℕ)
    → ((b : ℕ) → IsTrue (at places p b) → IsTrue (has (program_of m p).ranking b)) → IsFalse (at places p a)
    → IsTrue (choice (program_of m p) (with_one (at places p) a) a) → HasRoomFor m places p a
room_from_chosen m well places a p listed elsewhere chosen =
    let ranking : List ℕ = (program_of m p).ranking in
    let facts = choice_facts (program_of m p) (with_one (at places p) a) a chosen in
    let few : above (with_one (at places p) a) ranking a < (program_of m p).quota = facts.has_few_above in
    let same_above : above (with_one (at places p) a) ranking a ≡ above (at places p) ranking a = above-with_one (at places p) ranking a in
    let all_listed : filled places p ≤ count (at places p) ranking = filled-le places p ranking listed in
    elim (cases_lt (filled places p) (program_of m p).quota) [
      | inl free ↦ inl free
      | inr full ↦
          let r = one_below (at places p) ranking a (well.rankings_distinct p) facts.is_listed elsewhere (omega arith) in
          inr (r.0, r.2, r.3)
    ]

-- stability by choices and by blocking pairs is one thing
pub stability_by_pairs_lem : StabilityByPairs
stability_by_pairs_lem m well places = (by_pairs, by_choices)
  where
    by_pairs : IsTrue (stable (singles_market m) places) → IsStableByPairs m places
    by_pairs is_stable =
        let facts = stable_facts m places is_stable in
        record {
          one_each = facts.one_each;
          on_list = facts.on_list;
          listed = facts.listed;
          within = facts.within;
          no_blocking_pair = λ a p pair.
              both_ways _ (facts.none_block a p pair.is_better)
              (chosen_from_room m well places a p (λ b there. facts.listed b p there) (facts.within p) pair.is_listed pair.has_room);
        }

    by_choices : IsStableByPairs m places → IsTrue (stable (singles_market m) places)
    by_choices facts = stable_from_facts m places (record {
      one_each = facts.one_each;
      on_list = facts.on_list;
      listed = facts.listed;
      within = facts.within;
      none_block = λ a p better. false_from_ne_true _ (λ chosen. facts.no_blocking_pair a p (record {
        is_better = better;
        is_listed = (choice_facts (program_of m p) (with_one (at places p) a) a chosen).is_listed;
        has_room = room_from_chosen m well places a p (λ b there. facts.listed b p there) (until-fails (λ q. at places q a) (list_of m a) p better) chosen;
      }));
    })
