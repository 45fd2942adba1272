-- What it means, fact by fact, that a match of the singles' market is stable.
use Rattle.std.proofs.Common.{◌≡◌, ℕ, ◌≤◌, ◌<◌, Bool, true, false, not, ◌&&◌, ◌||◌, ◌==◌, nat_le, List, [], ◌∷◌, map, length, is_some, Option, Some, None, IsTrue, IsFalse, refl, ap, sym, ◌∙◌, subst, eqb-true, eq-eqb, le-leb, leb-true, inl, inr, arith}
use Rattle.std.specs.List.{list_any, list_all}
use Rattle.std.proofs.lemmas.Bool.{and_parts, and_from, or_left, or_right, or_cases, cases_lt, not-true, not_from_false, both_ways, false_from_ne_true}
use Rattle.std.proofs.lemmas.Bool.Decides.{nat_tests}
use Rattle.std.proofs.lemmas.List.{get_or_past}
use Rattle.std.proofs.lemmas.List.Folds.{list_all-map}
use mathlib.Core.Path.{fun_ext}
use Rattle.mt_terms.specs.Lists.{Set, has, with_one, until, below}
use Rattle.mt_terms.specs.Market.{Market, Program, applicants, program_of, list_of, singles_market, agents}
use Rattle.mt_terms.specs.Matching.{Places, at, filled, place_of, is_program, is_same_place, holds, single_placement, none_placed, better}
use Rattle.mt_terms.specs.Choice.{choice}
use Rattle.mt_terms.specs.Stability.{stable, fits, has_own_option, is_listed, blocks, would_be_taken}
use Rattle.mt_terms.specs.Best.{better_programs}
use Rattle.mt_terms.proofs.ListFacts.{list_any-map}
use Rattle.mt_stability_laws.specs.Singles.{StabilityOfSingles}
pub use Rattle.mt_stability_laws.specs.Singles.{IsStableForSingles}
use Rattle.mt_terms.specs.declared.numbers.Agent.{Agent}
use Rattle.mt_terms.specs.declared.numbers.Agent.TheVariants.{Single}
use Rattle.mt_stability_laws.proofs.ListLemmas.{all_below, each_below, none_below, each_fails_below, count_none, none_has, none_from_each, until-map, filter_all}
use Rattle.mt_stability_laws.proofs.TakenLemmas.{single_taken_lem}

-- without couples every applicant is an agent
pub agents-singles_market : (m : Market) → agents (singles_market m) ≡ map Single (below (applicants m))
agents-singles_market m = ap (map Single) (filter_all (below (applicants m)))

-- a test of all agents, if every applicant is an agent
list_all-agents : (m : Market) (test : Agent → Bool) → list_all test (agents (singles_market m)) ≡ list_all (λ a. test (Single a)) (below (applicants m))
list_all-agents m test = ap (list_all test) (agents-singles_market m) ∙ list_all-map test Single (below (applicants m))

-- a test of some agent, if every applicant is an agent
list_any-agents : (m : Market) (test : Agent → Bool) → list_any test (agents (singles_market m)) ≡ list_any (λ a. test (Single a)) (below (applicants m))
list_any-agents m test = ap (list_any test) (agents-singles_market m) ∙ list_any-map test Single (below (applicants m))

-- a single has an option if it is at the option's program
holds-single_placement_at : (places : Places) (a p : ℕ) (place : Option ℕ) → (is_same_place place (Some p) && true) ≡ is_program p place
holds-single_placement_at places a p None = refl
holds-single_placement_at places a p (Some q) = grind (arith, nat_tests)

-- a single's options hold if it is at their programs
holds-single_placement : (places : Places) (a : ℕ) → ◌≡◌ {A = Set} (λ p. holds places (single_placement a p)) (λ p. at places p a)
holds-single_placement places a = fun_ext λ p. holds-single_placement_at places a p (place_of places a)

-- a single's better options are the better programs
better-Single : (m : Market) (places : Places) (a : ℕ) → better (singles_market m) places (Single a) ≡ map (single_placement a) (better_programs m places a)
better-Single m places a =
    until-map (holds places) (single_placement a) (list_of m a) ∙ ap (λ test. map (single_placement a) (until test (list_of m a))) (holds-single_placement places a)

-- a single blocks with one of the better programs that would choose it
blocks-Single : (m : Market) (places : Places) (a : ℕ) → a < length places
    → blocks (singles_market m) places (Single a) ≡ list_any (λ p. choice (program_of m p) (with_one (at places p) a) a) (better_programs m places a)
blocks-Single m places a a_in =
    ap (list_any (would_be_taken (singles_market m) places)) (better-Single m places a)
    ∙ list_any-map (would_be_taken (singles_market m) places) (single_placement a) (better_programs m places a)
    ∙ ap (λ test. list_any test (better_programs m places a)) (fun_ext λ p. single_taken_lem (singles_market m) places a p a_in)

-- a single has an option of its own if it is nowhere, or at a program of its list
has_own_option-Single : (m : Market) (places : Places) (a : ℕ)
    → has_own_option (singles_market m) places (Single a) ≡ (list_any (λ p. at places p a) (list_of m a) || none_placed places (a ∷ []))
has_own_option-Single m places a =
    ap (λ b. b || none_placed places (a ∷ []))
    (list_any-map (holds places) (single_placement a) (list_of m a) ∙ ap (λ test. list_any test (list_of m a)) (holds-single_placement places a))

-- if such an option is asked for, a placed single's program is on its list
own_option_has : (xs : List ℕ) (p : ℕ) (place : Option ℕ) → IsTrue (list_any (λ q. is_program q place) xs || (not (is_some place) && true))
    → IsTrue (is_program p place) → IsTrue (has xs p)
own_option_has xs p None own there = absurd (both_ways false refl there)
own_option_has xs p (Some q) own there =
    let same : q ≡ p = eqb-true q p there in
    elim (or_cases _ _ own) [ inl found ↦ has-at_place xs p q same found | inr none ↦ absurd (both_ways false refl none) ]
  where
    has-at_place : (xs : List ℕ) (p q : ℕ) → q ≡ p → IsTrue (list_any (λ r. q == r) xs) → IsTrue (has xs p)
    has-at_place [] p q same found = found
    has-at_place (x ∷ xs) p q same found = grind (arith, nat_tests, has-at_place xs p q same)

-- a single whose program is on its list has an option of its own, or is nowhere
own_option_from : (xs : List ℕ) (place : Option ℕ) → ((p : ℕ) → IsTrue (is_program p place) → IsTrue (has xs p))
    → IsTrue (list_any (λ q. is_program q place) xs || (not (is_some place) && true))
own_option_from xs None h = or_right _ _ refl
own_option_from xs (Some q) h = or_left _ _ (at_place-has xs q (h q (eq-eqb q q refl)))
  where
    at_place-has : (xs : List ℕ) (q : ℕ) → IsTrue (has xs q) → IsTrue (list_any (λ r. q == r) xs)
    at_place-has [] q on = on
    at_place-has (x ∷ xs) q on = grind (arith, nat_tests, at_place-has xs q)

-- what a program lists, by an applicant's place
listed_at : (m : Market) (a p : ℕ) (place : Option ℕ) → IsTrue (is_listed (singles_market m) a place) → IsTrue (is_program p place)
    → IsTrue (has (program_of m p).ranking a)
listed_at m a p None listed there = absurd (both_ways false refl there)
listed_at m a p (Some q) listed there = subst (λ (r : ℕ). IsTrue (has (program_of m r).ranking a)) (eqb-true q p there) listed

-- a single's place is listed if its program lists it
is_listed_from : (m : Market) (a : ℕ) (place : Option ℕ) → ((p : ℕ) → IsTrue (is_program p place) → IsTrue (has (program_of m p).ranking a))
    → IsTrue (is_listed (singles_market m) a place)
is_listed_from m a None h = refl
is_listed_from m a (Some q) h = h q (eq-eqb q q refl)

-- nobody beyond the last applicant is anywhere
pub at_past : (places : Places) (a p : ℕ) → length places ≤ a → IsFalse (at places p a)
at_past places a p past = ap (is_program p) (get_or_past places a None past)

-- the five parts of the test
pub record StableParts (m : Market) (places : Places) : Type 0 where
  pub one_each : IsTrue (length places == applicants m)
  pub own_options : IsTrue (list_all (has_own_option m places) (agents m))
  pub listed : IsTrue (list_all (λ a. is_listed m a (place_of places a)) (below (applicants m)))
  pub within : IsTrue (list_all (λ p. nat_le (filled places p) (program_of m p).quota) (below (length m.programs)))
  pub none_blocks : IsFalse (list_any (blocks m places) (agents m))

-- a stable match has the five parts
pub stable_parts : (m : Market) (places : Places) → IsTrue (stable m places) → StableParts m places
stable_parts m places h =
    let all = and_parts (fits m places) _ h in
    let first = and_parts _ (list_all (λ p. nat_le (filled places p) (program_of m p).quota) (below (length m.programs))) all.0 in
    let second = and_parts _ (list_all (λ a. is_listed m a (place_of places a)) (below (applicants m))) first.0 in
    let third = and_parts (length places == applicants m) _ second.0 in
    record { one_each = third.0; own_options = third.1; listed = second.1; within = first.1; none_blocks = not-true _ all.1 }

-- a match with the five parts is stable
pub stable_from_parts : (m : Market) (places : Places) → StableParts m places → IsTrue (stable m places)
stable_from_parts m places h =
    and_from _ _ (and_from _ _ (and_from _ _ (and_from _ _ h.one_each h.own_options) h.listed) h.within) (not_from_false _ h.none_blocks)

-- a match of the singles that passes the test has these facts
pub stable_facts : (m : Market) (places : Places) → IsTrue (stable (singles_market m) places) → IsStableForSingles m places
stable_facts m places h = record { one_each = one_each; on_list = on_list; listed = listed; within = within; none_block = none_block }
  where
    parts : StableParts (singles_market m) places
    parts = stable_parts (singles_market m) places h

    one_each : length places ≡ applicants m
    one_each = eqb-true _ _ parts.one_each

    applies : (a p : ℕ) → IsTrue (at places p a) → a < applicants m
    applies a p there = elim (cases_lt a (applicants m)) [
      | inl low ↦ low
      | inr high ↦ absurd (both_ways _ (at_past places a p (let e = one_each in omega arith)) there)
    ]

    own_option : (a : ℕ) → a < applicants m → IsTrue (has_own_option (singles_market m) places (Single a))
    own_option =
        each_below (λ a. has_own_option (singles_market m) places (Single a)) (applicants m)
        (sym (list_all-agents m (has_own_option (singles_market m) places)) ∙ parts.own_options)

    on_list : (a p : ℕ) → IsTrue (at places p a) → IsTrue (has (list_of m a) p)
    on_list a p there =
        own_option_has (list_of m a) p (place_of places a) (sym (has_own_option-Single m places a) ∙ own_option a (applies a p there)) there

    listed : (a p : ℕ) → IsTrue (at places p a) → IsTrue (has (program_of m p).ranking a)
    listed a p there =
        listed_at m a p (place_of places a)
        (each_below (λ b. is_listed (singles_market m) b (place_of places b)) (applicants m) parts.listed a (applies a p there)) there

    none_past : (p : ℕ) → length m.programs ≤ p → filled places p ≡ 0
    none_past p past =
        let unknown : program_of m p ≡ record { quota = 0; ranking = [] } = get_or_past m.programs p _ past in
        let unlisted : (a : ℕ) → IsTrue (at places p a) → ⊥ =
        λ a there. both_ways false refl (subst (λ (q : Program). IsTrue (has q.ranking a)) unknown (listed a p there)) in
        count_none (is_program p) places None (λ a a_in. false_from_ne_true _ (unlisted a))

    within : (p : ℕ) → filled places p ≤ (program_of m p).quota
    within p = elim (cases_lt p (length m.programs)) [
      | inl low ↦ leb-true _ _ (each_below (λ q. nat_le (filled places q) (program_of m q).quota) (length m.programs) parts.within p low)
      | inr high ↦ rw (none_past p high) (omega arith)
    ]

    not_blocking : (a : ℕ) → a < applicants m → IsFalse (blocks (singles_market m) places (Single a))
    not_blocking =
        each_fails_below (λ a. blocks (singles_market m) places (Single a)) (applicants m)
        (sym (list_any-agents m (blocks (singles_market m) places)) ∙ parts.none_blocks)

    none_block : (a p : ℕ) → IsTrue (has (better_programs m places a) p) → IsFalse (choice (program_of m p) (with_one (at places p) a) a)
    none_block a p better_one = elim (cases_lt a (applicants m)) [
      | inl low ↦
          let a_in : a < length places = (let e = one_each in omega arith) in
          none_has (λ q. choice (program_of m q) (with_one (at places q) a) a) (better_programs m places a) p
          (sym (blocks-Single m places a a_in) ∙ not_blocking a low) better_one
      | inr high ↦
          let unknown : list_of m a ≡ [] = get_or_past m.lists a [] high in
          absurd (both_ways false refl (subst (λ (xs : List ℕ). IsTrue (has (until (λ q. at places q a) xs) p)) unknown better_one))
    ]

-- a match with these facts passes the test
pub stable_from_facts : (m : Market) (places : Places) → IsStableForSingles m places → IsTrue (stable (singles_market m) places)
stable_from_facts m places h = stable_from_parts (singles_market m) places (record {
  one_each = eq-eqb _ _ h.one_each;
  own_options =
      list_all-agents m (has_own_option (singles_market m) places)
      ∙ all_below _ (applicants m) (λ a low. has_own_option-Single m places a ∙ own_option_from (list_of m a) (place_of places a) (h.on_list a));
  listed = all_below _ (applicants m) (λ a low. is_listed_from m a (place_of places a) (h.listed a));
  within = all_below _ (length m.programs) (λ p low. le-leb _ _ (h.within p));
  none_blocks =
      list_any-agents m (blocks (singles_market m) places)
      ∙ none_below _ (applicants m) (λ a low.
      blocks-Single m places a (let e = h.one_each in omega arith)
      ∙ none_from_each (λ p. choice (program_of m p) (with_one (at places p) a) a) (better_programs m places a) (h.none_block a));
})

-- the test and the facts say the same
pub stability_of_singles_lem : StabilityOfSingles
stability_of_singles_lem m places = (stable_facts m places, stable_from_facts m places)
