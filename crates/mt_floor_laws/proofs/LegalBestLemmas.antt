-- A legal floor on which no event is due is strict: no program holds anybody that has passed it.
use Rattle.std.proofs.Common.{◌≡◌, ℕ, ◌-◌, ◌<◌, ◌≤◌, Bool, true, false, ◌==◌, if◌then◌else◌, IsTrue, IsFalse, List, length, take, Option, Some, None, is_some, refl, sym, ◌∙◌, ap, arith, inl, inr}
use Rattle.std.specs.Prelude.{slice_get}
use Rattle.std.proofs.lemmas.Bool.{cases_lt, both_ways, and_from, false_from_ne_true, true_from_ne_false, false≢true}
use Rattle.std.proofs.lemmas.Bool.Decides.{nat_tests}
use Rattle.std.proofs.lemmas.List.{get_or_past, take_all}
use Rattle.mt_terms.specs.Lists.{has, until, count_below}
use Rattle.mt_terms.specs.Market.{Market, applicants, program_of, list_of, live, singles_market}
use Rattle.mt_terms.specs.Matching.{Places, place_of, is_program, at, filled}
use Rattle.mt_terms.specs.Stability.{stable}
use Rattle.mt_terms.specs.Best.{IsBest, better_programs}
use Rattle.mt_terms.specs.Floor.{Floor, held_set, proposed_to_on, passed_programs, last_proposed_to, is_held_by, IsLegal, IsStrict, is_settled, is_quiet, IsResult}
use Rattle.mt_terms.specs.WellFormed.{IsWellFormed}
use Rattle.mt_floor_laws.specs.Rural.{LegalBest}
use Rattle.mt_stability_laws.proofs.ChoiceLemmas.{IsChosenFrom, choice_facts}
use Rattle.mt_floor_laws.proofs.FloorEvents.{passed_from_front, tried_from_received}
use Rattle.mt_floor_laws.proofs.FloorLists.{has-until-take, has-take_before}
use Rattle.mt_terms.proofs.ListFacts.{has-filter, has-from_take}
use Rattle.mt_terms.proofs.LiveFacts.{live_parts, live_distinct}
use Rattle.mt_stability_laws.proofs.ListLemmas.{each_below, until-filter, passes_before}
use Rattle.mt_stability_laws.proofs.SinglesFacts.{IsStableForSingles, stable_facts}
use Rattle.mt_terms.proofs.Totals.{total_below-mono, total_below-tight, count_below-mono, count_below-tight}
use Rattle.mt_stability_laws.proofs.Seats.{placed_by_program, chosen_count}
use Rattle.mt_floor_laws.proofs.FloorBest.{strict_best_lem, if_some}
use Rattle.mt_floor_laws.proofs.FloorRuns.{best_exists_lem}
use Rattle.mt_floor_laws.proofs.RuralLemmas.{place_at, somewhere, filled_of, taken_where_free, placed_total}

-- a place of a stable match is on the live list
on_live : (m : Market) (b : Places) → IsStableForSingles m b → (a q : ℕ) → IsTrue (at b q a) → IsTrue (has (live m a) q)
on_live m b st a q h =
    has-filter (λ r. has (program_of m r).ranking a) (list_of m a) q
    ∙ and_from (has (program_of m q).ranking a) (has (list_of m a) q) (st.listed a q h) (st.on_list a q h)

-- the first of two, if the test passes, and the second, if it fails
if-first : (s x y : Bool) → IsTrue s → IsTrue (if s then x else y) → IsTrue x
if-first s x y passes h = grind arith

if-second : (s x y : Bool) → IsFalse s → IsTrue (if s then x else y) → IsTrue y
if-second s x y fails h = grind arith

if-none : (s : Bool) (o : Option ℕ) (p : ℕ) → (if s then None else o) ≡ Some p → o ≡ Some p
if-none true o p h = cc
if-none false o p h = h

-- an applicant that doesn't stand and has made all has passed all
all_passed : (s : Bool) (k l : ℕ) → IsFalse s → IsTrue (k == l) → l ≤ k - (if s then 1 else 0)
all_passed s k l fails h = grind (arith, nat_tests)

-- Below, f is a legal floor of a well-formed market.
module _ (m : Market) (w : IsWellFormed m) (f : Floor) (legal : IsLegal m f) where
  -- who holds an applicant is on its list
  held_listed : (p a : ℕ) → IsTrue (held_set m f p a) → IsTrue (has (list_of m a) p)
  held_listed p a h =
      let on_tried : IsTrue (has (proposed_to_on m f a) p) = tried_from_received m f legal.recorded a p (choice_facts (program_of m p) (f.received p) a h).is_member in
      (live_parts m a p (has-from_take (live m a) (f.made a) p on_tried)).1

  -- no single has passed its place in a stable match
  not_passed : (b : Places) → IsTrue (stable (singles_market m) b) → (a q : ℕ) → IsTrue (at b q a) → IsFalse (has (passed_programs m f a) q)
  not_passed b b_stable a q h = false_from_ne_true (has (passed_programs m f a) q) (λ past. both_ways (at b q a) (legal.passed_excluded a q past b b_stable) h)

  -- whomever a program holds that has a free post in the best match, the best match has there
  held_in_best : (b : Places) → IsBest m b → (p : ℕ) → filled b p < (program_of m p).quota → (a : ℕ) → IsTrue (held_set m f p a) → IsTrue (at b p a)
  held_in_best b best p free a h = true_from_ne_false (at b p a) not_elsewhere
    where
      of_b : IsStableForSingles m b
      of_b = stable_facts m b best.is_stable

      chosen : IsChosenFrom (program_of m p) (f.received p) a
      chosen = choice_facts (program_of m p) (f.received p) a h

      unwanted : IsFalse (has (better_programs m b a) p)
      unwanted = false_from_ne_true _ (λ wanted. both_ways _ (of_b.none_block a p wanted) (taken_where_free m w b of_b p a free chosen.is_listed))

      past_it : (q : ℕ) → IsTrue (at b q a) → IsTrue (has (until (λ x. x == p) (list_of m a)) q) → IsTrue (has (passed_programs m f a) q)
      past_it q at_q above_p =
          let on_live = until-filter (λ r. has (program_of m r).ranking a) (list_of m a) p q above_p (of_b.listed a q at_q) in
          passed_from_front m f a q (has-until-take (live m a) (f.made a) p q (tried_from_received m f legal.recorded a p chosen.is_member) on_live)

      not_elsewhere : IsFalse (at b p a) → ⊥
      not_elsewhere elsewhere =
          let (q, at_q, above_p) = passes_before (λ q. at b q a) (list_of m a) p (held_listed p a h) unwanted elsewhere in
          both_ways _ (not_passed b best.is_stable a q at_q) (past_it q at_q above_p)

  -- no program holds more than it has in the best match
  fewest_held : (b : Places) → IsBest m b → (p : ℕ) → count_below (held_set m f p) (applicants m) ≤ filled b p
  fewest_held b best p =
      let of_b = filled_of m b (stable_facts m b best.is_stable) p in
      elim (cases_lt (filled b p) (program_of m p).quota) [
        | inl free ↦ (let all_there = count_below-mono (held_set m f p) (at b p) (applicants m) (λ a l. held_in_best b best p free a) in omega (arith, of_b, all_there))
        | inr full ↦ omega (arith, chosen_count (program_of m p) (f.received p) (applicants m) (w.rankings_distinct p) (w.rankings_within p))
      ]

  -- Besides, no event is due, and the places are the floor's result.
  module _ (quiet : IsTrue (is_quiet m f)) (places : Places) (result : IsResult m f places) where
    settled : (a : ℕ) → a < applicants m → IsTrue (is_settled m f a)
    settled a within = each_below (is_settled m f) (applicants m) quiet a within

    -- an applicant at a program in the result stands where it proposed last, and that is this program
    result_stands : (p a : ℕ) → IsTrue (at places p a) → (a < applicants m) × IsTrue (f.standing a) × (last_proposed_to m f a ≡ Some p)
    result_stands p a h =
        elim (cases_lt a (applicants m)) [
          | inl within ↦
              (let stands = if_some (f.standing a) (last_proposed_to m f a) p (sym (result.each_place a within) ∙ place_at places p a h) in
              (within, stands.0, stands.1))
          | inr past ↦ absurd (both_ways (at places p a) (ap (is_program p) (get_or_past places a None (omega (arith, result.one_each)))) h)
        ]

    -- an applicant that stands is held where it proposed last
    standing_held : (a : ℕ) → a < applicants m → IsTrue (f.standing a) → IsTrue (is_held_by m f a (last_proposed_to m f a))
    standing_held a within stands = if-first (f.standing a) (is_held_by m f a (last_proposed_to m f a)) (f.made a == length (live m a)) stands (settled a within)

    -- an applicant that doesn't stand has passed its whole live list
    passed_all : (a : ℕ) → a < applicants m → IsFalse (f.standing a) → passed_programs m f a ≡ live m a
    passed_all a within walks =
        let used = if-second (f.standing a) (is_held_by m f a (last_proposed_to m f a)) (f.made a == length (live m a)) walks (settled a within) in
        take_all (f.made a - (if f.standing a then 1 else 0)) (live m a) (all_passed (f.standing a) (f.made a) (length (live m a)) walks used)

    -- an applicant at a program in the result is held there
    result_held : (p a : ℕ) → IsTrue (at places p a) → IsTrue (held_set m f p a)
    result_held p a h =
        let stands = result_stands p a h in
        ap (is_held_by m f a) (sym stands.2) ∙ standing_held a stands.0 stands.1

    -- an applicant that the best match places is placed in the result
    best_placed : (b : Places) → IsBest m b → (a : ℕ) → a < applicants m → IsTrue (is_some (place_of b a)) → IsTrue (is_some (place_of places a))
    best_placed b best a within h =
        ap is_some (result.each_place a within)
        ∙ ap (λ (s : Bool). is_some (if s then last_proposed_to m f a else None)) stands
        ∙ held_somewhere (last_proposed_to m f a) (standing_held a within stands)
      where
        held_somewhere : (o : Option ℕ) → IsTrue (is_held_by m f a o) → IsTrue (is_some o)
        held_somewhere None e = absurd (false≢true e)
        held_somewhere (Some p) e = refl

        has_stayed : IsFalse (f.standing a) → ⊥
        has_stayed walks =
            let (q, at_q) = somewhere b a h in
            both_ways (has (passed_programs m f a) q) (not_passed b best.is_stable a q at_q)
            (ap (λ (xs : List ℕ). has xs q) (passed_all a within walks) ∙ on_live m b (stable_facts m b best.is_stable) a q at_q)

        stands : IsTrue (f.standing a)
        stands = true_from_ne_false (f.standing a) has_stayed

    -- each program has as many in the result as it holds
    as_many_as_held : (p : ℕ) → p < length m.programs → count_below (at places p) (applicants m) ≡ count_below (held_set m f p) (applicants m)
    as_many_as_held p within =
        let (b, best) = best_exists_lem m w in
        let few_held = total_below-mono (λ q. count_below (held_set m f q) (applicants m)) (filled b) (length m.programs) (λ q l. fewest_held b best q) in
        let many_placed = count_below-mono (λ a. is_some (place_of b a)) (λ a. is_some (place_of places a)) (applicants m) (best_placed b best) in
        let of_b = placed_total m w b (stable_facts m b best.is_stable) in
        let of_result = placed_by_program places (applicants m) (length m.programs) (λ a q h. w.lists_within a q (held_listed q a (result_held q a h))) in
        total_below-tight (λ q. count_below (at places q) (applicants m)) (λ q. count_below (held_set m f q) (applicants m)) (length m.programs)
        (λ q l. count_below-mono (at places q) (held_set m f q) (applicants m) (λ a la. result_held q a))
        (omega (arith, few_held, of_b, many_placed, of_result)) p within

    -- whomever a program holds is there in the result
    held_result : (p a : ℕ) → IsTrue (held_set m f p a) → IsTrue (at places p a)
    held_result p a h =
        let as_many = as_many_as_held p (w.lists_within a p (held_listed p a h)) in
        count_below-tight (at places p) (held_set m f p) (applicants m) (λ c l. result_held p c) (omega (arith, as_many)) a
        (w.rankings_within p a (choice_facts (program_of m p) (f.received p) a h).is_listed)
        ∙ h

    -- an applicant that stands has not passed where it proposed last
    not_passed_last : (a p : ℕ) → IsTrue (f.standing a) → last_proposed_to m f a ≡ Some p → IsFalse (has (passed_programs m f a) p)
    not_passed_last a p stands last =
        ap (λ (s : Bool). has (take (f.made a - (if s then 1 else 0)) (live m a)) p) stands
        ∙ has-take_before (live m a) (f.made a - 1) p (live_distinct m w a) (if-none (f.made a == 0) (slice_get (live m a) (f.made a - 1)) p last)

    -- no program that a single has passed holds it, so the floor is strict
    floor_strict : IsStrict m f
    floor_strict = record {
      legal = legal;
      let_go = λ a p past. false_from_ne_true (held_set m f p a) (λ holds.
          let stands = result_stands p a (held_result p a holds) in
          both_ways (has (passed_programs m f a) p) (not_passed_last a p stands.1 stands.2) past);
    }

-- a legal floor on which no event is due is strict, and so its result is best
pub legal_floor_best : LegalBest
legal_floor_best m w f legal quiet places result = strict_best_lem m w f (floor_strict m w f legal quiet places result) quiet places result
