-- How many events are due, and that they come to an end.
use Rattle.std.proofs.Common.{◌≡◌, ℕ, zero, suc, ◌+◌, ◌-◌, ◌*◌, ◌<◌, ◌≤◌, Bool, true, false, ◌==◌, List, [], ◌∷◌, length, Option, Some, None, is_some, slice_get, IsTrue, IsFalse, refl, ap, ap₂, sym, ◌∙◌, if◌then◌else◌, arith, subst, ◌≢◌, ◌⊎◌, inl, inr}
use Rattle.std.specs.List.{list_all, range_with_len}
use Rattle.std.proofs.lemmas.Bool.{both_ways, and_from, and_cases, cases_Bool, not_from_false, eqb-false}
use Rattle.std.proofs.lemmas.List.FromFn.{length-map-range_with_len, get_or-map-range_with_len, fill_by_all}
use Rattle.std.proofs.lemmas.Bool.Decides.{nat_tests}
use Rattle.mt_terms.specs.Lists.{Set, has, total_below}
use Rattle.mt_terms.specs.Market.{Market, live, applicants, live_entries}
use Rattle.mt_terms.specs.Matching.{Places}
use Rattle.mt_terms.specs.Floor.{Floor, last_proposed_to, next_entry, is_held_by, is_settled, is_quiet, is_due, after, after_all, after_proposal, proposed_at, IsRecorded, opening, due_count, proposals_made, place_on, result_of, IsResult}
use Rattle.mt_floor_laws.specs.Floors.{OpeningIsStrict, DueAtMost, QuietIsReached, is_proposal, due_proposals, DueProposalsAreMade, MadeAtMost, ResultOfFloor, BestExists, ChainHasStrictEnd}
use Rattle.mt_terms.specs.WellFormed.{IsWellFormed}
use Rattle.mt_terms.specs.Examples.Markets.{chain}
use Rattle.mt_terms.specs.Examples.Events.{by_wishes}
use Rattle.mt_terms.specs.declared.events.Event.{Event}
use Rattle.mt_terms.specs.declared.events.Event.TheVariants.{Propose, Notice}
use Rattle.mt_terms.proofs.Totals.{total_below-mono}
use Rattle.mt_stability_laws.proofs.WellFormedLemmas.{well_formed_from_test}
use Rattle.mt_floor_laws.proofs.FloorSums.{total_below-one_more, total_below-twice}
use Rattle.mt_floor_laws.proofs.FloorLists.{has-get}
use Rattle.mt_floor_laws.proofs.FloorEvents.{IsNext, next_facts, IsDropped, noticed, after_due, after_not_due, made_same, made_other, standing_other, noticed_same, noticed_other, within_get, get_some, event_keeps_recorded_lem, events_keep_strict_lem}
use Rattle.mt_floor_laws.proofs.FloorBest.{applicant_from_live, strict_best_lem}

-- what an applicant with these numbers of live entries and proposals has yet to do: twice the entries left, and one
-- if it stands
abbrev yet_to_do : ℕ → ℕ → Bool → ℕ
yet_to_do entries made stands = 2 * (entries - made) + (if stands then 1 else 0)

-- the same of an applicant on a floor
abbrev left_to_do : Market → Floor → ℕ → ℕ
left_to_do m f a = yet_to_do (length (live m a)) (f.made a) (f.standing a)

-- what all applicants have yet to do
abbrev weight : Market → Floor → ℕ
weight m f = total_below (left_to_do m f) (applicants m)

-- a proposal leaves less to do, whether or not its applicant then stands
less_after_proposal : (n made made' : ℕ) (b s : Bool) → made < n → made' ≡ suc made → IsFalse b → yet_to_do n made' s < yet_to_do n made b
less_after_proposal n made made' b s h more free = grind (arith, nat_tests)

-- a notice leaves less to do
less_after_notice : (n made : ℕ) (b s : Bool) → IsTrue b → IsFalse s → yet_to_do n made s < yet_to_do n made b
less_after_notice n made b s stands free = grind (arith, nat_tests)

-- the weight falls if one applicant has less to do
weight_less : (m : Market) (f g : Floor) (a p : ℕ) → IsTrue (has (live m a) p) → left_to_do m g a < left_to_do m f a
    → ((b : ℕ) → b ≢ a → left_to_do m g b ≡ left_to_do m f b) → weight m g < weight m f
weight_less m f g a p on less same =
    let rises = total_below-one_more (left_to_do m g) (left_to_do m f) (applicants m) a (left_to_do m f a - left_to_do m g a) (omega arith) (λ b other. sym (same b other)) (applicant_from_live m a p on) in
    omega (arith, rises)

-- the weight falls with a proposal
weight_after_proposal : (m : Market) (f : Floor) (a p : ℕ) → IsNext m f a p → weight m (proposed_at m f a p) < weight m f
weight_after_proposal m f a p n =
    weight_less m f (proposed_at m f a p) a p (has-get (live m a) (f.made a) p n.next)
    (less_after_proposal (length (live m a)) (f.made a) _ (f.standing a) _ (within_get (live m a) (f.made a) p n.next) (made_same m f a p) n.free)
    (λ b other. ap₂ (yet_to_do (length (live m b))) (made_other m f a p b other) (standing_other m f a p b other))

-- the weight falls with a notice
weight_after_notice : (m : Market) (f : Floor) (a k p : ℕ) → IsDropped m f a k p → weight m (noticed f a) < weight m f
weight_after_notice m f a k p d =
    weight_less m f (noticed f a) a p (has-get (live m a) k p d.last)
    (less_after_notice (length (live m a)) (f.made a) (f.standing a) _ d.stands (noticed_same f a))
    (λ b other. ap (yet_to_do (length (live m b)) (f.made b)) (noticed_other f a b other))

-- the weight falls with each event that is due
weight_after_due : (m : Market) (f : Floor) → IsRecorded m f → (e : Event) → IsTrue (is_due m f e) → weight m (after m f e) < weight m f
weight_after_due m f r e due = after_due m (λ g. weight m g < weight m f) f r (weight_after_proposal m f) (weight_after_notice m f) e due

-- no more events are due than the weight falls
due_and_weight : (m : Market) (f : Floor) → IsRecorded m f → (es : List Event) → due_count m f es + weight m (after_all m f es) ≤ weight m f
due_and_weight m f r [] = omega arith
due_and_weight m f r (e ∷ es) = step (due_and_weight m (after m f e) (event_keeps_recorded_lem m f e r) es) (cases_Bool (is_due m f e))
  where
    step : due_count m (after m f e) es + weight m (after_all m (after m f e) es) ≤ weight m (after m f e)
        → (IsTrue (is_due m f e)) ⊎ (IsFalse (is_due m f e)) → due_count m f (e ∷ es) + weight m (after_all m f (e ∷ es)) ≤ weight m f
    step rest (inl due) = rw due (omega (arith, rest, weight_after_due m f r e due))
    step rest (inr not_due) = rw not_due (omega (arith, rest, ap (weight m) (after_not_due m f e not_due)))

-- an applicant has at most twice its live entries to do
to_do_at_most : (n made : ℕ) (b : Bool) → made ≤ n → (IsTrue b → 0 < made) → yet_to_do n made b ≤ 2 * n
to_do_at_most n made true within proposed = omega (arith, proposed refl)
to_do_at_most n made false within proposed = omega arith

-- the weight is at most twice the live entries
weight_at_most : (m : Market) (f : Floor) → IsRecorded m f → weight m f ≤ 2 * live_entries m
weight_at_most m f r =
    let each = total_below-mono (left_to_do m f) (λ a. 2 * length (live m a)) (applicants m) (λ a low. to_do_at_most (length (live m a)) (f.made a) (f.standing a) (r.within a) (r.proposed a)) in
    omega (arith, each, total_below-twice (λ a. length (live m a)) (applicants m))

-- no more events are due than twice the live entries
pub due_at_most_lem : DueAtMost
due_at_most_lem m f r es = omega (arith, due_and_weight m f r es, weight_at_most m f r)

-- how an event changes the number of proposals made
made_after_due : (m : Market) (f : Floor) → IsRecorded m f → (e : Event) → IsTrue (is_due m f e) → proposals_made m (after m f e) ≡ (if is_proposal e then 1 else 0) + proposals_made m f
made_after_due m f r (Propose a) due = go (next_entry m f a) refl due
  where
    go : (o : Option ℕ) → next_entry m f a ≡ o → IsTrue (is_some o) → proposals_made m (after_proposal m f a o) ≡ 1 + proposals_made m f
    go None e h = absurd (both_ways false refl h)
    go (Some p) e h =
        let n = next_facts m f a p e in
        total_below-one_more f.made (proposed_at m f a p).made (applicants m) a 1 (omega (arith, made_same m f a p)) (made_other m f a p) (applicant_from_live m a p (has-get (live m a) (f.made a) p n.next))
made_after_due m f r (Notice a) due =
    let same : proposals_made m (after m f (Notice a)) ≡ proposals_made m f = ap (λ b. proposals_made m (if b then (noticed f a) else f)) due in
    omega (arith, same)

-- the number of proposals made rises by the due proposals
pub due_proposals_are_made_lem : DueProposalsAreMade
due_proposals_are_made_lem m f r [] = omega arith
due_proposals_are_made_lem m f r (e ∷ es) = step (due_proposals_are_made_lem m (after m f e) (event_keeps_recorded_lem m f e r) es) (cases_Bool (is_due m f e))
  where
    step : proposals_made m (after_all m (after m f e) es) ≡ due_proposals m (after m f e) es + proposals_made m (after m f e)
        → (IsTrue (is_due m f e)) ⊎ (IsFalse (is_due m f e)) → proposals_made m (after_all m f (e ∷ es)) ≡ due_proposals m f (e ∷ es) + proposals_made m f
    step rest (inl due) = rw due (omega (arith, rest, made_after_due m f r e due))
    step rest (inr not_due) = rw not_due (omega (arith, rest, ap (proposals_made m) (after_not_due m f e not_due)))

-- no more proposals are made than there are live entries
pub made_at_most_lem : MadeAtMost
made_at_most_lem m f r = total_below-mono f.made (λ a. length (live m a)) (applicants m) (λ a low. r.within a)

-- some number of a range fails a test that not all of them pass
fails_in_range : (test : Set) (a n : ℕ) → IsFalse (list_all test (range_with_len a n)) → (k : ℕ) × (k < a + n) × IsFalse (test k)
fails_in_range test a zero h = absurd (both_ways true h refl)
fails_in_range test a (suc n) h = elim (and_cases (test a) (list_all test (range_with_len (a + 1) n)) h) [
  | inl here ↦ (a, omega arith, here)
  | inr later ↦ (let found = fails_in_range test (a + 1) n later in (found.0, omega (arith, found.1), found.2))
]

-- an applicant that isn't settled has an event that is due
due_where_unsettled : (m : Market) (f : Floor) → IsRecorded m f → (a : ℕ) → IsFalse (is_settled m f a) → (e : Event) × IsTrue (is_due m f e)
due_where_unsettled m f r a unsettled = go (cases_Bool (f.standing a))
  where
    if_false : (b x y : Bool) → IsFalse (if b then x else y) → (IsTrue b → IsFalse x) × (IsFalse b → IsFalse y)
    if_false true x y h = (λ t. h, λ e. absurd (both_ways true e refl))
    if_false false x y h = (λ t. absurd (both_ways false refl t), λ e. h)

    parts : (IsTrue (f.standing a) → IsFalse (is_held_by m f a (last_proposed_to m f a))) × (IsFalse (f.standing a) → IsFalse (f.made a == length (live m a)))
    parts = if_false (f.standing a) (is_held_by m f a (last_proposed_to m f a)) (f.made a == length (live m a)) unsettled

    go : (IsTrue (f.standing a)) ⊎ (IsFalse (f.standing a)) → (e : Event) × IsTrue (is_due m f e)
    go (inl stands) = (Notice a, and_from _ _ stands (not_from_false _ (parts.0 stands)))
    go (inr free) =
        let left = eqb-false _ _ (parts.1 free) in
        let within = r.within a in
        let found = get_some (live m a) (f.made a) (omega arith) in
        (Propose a, ap (λ b. is_some (if b then None else slice_get (live m a) (f.made a))) free ∙ ap (λ o. is_some o) found.1)

-- some list of events ends where no event is due
quiet_within : (m : Market) (k : ℕ) (f : Floor) → IsRecorded m f → weight m f ≤ k → (es : List Event) × IsTrue (is_quiet m (after_all m f es))
quiet_within m zero f r bound = elim (cases_Bool (is_quiet m f)) [
  | inl quiet ↦ ([], quiet)
  | inr not_quiet ↦
      let found = fails_in_range (is_settled m f) 0 (applicants m) not_quiet in
      let e = due_where_unsettled m f r found.0 found.2 in
      absurd (omega (arith, weight_after_due m f r e.0 e.1, bound))
]
quiet_within m (suc k) f r bound = elim (cases_Bool (is_quiet m f)) [
  | inl quiet ↦ ([], quiet)
  | inr not_quiet ↦
      let found = fails_in_range (is_settled m f) 0 (applicants m) not_quiet in
      let e = due_where_unsettled m f r found.0 found.2 in
      let rest = quiet_within m k (after m f e.0) (event_keeps_recorded_lem m f e.0 r) (omega (arith, weight_after_due m f r e.0 e.1, bound)) in
      (e.0 ∷ rest.0, rest.1)
]

-- from each recorded floor, some list of events ends where no event is due
pub quiet_is_reached_lem : QuietIsReached
quiet_is_reached_lem m f r = quiet_within m (weight m f) f r (omega arith)

-- the opening floor is strict
pub opening_is_strict_lem : OpeningIsStrict
opening_is_strict_lem m = record {
  legal = record {
    recorded = record { within = λ a. omega arith; proposed = λ a stands. absurd (both_ways false refl stands); receives = λ a p. refl };
    passed_excluded = λ a p left. absurd (both_ways false refl left);
    refused_excluded = λ a p on. absurd (both_ways false refl on);
  };
  let_go = λ a p left. absurd (both_ways false refl left);
}

-- each floor has a result
pub result_of_is_result : (m : Market) (f : Floor) → IsResult m f (result_of m f)
result_of_is_result m f = record {
  one_each = length-map-range_with_len (place_on m f) 0 (applicants m);
  each_place = λ a low. get_or-map-range_with_len (place_on m f) 0 (applicants m) a a None low (omega arith);
}

-- and no other one
pub result_of_floor_lem : ResultOfFloor
result_of_floor_lem m f places = (
  (λ result. fill_by_all (place_on m f) places (applicants m) None result.one_each result.each_place),
  (λ same. subst (λ (r : Places). IsResult m f r) (sym same) (result_of_is_result m f)),
)

-- there is a best match
pub best_exists_lem : BestExists
best_exists_lem m wf =
    let strict = opening_is_strict_lem m in
    let end = quiet_is_reached_lem m opening strict.legal.recorded in
    let f : Floor = after_all m opening end.0 in
    (result_of m f, strict_best_lem m wf f (events_keep_strict_lem m wf opening end.0 strict) end.1 (result_of m f) (result_of_is_result m f))

-- the rejection chain ends on a strict floor
pub chain_has_strict_end : ChainHasStrictEnd
chain_has_strict_end =
    let well_formed : IsWellFormed chain = well_formed_from_test chain refl in
    record {
      well_formed = well_formed;
      strict = events_keep_strict_lem chain well_formed opening by_wishes (opening_is_strict_lem chain);
      quiet = refl;
      result = result_of_is_result chain (after_all chain opening by_wishes);
    }
