-- A strict floor on which no event is due has the best match as its result.
use Rattle.std.proofs.Common.{◌≡◌, ℕ, ◌<◌, ◌≤◌, Bool, true, false, ◌||◌, ◌==◌, List, [], length, take, Option, Some, None, IsTrue, IsFalse, refl, ap, sym, ◌∙◌, if◌then◌else◌, arith, subst, eqb-true, eq-eqb, ◌⊎◌, inl, inr, le-ltb, le_of_eq}
use Rattle.std.specs.List.{filter}
use Rattle.std.proofs.lemmas.Bool.{both_ways, or_right, and_left, and_right, cases_Bool, cases_lt, false_from_ne_true}
use Rattle.std.proofs.lemmas.List.{get_or_past, take_all}
use Rattle.mt_terms.specs.Lists.{has, until, with_one, above, count_below}
use Rattle.mt_terms.specs.Market.{Market, program_of, list_of, live, applicants}
use Rattle.mt_terms.specs.Matching.{Places, at, place_of, is_program}
use Rattle.mt_terms.specs.Choice.{choice}
use Rattle.mt_terms.specs.Best.{IsExcluded, better_programs}
use Rattle.mt_terms.specs.WellFormed.{IsWellFormed}
use Rattle.mt_terms.specs.Floor.{Floor, held_set, proposed_to_on, passed_programs, last_proposed_to, is_held_by, is_settled, is_quiet, IsRecorded, IsStrict, IsResult}
use Rattle.mt_floor_laws.specs.Floors.{StrictBest}
use Rattle.mt_stability_laws.proofs.ListLemmas.{each_below, count-le, has-until}
use Rattle.mt_stability_laws.proofs.ChoiceLemmas.{choice_facts}
use Rattle.mt_terms.proofs.Totals.{count_below-mono}
use Rattle.mt_stability_laws.proofs.Seats.{chosen_count, filled_by_applicant}
use Rattle.mt_stability_laws.proofs.SinglesFacts.{stable_facts, stable_from_facts, at_past}
use Rattle.mt_terms.proofs.LiveFacts.{live_parts}
use Rattle.mt_floor_laws.proofs.FloorLists.{has-get, has-take-suc, has-until-get, has-until-filter}
use Rattle.mt_stability_laws.proofs.FloorChoices.{above-choice}
use Rattle.mt_floor_laws.proofs.FloorEvents.{tried_from_passed, tried_from_received, passed_where_free, passed_where_standing, HasLast, last_facts}
use Rattle.mt_terms.proofs.AgentFacts.{place_is}

-- only applicants have live entries
pub applicant_from_live : (m : Market) (a p : ℕ) → IsTrue (has (live m a) p) → a < applicants m
applicant_from_live m a p on = elim (cases_lt a (applicants m)) [
  | inl low ↦ low
  | inr high ↦
      let unknown : list_of m a ≡ [] = get_or_past m.lists a [] high in
      absurd (both_ways false refl (subst (λ (xs : List ℕ). IsTrue (has xs p)) unknown (live_parts m a p on).1))
]

-- beyond the last applicant nobody has a live entry
live_past : (m : Market) (a : ℕ) → applicants m ≤ a → length (live m a) ≡ 0
live_past m a high = ap (λ (xs : List ℕ). length (filter (λ p. has (program_of m p).ranking a) xs)) (get_or_past m.lists a [] high)

-- An applicant is placed at a program: it stands there, and proposed there last.
pub record IsPlaced (m : Market) (f : Floor) (a k p : ℕ) : Type 0 where
  pub stands : IsTrue (f.standing a)
  pub last : HasLast m f a k p

-- what a place that there is only for who stands tells
pub if_some : (b : Bool) (o : Option ℕ) (p : ℕ) → (if b then o else None) ≡ Some p → IsTrue b × (o ≡ Some p)
if_some true o p e = (refl, e)
if_some false o p e = cc

-- who is at a program in the result stands there
pub placed_facts : (m : Market) (f : Floor) → IsRecorded m f → (places : Places) → IsResult m f places
    → (a p : ℕ) → IsTrue (at places p a) → (k : ℕ) × IsPlaced m f a k p
placed_facts m f r places result a p there = go (cases_lt a (applicants m))
  where
    go : (a < applicants m) ⊎ (applicants m ≤ a) → (k : ℕ) × IsPlaced m f a k p
    go (inl low) =
        let facts = if_some (f.standing a) (last_proposed_to m f a) p (sym (result.each_place a low) ∙ place_is p (place_of places a) there) in
        let l = last_facts m f r a facts.0 in
        let same : l.1 ≡ p = some_inj (sym l.2.last_is ∙ facts.1) in
        (l.0, subst (λ (q : ℕ). IsPlaced m f a l.0 q) same (record { stands = facts.0; last = l.2 }))
      where
        some_inj : {x y : ℕ} → Some x ≡ Some y → x ≡ y
        some_inj e = cc
    go (inr high) = absurd (both_ways _ (at_past places a p (omega (arith, result.one_each, high))) there)

-- who stands is at the program where it proposed last in the result
pub placed_from : (m : Market) (f : Floor) (places : Places) → IsResult m f places → (a k p : ℕ) → IsPlaced m f a k p → IsTrue (at places p a)
placed_from m f places result a k p h =
    let low = applicant_from_live m a p (has-get (live m a) k p h.last.last) in
    let here : place_of places a ≡ Some p = result.each_place a low ∙ ap (λ b. if b then last_proposed_to m f a else None) h.stands ∙ h.last.last_is in
    ap (is_program p) here ∙ eq-eqb p p refl

-- on a floor on which no event is due, who is placed is held
pub held_where_quiet : (m : Market) (f : Floor) → IsTrue (is_quiet m f) → (a k p : ℕ) → IsPlaced m f a k p → IsTrue (held_set m f p a)
held_where_quiet m f quiet a k p h =
    let low = applicant_from_live m a p (has-get (live m a) k p h.last.last) in
    let settled = each_below (is_settled m f) (applicants m) quiet a low in
    ap (is_held_by m f a) (sym h.last.last_is) ∙ ap (λ b. if b then is_held_by m f a (last_proposed_to m f a) else (f.made a == length (live m a))) (sym h.stands) ∙ settled

-- on a floor on which no event is due, who doesn't stand has tried its whole live list
pub tried_where_quiet : (m : Market) (f : Floor) → IsRecorded m f → IsTrue (is_quiet m f) → (a : ℕ) → IsFalse (f.standing a) → proposed_to_on m f a ≡ live m a
tried_where_quiet m f r quiet a free = go (cases_lt a (applicants m))
  where
    go : (a < applicants m) ⊎ (applicants m ≤ a) → proposed_to_on m f a ≡ live m a
    go (inl low) =
        let settled = each_below (is_settled m f) (applicants m) quiet a low in
        let used : IsTrue (f.made a == length (live m a)) = ap (λ b. if b then is_held_by m f a (last_proposed_to m f a) else (f.made a == length (live m a))) (sym free) ∙ settled in
        take_all (f.made a) (live m a) (le_of_eq (sym (eqb-true _ _ used)))
    go (inr high) = take_all (f.made a) (live m a) (omega (arith, live_past m a high))

-- on a strict floor, who is held is placed there
placed_from_held : (m : Market) (f : Floor) → IsStrict m f → (a p : ℕ) → IsTrue (held_set m f p a) → (k : ℕ) × IsPlaced m f a k p
placed_from_held m f s a p on = go (cases_Bool (f.standing a))
  where
    has_tried : IsTrue (has (proposed_to_on m f a) p)
    has_tried = tried_from_received m f s.legal.recorded a p (choice_facts (program_of m p) (f.received p) a on).is_member

    not_passed : IsFalse (has (passed_programs m f a) p)
    not_passed = false_from_ne_true _ (λ left. both_ways _ (s.let_go a p left) on)

    go : (IsTrue (f.standing a)) ⊎ (IsFalse (f.standing a)) → (k : ℕ) × IsPlaced m f a k p
    go (inl stands) =
        let l = last_facts m f s.legal.recorded a stands in
        let front : IsFalse (has (take l.0 (live m a)) p) = ap (λ ps. has ps p) (sym (passed_where_standing m f a l.0 l.1 stands l.2)) ∙ not_passed in
        let both : IsTrue (has (take l.0 (live m a)) p || (l.1 == p)) =
        sym (has-take-suc (live m a) l.0 l.1 p l.2.last) ∙ ap (λ n. has (take n (live m a)) p) (sym l.2.made_more) ∙ has_tried in
        let same : l.1 ≡ p = eqb-true _ _ (second _ _ front both) in
        (l.0, subst (λ (q : ℕ). IsPlaced m f a l.0 q) same (record { stands = stands; last = l.2 }))
      where
        second : (x y : Bool) → IsFalse x → IsTrue (x || y) → IsTrue y
        second x y h e = grind arith
    go (inr free) = absurd (both_ways _ not_passed (ap (λ ps. has ps p) (passed_where_free m f a free) ∙ has_tried))

-- a live program that an applicant wants more than its place is one that it has passed
pub passed_from_better : (m : Market) (f : Floor) → IsRecorded m f → IsTrue (is_quiet m f) → (places : Places) → IsResult m f places
    → (a p : ℕ) → IsTrue (has (program_of m p).ranking a) → IsTrue (has (better_programs m places a) p) → IsTrue (has (passed_programs m f a) p)
passed_from_better m f r quiet places result a p listed better = go (cases_Bool (f.standing a))
  where
    on_live : IsTrue (has (until (λ q. at places q a) (live m a)) p)
    on_live = has-until-filter (λ q. at places q a) (λ q. has (program_of m q).ranking a) (list_of m a) p better listed

    go : (IsTrue (f.standing a)) ⊎ (IsFalse (f.standing a)) → IsTrue (has (passed_programs m f a) p)
    go (inl stands) =
        let l = last_facts m f r a stands in
        let there = placed_from m f places result a l.0 l.1 (record { stands = stands; last = l.2 }) in
        ap (λ ps. has ps p) (passed_where_standing m f a l.0 l.1 stands l.2) ∙ has-until-get (λ q. at places q a) (live m a) l.0 l.1 p l.2.last there on_live
    go (inr free) =
        ap (λ ps. has ps p) (passed_where_free m f a free ∙ tried_where_quiet m f r quiet a free) ∙ has-until (λ q. at places q a) (live m a) p on_live

-- a program that doesn't list an applicant can't have it
excluded_if_unlisted : (m : Market) (a p : ℕ) → IsFalse (has (program_of m p).ranking a) → IsExcluded m a p
excluded_if_unlisted m a p unlisted places is_stable =
    false_from_ne_true _ (λ there. both_ways _ unlisted ((stable_facts m places is_stable).listed a p there))

-- a program that an applicant wants more than its place doesn't choose it
unchosen_if_better : (m : Market) → IsWellFormed m → (f : Floor) → IsStrict m f → IsTrue (is_quiet m f) → (places : Places) → IsResult m f places
    → (a p : ℕ) → IsTrue (has (better_programs m places a) p) → IsFalse (choice (program_of m p) (with_one (at places p) a) a)
unchosen_if_better m wf f s quiet places result a p better = go (cases_Bool (has (program_of m p).ranking a))
  where
    full : IsTrue (has (program_of m p).ranking a) → (program_of m p).quota ≤ above (with_one (at places p) a) (program_of m p).ranking a
    full listed =
        let left = passed_from_better m f s.legal.recorded quiet places result a p listed better in
        let on : IsTrue (f.received p a) = s.legal.recorded.receives a p ∙ tried_from_passed m f a p left in
        let at_least = above-choice (program_of m p) (f.received p) a (wf.rankings_distinct p) listed on (s.let_go a p left) in
        let more = count-le (held_set m f p) (with_one (at places p) a) (until (λ b. b == a) (program_of m p).ranking)
        (λ b held_b. let placed = placed_from_held m f s b p held_b in or_right _ _ (placed_from m f places result b placed.0 p placed.1)) in
        omega (arith, at_least, more)

    go : (IsTrue (has (program_of m p).ranking a)) ⊎ (IsFalse (has (program_of m p).ranking a)) → IsFalse (choice (program_of m p) (with_one (at places p) a) a)
    go (inl listed) = and_right _ _ (le-ltb _ _ (full listed))
    go (inr unlisted) = and_left _ _ (and_left _ _ unlisted)

-- a strict floor on which no event is due has the best match as its result
pub strict_best_lem : StrictBest
strict_best_lem m wf f s quiet places result = record {
  is_stable = stable_from_facts m places (record {
    one_each = result.one_each;
    on_list = λ a p there. (live_parts m a p (placed_live a p there)).1;
    listed = λ a p there. (live_parts m a p (placed_live a p there)).0;
    within = λ p.
        let few = chosen_count (program_of m p) (f.received p) (applicants m) (wf.rankings_distinct p) (wf.rankings_within p) in
        let all_held = count_below-mono (at places p) (held_set m f p) (applicants m)
        (λ a low there. let placed = placed_facts m f s.legal.recorded places result a p there in held_where_quiet m f quiet a placed.0 p placed.1) in
        omega (arith, few, all_held, filled_by_applicant places p, ap (λ n. count_below (at places p) n) result.one_each);
    none_block = unchosen_if_better m wf f s quiet places result;
  });
  none_better = λ a p better. by_listing a p better (cases_Bool (has (program_of m p).ranking a));
}
  where
    placed_live : (a p : ℕ) → IsTrue (at places p a) → IsTrue (has (live m a) p)
    placed_live a p there = let placed = placed_facts m f s.legal.recorded places result a p there in has-get (live m a) placed.0 p placed.1.last.last

    by_listing : (a p : ℕ) → IsTrue (has (better_programs m places a) p) → (IsTrue (has (program_of m p).ranking a)) ⊎ (IsFalse (has (program_of m p).ranking a)) → IsExcluded m a p
    by_listing a p better (inl listed) = s.legal.passed_excluded a p (passed_from_better m f s.legal.recorded quiet places result a p listed better)
    by_listing a p better (inr unlisted) = excluded_if_unlisted m a p unlisted
