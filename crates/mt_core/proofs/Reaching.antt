-- Floors that events lead to.
use Rattle.std.proofs.Common.{◌≡◌, ℕ, ◌+◌, ◌<◌, ◌≤◌, List, [], ◌∷◌, ◌++◌, length, take, get_or, if◌then◌else◌, refl, sym, ap, ◌∙◌, arith, subst}
use Rattle.std.proofs.lemmas.List.{take_more}
use Rattle.mt_terms.specs.Market.{Market, live_entries}
use Rattle.mt_terms.specs.Floor.{Floor, IsRecorded, IsLegal, IsStrict, is_due, after, after_all, due_count, proposals_made}
use Rattle.mt_floor_laws.specs.Floors.{due_proposals}
use Rattle.mt_terms.specs.declared.events.Event.{Event}
use Rattle.mt_floor_laws.proofs.FloorEvents.{events_keep_recorded_lem, events_keep_legal_lem, events_keep_strict_lem}
use Rattle.mt_floor_laws.proofs.FloorRuns.{due_proposals_are_made_lem, made_at_most_lem}
use Rattle.mt_ranks.specs.Ranked.{Ranked, IsRanked}
use Rattle.mt_core.specs.Ends.{IsReached}

-- events after others
after_all-append : (m : Market) (f : Floor) (es fs : List Event) → after_all m f (es ++ fs) ≡ after_all m (after_all m f es) fs
after_all-append m f [] fs = refl
after_all-append m f (e ∷ es) fs = after_all-append m (after m f e) es fs

pub after_all-push : (m : Market) (f : Floor) (es : List Event) (e : Event) → after_all m f (es ++ e ∷ []) ≡ after m (after_all m f es) e
after_all-push m f es e = after_all-append m f es (e ∷ [])

pub due_count-push : (m : Market) (f : Floor) (es : List Event) (e : Event)
    → due_count m f (es ++ e ∷ []) ≡ due_count m f es + (if is_due m (after_all m f es) e then 1 else 0)
due_count-push m f [] e = omega arith
due_count-push m f (x ∷ es) e = omega (arith, due_count-push m (after m f x) es e)

due_proposals-append : (m : Market) (f : Floor) (es fs : List Event) → due_proposals m f (es ++ fs) ≡ due_proposals m f es + due_proposals m (after_all m f es) fs
due_proposals-append m f [] fs = omega arith
due_proposals-append m f (e ∷ es) fs = omega (arith, due_proposals-append m (after m f e) es fs)

-- events and then others lead on
pub reached_more : (m : Market) (f g h : Floor) (j k : ℕ) → IsReached m f g j → IsReached m g h k → IsReached m f h (j + k)
reached_more m f g h j k first rest = record {
  events = first.events ++ rest.events;
  floor = rest.floor ∙ ap (λ x. after_all m x rest.events) first.floor ∙ sym (after_all-append m f first.events rest.events);
  count = omega (
    arith,
    first.count,
    rest.count,
    due_proposals-append m f first.events rest.events,
    ap (λ x. due_proposals m x rest.events) first.floor,
  );
}

-- what events keep, they keep up to a floor that they lead to
pub reached_recorded : (m : Market) (f g : Floor) (k : ℕ) → IsReached m f g k → IsRecorded m f → IsRecorded m g
reached_recorded m f g k is h = subst (λ (x : Floor). IsRecorded m x) (sym is.floor) (events_keep_recorded_lem m f is.events h)

pub reached_legal : (r : Ranked) → IsRanked r → (f g : Floor) (k : ℕ) → IsReached r.market f g k → IsLegal r.market f → IsLegal r.market g
reached_legal r ranked f g k is h = subst (λ (x : Floor). IsLegal r.market x) (sym is.floor) (events_keep_legal_lem r.market ranked.well_formed f is.events h)

pub reached_strict : (r : Ranked) → IsRanked r → (f g : Floor) (k : ℕ) → IsReached r.market f g k → IsStrict r.market f → IsStrict r.market g
reached_strict r ranked f g k is h = subst (λ (x : Floor). IsStrict r.market x) (sym is.floor) (events_keep_strict_lem r.market ranked.well_formed f is.events h)

-- as many more proposals are made there, and no more than there are live entries
pub reached_made : (m : Market) (f g : Floor) (k : ℕ) → IsReached m f g k → IsRecorded m f → proposals_made m g ≡ proposals_made m f + k
reached_made m f g k is h =
    let all = due_proposals_are_made_lem m f h is.events in
    omega (arith, all, is.count, ap (proposals_made m) is.floor)

pub reached_at_most : (m : Market) (f g : Floor) (k : ℕ) → IsReached m f g k → IsRecorded m f → proposals_made m g ≤ live_entries m
reached_at_most m f g k is h = made_at_most_lem m g (reached_recorded m f g k is h)

-- and no more proposals are made on the way than there are live entries
pub reached_few : (m : Market) (f g : Floor) (k : ℕ) → IsReached m f g k → IsRecorded m f → k ≤ live_entries m
reached_few m f g k is h = omega (arith, reached_made m f g k is h, reached_at_most m f g k is h)

-- the events up to the next one
pub after_all-next : (m : Market) (f : Floor) (es : List Event) (i : ℕ) (e : Event) → i < length es → e ≡ get_or es i e → after_all m f (take (i + 1) es) ≡ after m (after_all m f (take i es)) e
after_all-next m f es i e h at = ap (after_all m f) (take_more es i e h) ∙ ap (λ x. after_all m f (take i es ++ x ∷ [])) (sym at) ∙ after_all-push m f (take i es) e

pub due_count-next : (m : Market) (f : Floor) (es : List Event) (i : ℕ) (e : Event) → i < length es → e ≡ get_or es i e
    → due_count m f (take (i + 1) es) ≡ due_count m f (take i es) + (if is_due m (after_all m f (take i es)) e then 1 else 0)
due_count-next m f es i e h at = ap (due_count m f) (take_more es i e h) ∙ ap (λ x. due_count m f (take i es ++ x ∷ [])) (sym at) ∙ due_count-push m f (take i es) e
