-- On a floor on which no event is due, the proposals are those on the way to its result; so the order of the
-- events doesn't matter.
use Rattle.std.proofs.Common.{◌≡◌, ℕ, List, length, take, Some, IsTrue, IsFalse, ap, sym, ◌∙◌, ◌⊎◌, inl, inr, subst, length-take-le}
use Rattle.std.proofs.lemmas.Bool.{both_ways, cases_Bool, false_from_ne_true}
use Rattle.mt_terms.specs.Lists.{has}
use Rattle.mt_terms.specs.Market.{Market, live, applicants}
use Rattle.mt_terms.specs.Matching.{Places, at}
use Rattle.mt_terms.specs.Best.{IsBest, proposed_to}
use Rattle.mt_terms.specs.WellFormed.{IsWellFormed}
use Rattle.mt_terms.specs.Floor.{Floor, proposed_to_on, is_quiet, IsRecorded, IsStrict, opening, after_all, IsResult, result_of, HasProposalsOf, EndAlike}
use Rattle.mt_floor_laws.specs.Floors.{QuietCounts, OrderFree}
use Rattle.mt_terms.specs.declared.events.Event.{Event}
use Rattle.mt_terms.proofs.Totals.{count_below-same}
use Rattle.mt_stability_laws.proofs.ExclusionLemmas.{best_is_unique_lem}
use Rattle.mt_terms.proofs.LiveFacts.{live_distinct}
use Rattle.mt_floor_laws.proofs.FloorLists.{has-take_before, through-get, through_none}
use Rattle.mt_floor_laws.proofs.FloorEvents.{last_facts, events_keep_strict_lem}
use Rattle.mt_floor_laws.proofs.FloorBest.{placed_facts, placed_from, tried_where_quiet, strict_best_lem}
use Rattle.mt_floor_laws.proofs.FloorRuns.{opening_is_strict_lem, result_of_is_result}

-- on a floor on which no event is due, an applicant has tried its live list down to its place
tried_to_place : (m : Market) → IsWellFormed m → (f : Floor) → IsRecorded m f → IsTrue (is_quiet m f)
    → (places : Places) → IsResult m f places → (a : ℕ) → proposed_to_on m f a ≡ proposed_to m places a
tried_to_place m wf f r quiet places result a = go (cases_Bool (f.standing a))
  where
    some_inj : {x y : ℕ} → Some x ≡ Some y → x ≡ y
    some_inj e = cc

    go : (IsTrue (f.standing a)) ⊎ (IsFalse (f.standing a)) → proposed_to_on m f a ≡ proposed_to m places a
    go (inl stands) =
        let l = last_facts m f r a stands in
        let there = placed_from m f places result a l.0 l.1 (record { stands = stands; last = l.2 }) in
        let none_before : (q : ℕ) → IsTrue (has (take l.0 (live m a)) q) → IsFalse (at places q a) =
        λ q on. false_from_ne_true _ (λ at_q.
        let placed = placed_facts m f r places result a q at_q in
        let same : q ≡ l.1 = some_inj (sym placed.1.last.last_is ∙ l.2.last_is) in
        both_ways _ (has-take_before (live m a) l.0 l.1 (live_distinct m wf a) l.2.last) (subst (λ (x : ℕ). IsTrue (has (take l.0 (live m a)) x)) same on)) in
        ap (λ n. take n (live m a)) l.2.made_more ∙ sym (through-get (λ q. at places q a) (live m a) l.0 l.1 l.2.last there none_before)
    go (inr free) =
        tried_where_quiet m f r quiet a free
        ∙ sym (through_none (λ q. at places q a) (live m a) (λ q on. false_from_ne_true _ (λ at_q. both_ways _ free (placed_facts m f r places result a q at_q).1.stands)))

-- so its proposals are those on the way to its result
pub quiet_counts_lem : QuietCounts
quiet_counts_lem m wf f r quiet places result = record {
  same_tried = tried_to_place m wf f r quiet places result;
  same_counts = λ p. count_below-same (f.received p) (λ a. has (proposed_to m places a) p) (applicants m)
      (λ a low. r.receives a p ∙ ap (λ ps. has ps p) (tried_to_place m wf f r quiet places result a));
}

-- A floor that events have reached from the opening one, on which no event is due.
record IsEnd (m : Market) (f : Floor) : Type 0 where
  strict : IsStrict m f
  best : IsBest m (result_of m f)
  on_the_way : HasProposalsOf m f (result_of m f)

-- events until no event is due lead to such a floor
end_facts : (m : Market) → IsWellFormed m → (es : List Event) → IsTrue (is_quiet m (after_all m opening es)) → IsEnd m (after_all m opening es)
end_facts m wf es quiet =
    let f : Floor = after_all m opening es in
    let strict : IsStrict m f = events_keep_strict_lem m wf opening es (opening_is_strict_lem m) in
    record {
      strict = strict;
      best = strict_best_lem m wf f strict quiet (result_of m f) (result_of_is_result m f);
      on_the_way = quiet_counts_lem m wf f strict.legal.recorded quiet (result_of m f) (result_of_is_result m f);
    }

-- a recorded floor's proposals are as many as the programs tried
made_is : (m : Market) (f : Floor) → IsRecorded m f → (a : ℕ) → length (proposed_to_on m f a) ≡ f.made a
made_is m f r a = length-take-le (f.made a) (live m a) (r.within a)

-- two such floors end alike
ends_alike : (m : Market) (f g : Floor) → IsEnd m f → IsEnd m g → EndAlike m f g
ends_alike m f g ef eg = record {
  same_made = λ a. sym (made_is m f ef.strict.legal.recorded a) ∙ ap length (tried_alike a) ∙ made_is m g eg.strict.legal.recorded a;
  same_received = λ p a. ef.strict.legal.recorded.receives a p ∙ ap (λ ps. has ps p) (tried_alike a) ∙ sym (eg.strict.legal.recorded.receives a p);
  same_result = same_result;
  best = ef.best;
  on_the_way = ef.on_the_way;
}
  where
    same_result : result_of m f ≡ result_of m g
    same_result = best_is_unique_lem m (result_of m f) (result_of m g) ef.best eg.best

    tried_alike : (a : ℕ) → proposed_to_on m f a ≡ proposed_to_on m g a
    tried_alike a = ef.on_the_way.same_tried a ∙ ap (λ places. proposed_to m places a) same_result ∙ sym (eg.on_the_way.same_tried a)

-- any two lists of events until no event is due end alike
pub order_free_lem : OrderFree
order_free_lem m wf es fs quiet_e quiet_f =
    ends_alike m (after_all m opening es) (after_all m opening fs) (end_facts m wf es quiet_e) (end_facts m wf fs quiet_f)
