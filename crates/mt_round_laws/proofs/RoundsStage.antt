-- Where a stage ends, and how many rounds it makes.
use Rattle.std.proofs.Common.{◌≡◌, ℕ, zero, suc, ◌+◌, ◌-◌, ◌<◌, ◌≤◌, Bool, true, false, not, ◌==◌, List, [], ◌∷◌, length, Option, Some, None, inl, inr, refl, sym, ◌∙◌, arith, subst, nat_lt, option_map, ltb-true, lt-ltb, leb-true, le-leb, leb-false, le-ltb, ◌≢◌, eq-eqb, option_and_then}
use Rattle.std.specs.List.{list_any, range_with_len}
use Rattle.std.proofs.lemmas.Bool.{and_parts, or_cases, and_from, or_right, or_parts, false≢true, false_from_ne_true, not-true, not_from_false, both_ways}
use Rattle.std.proofs.lemmas.Bool.Decides.{nat_tests}
use Rattle.mt_terms.specs.Lists.{below}
use Rattle.mt_terms.specs.Market.{Market, singles_market, members, agents}
use Rattle.mt_terms.specs.Matching.{Places, place_of, options, holds, none_placed}
use Rattle.mt_terms.specs.Stability.{has_own_option, fits, blocks, stable}
use Rattle.mt_terms.specs.WellFormed.{IsMember, IsWellFormed}
use Rattle.mt_terms.specs.Rounds.{Work, has_entered, round, round_of, after_rounds, after_entries, stage, is_on, IsRoundState, IsFittingState}
use Rattle.mt_round_laws.specs.Rounds.{FirstCoupleWaits, NextCoupleWaits, LastListIsStable, StageIsStable, StageFits}
use Rattle.mt_terms.specs.declared.numbers.Agent.{Agent}
use Rattle.mt_terms.specs.declared.numbers.Agent.TheVariants.{Single, Couple}
use Rattle.mt_round_laws.proofs.RoundsLists.{In, found, finds}
use Rattle.mt_round_laws.proofs.RoundsSets.{has_head}
use Rattle.mt_round_laws.proofs.RoundsAgents.{IsAgent, one_of_two, on_list, of_list, agent_on_list, agent_from_list, single_member, couple_members, couple_number}
use Rattle.mt_round_laws.proofs.RoundsFits.{IsFitting, fitting_facts, fits_from}
use Rattle.mt_round_laws.proofs.RoundsKeep.{is_unplaced, are_unplaced, keep_round, fitting_round}

-- what each round keeps holds once the work list is empty
settled_keeps : (P : Work → Type 0) (m : Market) (k : ℕ) → ((w : Work) → P w → P (round m k w)) → (left : ℕ) (w : Work) (r : Places × ℕ)
    → after_rounds m k left w.places w.waiting ≡ Some r → P w → P (record { places = r.0; waiting = [] })
settled_keeps P m k keeps left w r e holds = down left w.places w.waiting e holds
  where
    down : (left : ℕ) (places : Places) (ws : List Agent) → after_rounds m k left places ws ≡ Some r
        → P (record { places = places; waiting = ws }) → P (record { places = r.0; waiting = [] })
    down left places [] e holds =
        let both : ◌≡◌ {A = Option (Places × ℕ)} (Some (places, left)) (Some r) = e in
        let is : places ≡ r.0 = cc in
        subst (λ x. P (record { places = x; waiting = [] })) is holds
    down zero places (g ∷ ws) e holds = absurd (let both : ◌≡◌ {A = Option (Places × ℕ)} None (Some r) = e in cc)
    down (suc left) places (g ∷ ws) e holds =
        let next = round_of m k places (g ∷ ws) in
        down left next.places next.waiting e (keeps (record { places = places; waiting = g ∷ ws }) holds)

-- what a chain of two that gives something goes through
pub chained : {X Y : Type 0} (f : X → Option Y) (o : Option X) (y : Y) → option_and_then f o ≡ Some y → (x : X) × (o ≡ Some x) × (f x ≡ Some y)
chained f None y e = absurd cc
chained f (Some x) y e = (x, refl, e)

-- what each couple's rounds keep holds once all of these couples have entered
entered_keeps : (P : ℕ → Places → Type 0) (m : Market)
    → ((k left : ℕ) (places : Places) (r : Places × ℕ) → k < length m.couples → after_rounds m k left places (Couple k ∷ []) ≡ Some r
    → P k places → P (k + 1) r.0)
    → (start n left : ℕ) (places : Places) (r : Places × ℕ) → start + n ≤ length m.couples
    → after_entries m (range_with_len start n) left places ≡ Some r → P start places → P (start + n) r.0
entered_keeps P m keeps start zero left places r l e holds =
    let both : ◌≡◌ {A = Option (Places × ℕ)} (Some (places, left)) (Some r) = e in
    let is : places ≡ r.0 = cc in
    subst (λ k. P k r.0) (omega arith) (subst (P start) is holds)
entered_keeps P m keeps start (suc n) left places r l e holds =
    let w = chained (λ q. after_entries m (range_with_len (start + 1) n) q.1 q.0) (after_rounds m start left places (Couple start ∷ [])) r e in
    let rest = entered_keeps P m keeps (start + 1) n w.0.1 w.0.0 r (omega arith) w.2 (keeps start left places w.0 (omega arith) w.1 holds) in
    subst (λ k. P k r.0) (omega arith) rest

-- what a stage that gives something ends in
pub stage_end : (m : Market) (places : Places) (budget : ℕ) (r : Places × ℕ) → stage m places budget ≡ Some r
    → (q : Places × ℕ) × (after_entries m (below (length m.couples)) budget places ≡ Some q) × (r ≡ (q.0, budget - q.1))
stage_end m places budget r e = ended (after_entries m (below (length m.couples)) budget places) refl e
  where
    ended : (o : Option (Places × ℕ)) → after_entries m (below (length m.couples)) budget places ≡ o → option_map (λ q. (q.0, budget - q.1)) o ≡ Some r
        → (q : Places × ℕ) × (after_entries m (below (length m.couples)) budget places ≡ Some q) × (r ≡ (q.0, budget - q.1))
    ended None is e = absurd cc
    ended (Some q) is e = (q, is, (let both : ◌≡◌ {A = Option (Places × ℕ)} (Some (q.0, budget - q.1)) (Some r) = e in cc))

-- whether an agent is a single or one of the first couples
abbrev is_before : ℕ → Agent → Bool
is_before n (Single a) = true
is_before n (Couple c) = nat_lt c n

-- Once the first couples have entered and their rounds are made: the match fits, the other couples are unplaced,
-- and no single and none of those couples blocks.
record IsSettled (m : Market) (n : ℕ) (places : Places) : Type 0 where
  fitting : fits m places ≡ true
  outside : (g : Agent) → IsAgent m g → is_before n g ≡ false → none_placed places (members m g) ≡ true
  quiet : (g : Agent) → IsAgent m g → is_before n g ≡ true → blocks m places g ≡ false

-- the agents before the next couple are those that have entered
before_next : (n : ℕ) (g : Agent) → is_before (n + 1) g ≡ has_entered n g
before_next n (Single a) = refl
before_next n (Couple c) = grind (arith, nat_tests)

-- an agent that has not entered is not one of the first
not_before : (k : ℕ) (g : Agent) → has_entered k g ≡ false → is_before k g ≡ false
not_before k (Single a) h = absurd (false≢true (sym h))
not_before k (Couple c) h = let above : k < c = leb-false c k h in le-ltb c k (omega arith)

-- an entered agent that is not the couple itself came before it
before_entered : (k : ℕ) (g : Agent) → has_entered k g ≡ true → is_on (Couple k ∷ []) g ≡ false → is_before k g ≡ true
before_entered k (Single a) h off = refl
before_entered k (Couple c) h off =
    let le : c ≤ k = leb-true c k h in
    let ne : c ≢ k = (λ e. false≢true (sym (or_parts (c == k) false off).0 ∙ eq-eqb c k e)) in
    lt-ltb c k (omega arith)

-- all agents are singles or one of all couples
before_all : (m : Market) (g : Agent) → IsAgent m g → is_before (length m.couples) g ≡ true
before_all m (Single a) i = refl
before_all m (Couple c) i = lt-ltb c (length m.couples) (couple_number m c i)

-- who is on a list of one couple is that couple, which is an agent of the market
only_couple : (m : Market) → IsWellFormed m → (k : ℕ) → k < length m.couples → (g : Agent) → is_on (Couple k ∷ []) g ≡ true
    → (is_on (agents m) g ≡ true) × (has_entered k g ≡ true)
only_couple m wf k l g on = of_it (of_list g (Couple k ∷ []) on)
  where
    of_it : In g (Couple k ∷ []) → (is_on (agents m) g ≡ true) × (has_entered k g ≡ true)
    of_it (inl e) = subst (λ x. (is_on (agents m) x ≡ true) × (has_entered k x ≡ true)) e
        (on_list (Couple k) (agents m) (agent_on_list m (Couple k) (couple_members m wf k l)), le-leb k k (omega arith))
    of_it (inr none) = absurd none

-- a couple comes onto the empty list
couple_enters : (m : Market) → IsWellFormed m → (k : ℕ) (places : Places) → k < length m.couples → IsSettled m k places
    → IsRoundState m k (record { places = places; waiting = Couple k ∷ [] })
couple_enters m wf k places l s = record {
  fitting = s.fitting;
  waiting_entered = only_couple m wf k l;
  outside_unplaced = λ g on out. s.outside g (agent_from_list m wf g (of_list g (agents m) on)) (not_before k g out);
  none_blocks = λ g on after_entries off. s.quiet g (agent_from_list m wf g (of_list g (agents m) on)) (before_entered k g after_entries off);
}

-- and its rounds end
couple_settles : (m : Market) → IsWellFormed m → (k : ℕ) (places : Places) → IsRoundState m k (record { places = places; waiting = [] })
    → IsSettled m (k + 1) places
couple_settles m wf k places s = record {
  fitting = s.fitting;
  outside = λ g i out. s.outside_unplaced g (on_list g (agents m) (agent_on_list m g i)) (sym (before_next k g) ∙ out);
  quiet = λ g i after_entries. s.none_blocks g (on_list g (agents m) (agent_on_list m g i)) (sym (before_next k g) ∙ after_entries) refl;
}

-- once all couples have entered the match is stable
all_settled : (m : Market) → IsWellFormed m → (places : Places) → IsSettled m (length m.couples) places → stable m places ≡ true
all_settled m wf places s =
    and_from (fits m places) _ s.fitting (not_from_false _ (false_from_ne_true (list_any (blocks m places) (agents m)) (λ t.
    let w = found (blocks m places) (agents m) t in
    let i = agent_from_list m wf w.0 w.1 in
    both_ways (blocks m places w.0) (s.quiet w.0 i (before_all m w.0 i)) w.2)))

-- without its couples a market is well formed too
well_formed_singles : (m : Market) → IsWellFormed m → IsWellFormed (singles_market m)
well_formed_singles m wf = record {
  lists_distinct = wf.lists_distinct;
  lists_within = wf.lists_within;
  rankings_distinct = wf.rankings_distinct;
  rankings_within = wf.rankings_within;
  first_member = λ c l. absurd (omega arith);
  second_member = λ c l. absurd (omega arith);
  two_members = λ c l. absurd (omega arith);
}

-- the best match of the singles is where the couples start
singles_settled : (m : Market) → IsWellFormed m → (places : Places) → stable (singles_market m) places ≡ true → IsSettled m 0 places
singles_settled m wf places h = record {
  fitting = fits_from m wf places (record { one_each = fit.one_each; own = own; listed = fit.listed; within = fit.within });
  outside = outside;
  quiet = quiet;
}
  where
    parts : (fits (singles_market m) places ≡ true) × (not (list_any (blocks (singles_market m) places) (agents (singles_market m))) ≡ true)
    parts = and_parts (fits (singles_market m) places) (not (list_any (blocks (singles_market m) places) (agents (singles_market m)))) h

    fit : IsFitting (singles_market m) places
    fit = fitting_facts (singles_market m) (well_formed_singles m wf) places parts.0

    member_unplaced : (c a : ℕ) → IsMember m c a → place_of places a ≡ None
    member_unplaced c a i =
        let own : has_own_option (singles_market m) places (Single a) ≡ true = fit.own (Single a) (single_member (singles_market m) a i.within refl) in
        let none : list_any (holds places) (options m (Single a)) ≡ false = rw i.no_list refl in
        elim (or_cases (list_any (holds places) (options m (Single a))) (none_placed places (a ∷ [])) own) [
          | inl t ↦ absurd (both_ways (list_any (holds places) (options m (Single a))) none t)
          | inr t ↦ is_unplaced places (a ∷ []) a t (has_head a [])
        ]

    couple_unplaced : (c : ℕ) → IsAgent m (Couple c) → none_placed places (members m (Couple c)) ≡ true
    couple_unplaced c i =
        let l = couple_number m c i in
        are_unplaced places (members m (Couple c)) (λ a j. elim (one_of_two _ _ a j) [
          | inl e ↦ subst (λ x. place_of places x ≡ None) e (member_unplaced c _ (wf.first_member c l))
          | inr e ↦ subst (λ x. place_of places x ≡ None) e (member_unplaced c _ (wf.second_member c l))
        ])

    own : (g : Agent) → IsAgent m g → has_own_option m places g ≡ true
    own (Single a) i = fit.own (Single a) (single_member (singles_market m) a (i.within a (has_head a [])) refl)
    own (Couple c) i = or_right (list_any (holds places) (options m (Couple c))) _ (couple_unplaced c i)

    outside : (g : Agent) → IsAgent m g → is_before 0 g ≡ false → none_placed places (members m g) ≡ true
    outside (Single a) i out = absurd (false≢true (sym out))
    outside (Couple c) i out = couple_unplaced c i

    quiet : (g : Agent) → IsAgent m g → is_before 0 g ≡ true → blocks m places g ≡ false
    quiet (Single a) i b =
        let single = single_member (singles_market m) a (i.within a (has_head a [])) refl in
        false_from_ne_true (blocks m places (Single a)) (λ t.
        both_ways (list_any (blocks (singles_market m) places) (agents (singles_market m))) (not-true _ parts.1)
        (finds (blocks (singles_market m) places) (Single a) (agents (singles_market m)) (agent_on_list (singles_market m) (Single a) single) t))
    quiet (Couple c) i b = absurd (let l : c < 0 = ltb-true c 0 b in omega arith)

-- a stable match of the singles fits the whole market: members of couples are unplaced in it
pub singles_fit : (m : Market) → IsWellFormed m → (places : Places) → stable (singles_market m) places ≡ true → fits m places ≡ true
singles_fit m wf places h = IsSettled.fitting (singles_settled m wf places h)

-- from any stable match of the singles a stage ends in a stable match
pub stage_from_stable : (m : Market) → IsWellFormed m → (places : Places) → stable (singles_market m) places ≡ true
    → (budget : ℕ) (r : Places × ℕ) → stage m places budget ≡ Some r → stable m r.0 ≡ true
stage_from_stable m wf places h budget r e =
    let q = stage_end m places budget r e in
    let last = entered_keeps (IsSettled m) m couple_done 0 (length m.couples) budget places q.0 (omega arith) q.1 (singles_settled m wf places h) in
    let all : IsSettled m (length m.couples) q.0.0 = subst (λ n. IsSettled m n q.0.0) (omega arith) last in
    subst (λ x. stable m x.0 ≡ true) (sym q.2) (all_settled m wf q.0.0 all)
  where
    couple_done : (k left : ℕ) (old : Places) (t : Places × ℕ) → k < length m.couples → after_rounds m k left old (Couple k ∷ []) ≡ Some t
        → IsSettled m k old → IsSettled m (k + 1) t.0
    couple_done k left old t l done s =
        let start : Work = record { places = old; waiting = Couple k ∷ [] } in
        couple_settles m wf k t.0 (settled_keeps (IsRoundState m k) m k (keep_round m wf k) left start t done (couple_enters m wf k old l s))

-- from the best match of the singles a stage ends in a stable match
pub stage_is_stable_lem : StageIsStable
stage_is_stable_lem m wf places best = stage_from_stable m wf places best.is_stable

-- so each couple waits in the state that a round keeps
pub first_couple_waits_lem : FirstCoupleWaits
first_couple_waits_lem m wf places best l = couple_enters m wf 0 places l (singles_settled m wf places best.is_stable)

pub next_couple_waits_lem : NextCoupleWaits
next_couple_waits_lem m wf k places s l = couple_enters m wf (k + 1) places l (couple_settles m wf k places s)

-- and after the last one's rounds the match is stable
pub last_list_is_stable_lem : LastListIsStable
last_list_is_stable_lem m wf k places s e = all_settled m wf places (subst (λ n. IsSettled m n places) e (couple_settles m wf k places s))

-- a couple comes onto the empty list, whatever blocks
couple_waits : (m : Market) → IsWellFormed m → (k : ℕ) (places : Places) → k < length m.couples → fits m places ≡ true
    → IsFittingState m (record { places = places; waiting = Couple k ∷ [] })
couple_waits m wf k places l fit = record { fitting = fit; waiting_agents = λ g on. (only_couple m wf k l g on).0 }

-- from a match that fits a stage ends in one that fits
pub stage_fits_lem : StageFits
stage_fits_lem m wf places fit budget r e =
    let q = stage_end m places budget r e in
    let last = entered_keeps (λ n old. fits m old ≡ true) m couple_done 0 (length m.couples) budget places q.0 (omega arith) q.1 fit in
    subst (λ x. fits m x.0 ≡ true) (sym q.2) last
  where
    couple_done : (k left : ℕ) (old : Places) (t : Places × ℕ) → k < length m.couples → after_rounds m k left old (Couple k ∷ []) ≡ Some t
        → fits m old ≡ true → fits m t.0 ≡ true
    couple_done k left old t l done fit =
        let start : Work = record { places = old; waiting = Couple k ∷ [] } in
        (settled_keeps (IsFittingState m) m k (fitting_round m wf k) left start t done (couple_waits m wf k old l fit)).fitting
