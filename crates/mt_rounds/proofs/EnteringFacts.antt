-- The couples on their way into a match, one after another.
use Rattle.std.proofs.Common.{◌≡◌, ℕ, zero, suc, Option, refl, ◌+◌, ◌-◌, ◌<◌, ◌≤◌, Bool, true, false, lt-ltb, ltb-true, List, [], ◌∷◌, length, Some, None, IsTrue, ap, sym, ◌∙◌, inl, inr, arith, subst, option_map, option_and_then}
use Rattle.std.specs.List.{range_with_len}
use Rattle.std.proofs.lemmas.Bool.{cases_lt}
use Rattle.std.proofs.lemmas.Bool.Decides.{nat_tests}
use Rattle.mt_terms.specs.Lists.{below}
use Rattle.mt_terms.specs.Market.{Market, agents}
use Rattle.mt_terms.specs.Matching.{Places}
use Rattle.mt_terms.specs.Stability.{blocks, fits}
use Rattle.mt_terms.specs.WellFormed.{IsWellFormed}
use Rattle.mt_terms.specs.Rounds.{after_rounds, after_entries, stage, is_on, IsFittingState}
use Rattle.mt_terms.specs.declared.numbers.Agent.{Agent}
use Rattle.mt_terms.specs.declared.numbers.Agent.TheVariants.{Single, Couple}
use Rattle.mt_round_laws.proofs.RoundsLists.{In}
use Rattle.mt_round_laws.proofs.RoundsStage.{chained}
use Rattle.mt_budget_laws.proofs.ReturningFacts.{endless_stage}
use Rattle.mt_order_laws.specs.Aside.{entering_at_end}
use Rattle.mt_order_laws.proofs.EndFacts.{entering_in_words_lem}
use Rattle.mt_round_laws.proofs.RoundsAgents.{on_list, of_list, agent_on_list, couple_members}
use Rattle.mt_stage_tables.specs.Waiting.{Waiting}
use Rattle.mt_assignment.specs.Assigned.{Assigned}
use Rattle.mt_assignment.specs.Blocking.{is_idle}
use Rattle.mt_rounds.specs.Running.{IsQuietBefore, IsRunning}
use Rattle.mt_rounds.specs.Waiting.{IsListOf}
use Rattle.mt_rounds.proofs.QuietFacts.{before_it}

-- the couples from a number on
abbrev couples_from : Market → ℕ → List ℕ
couples_from m number = range_with_len number (length m.couples - number)

-- Couples from a number on have entered, up to another, within the budget.
pub record IsEntering (m : Market) (start : Places) (first budget number : ℕ) (places : Places) (left : ℕ) : Type 0 where
  pub low : first ≤ number
  pub reached : after_entries m (range_with_len first (number - first)) budget start ≡ Some (places, left)
  pub within : left ≤ budget

-- What is left of the way leads where the whole does.
abbrev pub IsLeading : Market → Places → ℕ → ℕ → Places → ℕ → Type 0
IsLeading m start budget number places left =
    after_entries m (couples_from m number) left places ≡ after_entries m (below (length m.couples)) budget start

-- at the start none of them has entered
pub entering_first : (m : Market) (start : Places) (first budget : ℕ) → IsEntering m start first budget first start budget
entering_first m start first budget =
    let none : first - first ≡ 0 = omega arith in
    record { low = omega arith; reached = ap (λ n. after_entries m (range_with_len first n) budget start) none; within = omega arith }

pub leading_first : (m : Market) (start : Places) (budget : ℕ) → IsLeading m start budget 0 start budget
leading_first m start budget =
    let all : length m.couples - 0 ≡ length m.couples = omega arith in
    ap (λ n. after_entries m (range_with_len 0 n) budget start) all

-- the next couple is put on the empty work list
pub next_waits : (m : Market) → IsWellFormed m → (quiet : Bool) (k : ℕ) (now : Assigned) (waiting : Waiting) → now.market ≡ m → k < length m.couples
    → fits m now.places ≡ true → (IsTrue quiet → IsQuietBefore m k now.places) → IsListOf m waiting → waiting.agents ≡ Couple k ∷ [] → IsRunning k quiet now waiting
next_waits m wf quiet k now waiting same within fit is_quiet list waits =
    subst (λ x. IsRunning k quiet (record { market = x; places = now.places }) waiting) (sym same) (record {
      well_formed = wf;
      fitting = subst (λ gs. IsFittingState m (record { places = now.places; waiting = gs })) (sym waits)
          (record { fitting = fit; waiting_agents = λ g on. of_it g (of_list g (Couple k ∷ []) on) });
      waiting = list;
      is_quiet = λ so h on after_entries off. is_quiet so h on (before_it k h after_entries (sym (ap (λ gs. is_on gs h) waits) ∙ off));
    })
  where
    of_it : (g : Agent) → In g (Couple k ∷ []) → is_on (agents m) g ≡ true
    of_it g (inl is) = subst (λ x. is_on (agents m) x ≡ true) is (on_list (Couple k) (agents m) (agent_on_list m (Couple k) (couple_members m wf k within)))
    of_it g (inr none) = absurd none

-- a couple that doesn't wait then has entered before, and if nobody waits, no couple that has entered does
pub idle_before : (c number : ℕ) → is_idle number (Couple number ∷ []) (Couple c) ≡ true → c < number
idle_before c number idle = grind (arith, nat_tests, idle)

pub entered_idle : (c number : ℕ) (ws : List Agent) → ws ≡ [] → c < number + 1 → is_idle number ws (Couple c) ≡ true
entered_idle c number ws nobody low = subst (λ gs. is_idle number gs (Couple c) ≡ true) (sym nobody) (grind (arith, nat_tests, low))

-- if nobody who has entered before a couple blocks, and the couple doesn't, so it is before the next one
pub quiet_more : (m : Market) (k : ℕ) (places : Places) → IsQuietBefore m k places → blocks m places (Couple k) ≡ false → IsQuietBefore m (k + 1) places
quiet_more m k places quiet none (Single a) on before = quiet (Single a) on refl
quiet_more m k places quiet none (Couple c) on before = elim (cases_lt c k) [
  | inl earlier ↦ quiet (Couple c) on (lt-ltb c k earlier)
  | inr past ↦
      let low : c < k + 1 = ltb-true c (k + 1) before in
      let here : c ≡ k = omega arith in
      ap (λ d. blocks m places (Couple d)) here ∙ none
]

-- the next couple, out of those from its number on
next_couple : (m : Market) (number left : ℕ) (places : Places) → number < length m.couples
    → after_entries m (couples_from m number) left places
    ≡ option_and_then (λ r. after_entries m (couples_from m (number + 1)) r.1 r.0) (after_rounds m number left places (Couple number ∷ []))
next_couple m number left places within =
    let e : length m.couples - number ≡ suc (length m.couples - (number + 1)) = omega arith in
    ap (λ n. after_entries m (range_with_len number n) left places) e

-- one couple more, after those of a range
range_entered : (m : Market) (start n left : ℕ) (places : Places) (r q : Places × ℕ) → after_entries m (range_with_len start n) left places ≡ Some r
    → after_rounds m (start + n) r.1 r.0 (Couple (start + n) ∷ []) ≡ Some q → after_entries m (range_with_len start (suc n)) left places ≡ Some q
range_entered m start zero left places r q e more =
    let some : ◌≡◌ {A = Option (Places × ℕ)} (Some (places, left)) (Some r) = e in
    let is : r ≡ (places, left) = cc in
    let here : start + 0 ≡ start = omega arith in
    let one : after_rounds m start left places (Couple start ∷ []) ≡ Some q =
    subst (λ j. after_rounds m j left places (Couple j ∷ []) ≡ Some q) here (subst (λ (t : Places × ℕ). after_rounds m (start + 0) t.1 t.0 (Couple (start + 0) ∷ []) ≡ Some q) is more) in
    rw one refl
range_entered m start (suc n) left places r q e more =
    let w = chained (λ t. after_entries m (range_with_len (start + 1) n) t.1 t.0) (after_rounds m start left places (Couple start ∷ [])) r e in
    let there : start + suc n ≡ start + 1 + n = omega arith in
    rw w.1 (range_entered m (start + 1) n w.0.1 w.0.0 r q w.2 (subst (λ j. after_rounds m j r.1 r.0 (Couple j ∷ []) ≡ Some q) there more))

-- it has entered
pub entering_more : (m : Market) (start : Places) (first budget number : ℕ) (places next : Places) (left left' : ℕ)
    → IsEntering m start first budget number places left → after_rounds m number left places (Couple number ∷ []) ≡ Some (next, left') → left' ≤ left
    → IsEntering m start first budget (number + 1) next left'
entering_more m start first budget number places next left left' so_far settles less =
    let low = so_far.low in
    let high = so_far.within in
    let here : number ≡ first + (number - first) = omega arith in
    let more : number + 1 - first ≡ suc (number - first) = omega arith in
    record {
      low = omega arith;
      reached =
          ap (λ n. after_entries m (range_with_len first n) budget start) more
          ∙ range_entered m first (number - first) budget start (places, left) (next, left') so_far.reached
          (subst (λ j. after_rounds m j left places (Couple j ∷ []) ≡ Some (next, left')) here settles);
      within = omega arith;
    }

pub leading_more : (m : Market) (start : Places) (budget number : ℕ) (places next : Places) (left left' : ℕ) → IsLeading m start budget number places left
    → number < length m.couples → after_rounds m number left places (Couple number ∷ []) ≡ Some (next, left') → IsLeading m start budget (number + 1) next left'
leading_more m start budget number places next left left' leads within settles =
    ap (option_and_then (λ r. after_entries m (couples_from m (number + 1)) r.1 r.0)) (sym settles)
    ∙ sym (next_couple m number left places within) ∙ leads

-- its rounds are more than what is left
pub entering_spent : (m : Market) (start : Places) (budget number : ℕ) (places : Places) (left : ℕ) → IsLeading m start budget number places left
    → number < length m.couples → after_rounds m number left places (Couple number ∷ []) ≡ None → stage m start budget ≡ None
entering_spent m start budget number places left leads within spent =
    let none : after_entries m (below (length m.couples)) budget start ≡ None =
    sym leads ∙ next_couple m number left places within ∙ ap (option_and_then (λ r. after_entries m (couples_from m (number + 1)) r.1 r.0)) spent in
    ap (option_map (λ r. (r.0, budget - r.1))) none

-- those below a number, as the definition has them
from_none : (m : Market) (start : Places) (budget number : ℕ) (places : Places) (left : ℕ) → IsEntering m start 0 budget number places left
    → after_entries m (below number) budget start ≡ Some (places, left)
from_none m start budget number places left so_far =
    let all : number ≡ number - 0 = omega arith in
    ap (λ n. after_entries m (range_with_len 0 n) budget start) all ∙ so_far.reached

-- it is the one that is entering then
pub entering_ends : (m : Market) (start : Places) (budget number : ℕ) (places : Places) (left : ℕ) → IsEntering m start 0 budget number places left
    → number < length m.couples → after_rounds m number left places (Couple number ∷ []) ≡ None → entering_at_end m start budget ≡ Some number
entering_ends m start budget number places left so_far within spent =
    (entering_in_words_lem m start budget number).1 (within, ((places, left), from_none m start budget number places left so_far, spent))

-- if its rounds end within no budget, no budget is enough for the stage
pub entering_endless : (m : Market) (start : Places) (budget number : ℕ) (places : Places) (left : ℕ) → IsEntering m start 0 budget number places left
    → number < length m.couples → ((b : ℕ) → after_rounds m number b places (Couple number ∷ []) ≡ None) → (b : ℕ) → stage m start b ≡ None
entering_endless m start budget number places left so_far within endless =
    endless_stage m start number budget (places, left) within (from_none m start budget number places left so_far) endless

-- there is none to enter
pub none_enters : (m : Market) (places : Places) (budget : ℕ) → length m.couples ≡ 0 → stage m places budget ≡ Some (places, 0)
none_enters m places budget none =
    let all : budget - budget ≡ 0 = omega arith in
    ap (λ n. option_map (λ r. (r.0, budget - r.1)) (after_entries m (below n) budget places)) none ∙ ap (λ d. Some (places, d)) all

-- all couples have entered
pub entering_all : (m : Market) (start : Places) (budget number : ℕ) (places : Places) (left : ℕ) → IsLeading m start budget number places left
    → length m.couples ≤ number → stage m start budget ≡ Some (places, budget - left)
entering_all m start budget number places left leads past =
    let none_left : length m.couples - number ≡ 0 = omega arith in
    let all : after_entries m (below (length m.couples)) budget start ≡ Some (places, left) =
    sym leads ∙ ap (λ n. after_entries m (range_with_len number n) left places) none_left in
    ap (option_map (λ r. (r.0, budget - r.1))) all
