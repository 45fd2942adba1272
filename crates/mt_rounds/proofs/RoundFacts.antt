-- What a round is given, and what it leaves.
use Rattle.std.proofs.Common.{◌≡◌, ℕ, zero, suc, ◌-◌, ◌≤◌, Bool, true, List, [], ◌∷◌, Some, Contains, refl, ap, sym, ◌∙◌, inl, inr, arith, subst}
use Rattle.std.specs.List.{list_any}
use Rattle.std.proofs.lemmas.Bool.{or_left}
use Rattle.mt_terms.specs.Market.{Market, agents, IsAgentOf}
use Rattle.mt_terms.specs.Matching.{Places, Placement, holds, options, better}
use Rattle.mt_terms.specs.Stability.{would_be_taken, fits}
use Rattle.mt_terms.specs.WellFormed.{IsWellFormed}
use Rattle.mt_terms.specs.Rounds.{is_same_agent, first_taken, round_of, after_rounds, Work, IsFittingState, is_on}
use Rattle.mt_terms.specs.declared.numbers.Agent.{Agent}
use Rattle.mt_round_laws.proofs.RoundsLists.{In, of_until}
use Rattle.mt_round_laws.proofs.RoundsAgents.{is_same_agent_refl, agent_from_list, of_list}
use Rattle.mt_round_laws.proofs.RoundsFits.{fitting_facts}
use Rattle.mt_round_laws.proofs.RoundsKeep.{fitting_round, found_first}
use Rattle.mt_stage_tables.specs.Waiting.{waiting_first, Waiting}
use Rattle.mt_assignment.specs.Assigned.{Assigned, AreListed}
use Rattle.mt_assignment.specs.Moves.{IsTaking}
use Rattle.mt_rounds.specs.Running.{work_of, IsRunning}
use Rattle.mt_rounds.specs.Waiting.{IsListOf, KeepsRoom}
use Rattle.mt_assignment.proofs.MarketFacts.{number_within}
use Rattle.mt_rounds.proofs.QuietFacts.{quiet_round}

contains_in : {X : Type 0} (xs : List X) (x : X) → In x xs → Contains xs x
contains_in [] x i = absurd i
contains_in (y ∷ ys) x (inl is) = (0, omega arith, is)
contains_in (y ∷ ys) x (inr i) = let w = contains_in ys x i in (suc w.0, omega (arith, w.1), w.2)

-- Below, an agent is at the front of the work list.
module _ {k : ℕ} {quiet : Bool} {s : Assigned} {w : Waiting} {g : Agent} (running : IsRunning k quiet s (waiting_first g w)) where
  of_market : is_on (agents s.market) g ≡ true
  of_market = running.fitting.waiting_agents g (or_left (is_same_agent g g) (list_any (is_same_agent g) w.agents) (is_same_agent_refl g))

  -- it is of the market
  pub front_within : IsAgentOf s.market g
  front_within = number_within s.market g (agent_from_list s.market running.well_formed g (of_list g (agents s.market) of_market))

  -- its first better option that would be taken is one that it may take
  pub front_takes : (sent : Placement) → first_taken s.market s.places g ≡ Some sent → IsTaking s.market s.places g sent
  front_takes sent first =
      let found = found_first (would_be_taken s.market s.places) sent (better s.market s.places g) first in
      record {
        well_formed = running.well_formed;
        fitting = running.fitting.fitting;
        agent = of_market;
        option = contains_in (options s.market g) sent (of_until (holds s.places) sent (options s.market g) found.0);
        taken = found.1;
      }

  -- after its round things are as they have to be again
  pub runs_on : (s' : Assigned) (w' : Waiting) → s'.market ≡ s.market → KeepsRoom w w' → work_of s' w' ≡ round_of s.market k s.places (g ∷ w.agents)
      → IsRunning k quiet s' w'
  runs_on s' w' same room is =
      let fitting = subst (IsFittingState s.market) (sym is) (fitting_round s.market running.well_formed k (work_of s (waiting_first g w)) running.fitting) in
      record {
        well_formed = subst IsWellFormed (sym same) running.well_formed;
        fitting = subst (λ m. IsFittingState m (work_of s' w')) (sym same) fitting;
        waiting = subst (λ m. IsListOf m w') (sym same) (record {
          applicants_are = ap (λ (x : Waiting). x.applicants) room ∙ running.waiting.applicants_are;
          couples_are = ap (λ (x : Waiting). x.couples) room ∙ running.waiting.couples_are;
        });
        is_quiet = λ so. quiet_round s.market running.well_formed k s.places g w.agents running.fitting.fitting of_market (running.is_quiet so) s' w' same is;
      }

-- Rounds on the way from one state to where the work list is empty: what is left of the way leads there.
pub record IsSettling (k : ℕ) (quiet : Bool) (budget : ℕ) (start now : Assigned) (waits waiting : Waiting) (left : ℕ) : Type 0 where
  pub market : now.market ≡ start.market
  pub running : IsRunning k quiet now waiting
  pub leads : after_rounds start.market k left now.places waiting.agents ≡ after_rounds start.market k budget start.places waits.agents
  pub within : left ≤ budget

-- one round made
module _ (m : Market) (k : ℕ) where
  settled_more : (left : ℕ) (places : Places) (g : Agent) (rest : List Agent) (w : Work) → (left ≡ 0 → ⊥) → w ≡ round_of m k places (g ∷ rest)
      → after_rounds m k (left - 1) w.places w.waiting ≡ after_rounds m k left places (g ∷ rest)
  settled_more zero places g rest w some is = absurd (some refl)
  settled_more (suc n) places g rest w some is =
      let e : suc n - 1 ≡ n = omega arith in
      ap (λ j. after_rounds m k j w.places w.waiting) e ∙ ap (λ (x : Work). after_rounds m k n x.places x.waiting) is

pub settling_more : (k : ℕ) (quiet : Bool) (budget : ℕ) (start now next : Assigned) (waits waiting rest waiting' : Waiting) (left : ℕ) (g : Agent)
    → IsSettling k quiet budget start now waits waiting left → waiting ≡ waiting_first g rest → (left ≡ 0 → ⊥) → next.market ≡ now.market
    → KeepsRoom rest waiting' → work_of next waiting' ≡ round_of now.market k now.places (g ∷ rest.agents)
    → IsSettling k quiet budget start next waits waiting' (left - 1)
settling_more k quiet budget start now next waits waiting rest waiting' left g so_far front some same room work =
    let running : IsRunning k quiet now (waiting_first g rest) = subst (IsRunning k quiet now) front so_far.running in
    record {
      market = same ∙ so_far.market;
      running = runs_on running next waiting' same room work;
      leads =
          settled_more start.market k left now.places g rest.agents (work_of next waiting') some (work ∙ ap (λ m. round_of m k now.places (g ∷ rest.agents)) so_far.market)
          ∙ ap (λ (w : Waiting). after_rounds start.market k left now.places w.agents) (sym front) ∙ so_far.leads;
      within = (let l = so_far.within in omega arith);
    }

-- in a match that fits each applicant is at a program that lists it
pub listed_of_fitting : (m : Market) (places : Places) → IsWellFormed m → fits m places ≡ true → AreListed m places
listed_of_fitting m places wf fit = (fitting_facts m wf places fit).listed
