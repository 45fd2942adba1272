-- The laws of explanations, from the facts on lines and on options. The last law sums the third one over all agents.
use Rattle.std.proofs.Common.{◌≡◌, ℕ, ◌+◌, ◌<◌, Bool, not, ◌&&◌, [], length, get_or, ap, sym, ◌∙◌, inl, inr, arith}
use Rattle.std.specs.List.{list_all}
use Rattle.std.proofs.lemmas.List.{get_or_default}
use Rattle.mt_terms.specs.Market.{Market, Registered, agent_of, applicants, leads, IsAgentOf}
use Rattle.mt_terms.specs.Matching.{Places, Placement, better, holds, options}
use Rattle.mt_terms.specs.Places.{ArePlaces}
use Rattle.mt_terms.specs.Registration.Accepted.{IsRegistration}
use Rattle.mt_terms.specs.Stability.{blocks, fits, would_be_taken}
use Rattle.mt_terms.specs.declared.numbers.Agent.{Agent}
use Rattle.mt_terms.proofs.ListFacts.{until-le}
use Rattle.mt_verdict_laws.proofs.VerdictLemmas.{agent_cases}
use Rattle.mt_explain.specs.Laws.{EachBetterOptionOnce, OpenIfBlocks, OpenIfTaken, StableIfNoneOpen}
use Rattle.mt_explain.specs.Lines.{explanation, has_open_option, is_open, lines_of, option_lines}
use Rattle.mt_explain.proofs.LineFacts.{any_of_options, lines_with_number, names_program}
use Rattle.mt_explain.proofs.OptionFacts.{any_agree, front_has, open_if_option_taken, option_names}

-- the lines of an explanation with a number are those of the better option with it
lines_of_better : (m : Market) (places : Places) (g : Agent) (k : ℕ)
    → lines_of k (explanation m places g) ≡ option_lines m places k (get_or (better m places g) k [])
lines_of_better m places g k = lines_with_number m places 0 (better m places g) k k (omega arith)

pub each_better_option_once_lem : EachBetterOptionOnce
each_better_option_once_lem = lines_of_better

-- an applicant's agent has a number of the market
pub agent_numbered : (m : Market) (a : ℕ) → a < applicants m → IsAgentOf m (agent_of m a)
agent_numbered m a a_in = elim (agent_cases m a) [
  | inl alone ↦ rw alone a_in
  | inr w ↦ rw w.1 (omega (arith, w.2))
]

pub open_if_taken_lem : OpenIfTaken
open_if_taken_lem m formed places are a k a_in = λ i d within.
    open_at i d within
  where
    open_at : (i : ℕ) (d : Placement) → i < length (options m (agent_of m a))
        → list_all is_open (option_lines m places k (get_or (options m (agent_of m a)) i d)) ≡ would_be_taken m places (get_or (options m (agent_of m a)) i d)
    open_at i d within =
        ap (λ (sent : Placement). list_all is_open (option_lines m places k sent)) (get_or_default (options m (agent_of m a)) i d [] within)
        ∙ open_if_option_taken m formed places are (agent_of m a) (agent_numbered m a a_in) k i within
        ∙ ap (would_be_taken m places) (get_or_default (options m (agent_of m a)) i [] d within)

open_if_agent_blocks : (r : Registered) → IsRegistration r → (places : Places) → ArePlaces r.market places → (g : Agent) → IsAgentOf r.market g
    → has_open_option (explanation r.market places g) ≡ blocks r.market places g
open_if_agent_blocks r registration places are g numbered =
    let m : Market = r.market in
    let front = better m places g in
    let with_number : ℕ → Bool = λ k. list_all is_open (lines_of k (explanation m places g)) in
    any_of_options m places with_number (would_be_taken m places) 0 front
    (λ i within.
    ap names_program (front_has (holds places) (options m g) i [] within)
    ∙ option_names r registration g i (omega (arith, until-le (holds places) (options m g))))
    (λ i within.
    let e : 0 + i ≡ i = omega arith in
    ap with_number e
    ∙ ap (list_all is_open) (lines_of_better m places g i)
    ∙ ap (λ (sent : Placement). list_all is_open (option_lines m places i sent)) (front_has (holds places) (options m g) i [] within)
    ∙ open_if_option_taken m registration.well_formed places are g numbered i i (omega (arith, until-le (holds places) (options m g)))
    ∙ ap (would_be_taken m places) (sym (front_has (holds places) (options m g) i [] within)))

pub open_if_blocks_lem : OpenIfBlocks
open_if_blocks_lem r registration places are a a_in = open_if_agent_blocks r registration places are (agent_of r.market a) (agent_numbered r.market a a_in)

pub stable_if_none_open_lem : StableIfNoneOpen
stable_if_none_open_lem r registration places are =
    let m : Market = r.market in
    ap (λ (b : Bool). fits m places && not b)
    (any_agree (agent_of m) (leads m) (blocks m places) (λ g. has_open_option (explanation m places g)) 0 (applicants m)
    (λ a from before. sym (open_if_blocks_lem r registration places are a (omega arith))))
