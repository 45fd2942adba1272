-- What the lines of an explanation say of the match.
use Rattle.std.specs.Prelude.{◌≡◌, ℕ, ◌<◌, not, ◌&&◌, [], All, slice_index_or}
use Rattle.std.specs.List.{list_all, list_any}
use Rattle.mt_terms.specs.Market.{Market, Registered, agent_of, agents, applicants}
use Rattle.mt_terms.specs.Matching.{Places, better, options}
use Rattle.mt_terms.specs.Places.{ArePlaces}
use Rattle.mt_terms.specs.Registration.Accepted.{IsRegistration}
use Rattle.mt_terms.specs.Stability.{blocks, fits, stable, would_be_taken}
use Rattle.mt_terms.specs.WellFormed.{IsWellFormed}
use Rattle.mt_terms.specs.declared.numbers.Agent.{Agent}
use Rattle.mt_explain.specs.Lines.{explanation, has_open_option, is_open, lines_of, option_lines}

-- An explanation has each better option once, with its number and all of its lines, and it has no other option.
abbrev pub EachBetterOptionOnce : Type 0
EachBetterOptionOnce = (m : Market) (places : Places) (g : Agent) (k : ℕ)
    → lines_of k (explanation m places g) ≡ option_lines m places k (slice_index_or (better m places g) k [])

-- The lines of an option are all open exactly if the option would be taken.
abbrev pub OpenIfTaken : Type 0
OpenIfTaken = (m : Market) → IsWellFormed m → (places : Places) → ArePlaces m places → (a k : ℕ) → a < applicants m
    → All (λ sent. list_all is_open (option_lines m places k sent) ≡ would_be_taken m places sent) (options m (agent_of m a))

-- An agent's explanation has an option with open lines alone exactly if the agent blocks.
abbrev pub OpenIfBlocks : Type 0
OpenIfBlocks = (r : Registered) → IsRegistration r → (places : Places) → ArePlaces r.market places
    → (a : ℕ) → a < applicants r.market
    → has_open_option (explanation r.market places (agent_of r.market a)) ≡ blocks r.market places (agent_of r.market a)

-- A match that fits is stable exactly if no agent's explanation has an option with open lines alone.
abbrev pub StableIfNoneOpen : Type 0
StableIfNoneOpen = (r : Registered) → IsRegistration r → (places : Places) → ArePlaces r.market places
    → stable r.market places
    ≡ (fits r.market places && not (list_any (λ g. has_open_option (explanation r.market places g)) (agents r.market)))
