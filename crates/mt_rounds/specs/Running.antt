-- What is asked of a match and of a work list between two rounds.
use Rattle.std.specs.Prelude.{ℕ, Bool, true, nat_lt, List, IsTrue, IsFalse}
use Rattle.mt_terms.specs.Market.{Market, agents}
use Rattle.mt_terms.specs.Matching.{Places}
use Rattle.mt_terms.specs.Stability.{blocks}
use Rattle.mt_terms.specs.WellFormed.{IsWellFormed}
use Rattle.mt_terms.specs.Rounds.{Work, has_entered, is_on, IsFittingState}
use Rattle.mt_terms.specs.declared.numbers.Agent.{Agent}
use Rattle.mt_terms.specs.declared.numbers.Agent.TheVariants.{Single, Couple}
use Rattle.mt_stage_tables.specs.Waiting.{Waiting}
use Rattle.mt_assignment.specs.Assigned.{Assigned}
use Rattle.mt_assignment.specs.Moves.{opens}
use Rattle.mt_rounds.specs.Waiting.{IsListOf}

-- the state of a match and a work list
abbrev pub work_of : Assigned → Waiting → Work
work_of s w = record { places = s.places; waiting = w.agents }

-- Once couple k has entered, no agent blocks that has entered and doesn't wait.
abbrev pub IsQuiet : ℕ → Assigned → List Agent → Type 0
IsQuiet k s waiting =
    (g : Agent) → IsTrue (is_on (agents s.market) g) → IsTrue (has_entered k g) → IsFalse (is_on waiting g) → IsFalse (blocks s.market s.places g)

-- who has entered before a couple: each single, and the couples below it
abbrev pub entered_before : ℕ → Agent → Bool
entered_before number (Single a) = true
entered_before number (Couple c) = nat_lt c number

-- Before a couple enters, no agent blocks that has entered.
abbrev pub IsQuietBefore : Market → ℕ → Places → Type 0
IsQuietBefore m number places =
    (g : Agent) → IsTrue (is_on (agents m) g) → IsTrue (entered_before number g) → IsFalse (blocks m places g)

-- Such an agent blocks by an option at one of these programs alone.
abbrev pub IsQuietBut : ℕ → Assigned → List ℕ → List Agent → Type 0
IsQuietBut k s ps waiting =
    (g : Agent) → IsTrue (is_on (agents s.market) g) → IsTrue (has_entered k g) → IsFalse (is_on waiting g)
    → IsTrue (blocks s.market s.places g) → IsTrue (opens s ps g)

-- The market is well formed, the match fits, and the agents that wait are of the market. After a quiet start no idle
-- agent blocks.
pub record IsRunning (k : ℕ) (quiet : Bool) (s : Assigned) (w : Waiting) : Type 0 where
  pub well_formed : IsWellFormed s.market
  pub fitting : IsFittingState s.market (work_of s w)
  pub waiting : IsListOf s.market w
  pub is_quiet : IsTrue quiet → IsQuiet k s w.agents
