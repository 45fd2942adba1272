-- What is asked of the stage between two rounds, and what it is after some.
use Rattle.std.specs.Prelude.{◌≡◌, ℕ, ◌<◌, [], ◌∷◌, length, Option, Some, IsTrue}
use Rattle.mt_terms.specs.Market.{Market, applicants}
use Rattle.mt_terms.specs.Matching.{Places, Placement}
use Rattle.mt_terms.specs.Rounds.{Work, after_rounds, after_taking, round_of}
use Rattle.mt_terms.specs.Stability.{fits}
use Rattle.mt_terms.specs.declared.numbers.Agent.{Agent}
use Rattle.mt_terms.specs.declared.numbers.Agent.TheVariants.{Couple}
use Rattle.mt_stage_tables.specs.Named.{AreNamed}
use Rattle.mt_stage_tables.specs.Waiting.{nobody, waiting_first}
use Rattle.mt_assignment.specs.Assigned.{assignment}
use Rattle.mt_assignment.specs.Watched.{AreWatched}
use Rattle.mt_watch.specs.Watching.{IsWatching, AreCounted, IsIndexed}
use Rattle.mt_assignment.specs.Blocking.{singles_quiet}
use Rattle.mt_rounds.specs.Running.{work_of, IsQuietBefore, IsRunning}
use Rattle.mt_rounds.specs.Waiting.{IsListOf, KeepsRoom}
use Rattle.mt_couples.specs.declared.rounds.Stage.{Stage}

-- the stage's match and its work list
abbrev pub state_of : Stage → Work
state_of t = work_of t.assignment t.waiting

-- match and work list are what they are between two rounds
abbrev pub IsBetweenRounds : Stage → Type 0
IsBetweenRounds t = IsRunning t.last t.quiet t.assignment t.waiting

-- so they are with an agent in front of the work list, which was taken off it
abbrev pub IsBeforeRoundOf : Agent → Stage → Type 0
IsBeforeRoundOf g t = IsRunning t.last t.quiet t.assignment (waiting_first g t.waiting)

-- the index names who may block, but for the agents that wait
abbrev pub IsWatched : Stage → Type 0
IsWatched t = IsWatching t.last t.assignment t.waiting.agents t.watch

-- so it does but for an agent that was taken off the work list, too
abbrev pub IsWatchedBut : Agent → Stage → Type 0
IsWatchedBut g t = IsWatching t.last t.assignment (waiting_first g t.waiting).agents t.watch

-- what no round changes: the market, the room of the work list, the last couple, and whether the start was quiet
pub record KeepsStage (old new : Stage) : Type 0 where
  pub market : new.assignment.market ≡ old.assignment.market
  pub room : KeepsRoom old.waiting new.waiting
  pub last : new.last ≡ old.last
  pub quiet : new.quiet ≡ old.quiet

-- the state after an agent, which was taken off the work list, has moved to an option
abbrev pub after_move : Stage → Agent → Placement → Work
after_move t g sent = after_taking t.assignment.market t.last t.assignment.places g t.waiting.agents (Some sent)

-- the state after the round of an agent that was taken off the work list
abbrev pub after_round : Stage → Agent → Work
after_round t g = round_of t.assignment.market t.last t.assignment.places (waiting_first g t.waiting).agents

-- the match after rounds until the work list is empty, if there are enough of them, and how many are left
abbrev pub settled_within : Stage → ℕ → Option (Places × ℕ)
settled_within t budget = after_rounds t.assignment.market t.last budget t.assignment.places t.waiting.agents

-- a stage that no couple has entered: its match is that of the singles, nobody waits, and all singles are watched
pub record Begins (m : Market) (places : Places) (t : Stage) : Type 0 where
  pub assigned : t.assignment ≡ assignment m places
  pub nobody_waits : t.waiting ≡ nobody (applicants m) (length m.couples)
  pub watched : AreWatched t.assignment t.watch.singles
  pub named : AreNamed t.assignment.market t.watch.couples
  pub counted : AreCounted t.assignment t.watch.better.items
  pub is_quiet : IsTrue t.quiet → IsTrue (singles_quiet t.assignment)

-- A stage between two entries, once the couples below a number have entered: nobody waits, and the index names who may
-- block.
pub record IsBetweenEntries (number : ℕ) (t : Stage) : Type 0 where
  pub fitting : IsTrue (fits t.assignment.market t.assignment.places)
  pub list : IsListOf t.assignment.market t.waiting
  pub nobody_waits : t.waiting.agents ≡ []
  pub is_quiet : IsTrue t.quiet → IsQuietBefore t.assignment.market number t.assignment.places
  pub watched : AreWatched t.assignment t.watch.singles
  pub named : AreNamed t.assignment.market t.watch.couples
  pub counted : AreCounted t.assignment t.watch.better.items
  pub indexed : (c : ℕ) → c < number → IsIndexed t.watch c

-- the match once a couple has entered alone, if the rounds end, and how many are left
abbrev pub entered_within : Stage → ℕ → ℕ → Option (Places × ℕ)
entered_within t k left = after_rounds t.assignment.market k left t.assignment.places (Couple k ∷ [])
