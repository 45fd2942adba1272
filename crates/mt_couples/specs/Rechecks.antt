-- What a recheck speaks of: the words of Looking, Waiting and Running at its match, its index and its last couple.
use Rattle.std.specs.Prelude.{ℕ, Bool, ◌++◌, List, Option, IsTrue, filter, map}
use Rattle.std.specs.Bool.{then_some}
use Rattle.mt_terms.specs.Lists.{Set}
use Rattle.mt_terms.specs.Market.{Market}
use Rattle.mt_terms.specs.declared.numbers.Agent.{Agent}
use Rattle.mt_stage_tables.specs.Named.{row_at}
use Rattle.mt_stage_tables.specs.Waiting.{Waiting}
use Rattle.mt_stage_tables.specs.declared.couple_list.NamedPairs.{NamedPairs}
use Rattle.mt_assignment.specs.Assigned.{AreProgramsOf}
use Rattle.mt_watch.specs.Found.{is_couple_reopened, AddsSingles, Covers}
use Rattle.mt_watch.specs.Watching.{AreIndexed}
use Rattle.mt_rounds.specs.Looking.{HaveReopened}
use Rattle.mt_assignment.specs.Blocking.{is_reopened}
use Rattle.mt_rounds.specs.Running.{IsQuietBut}
use Rattle.mt_rounds.specs.Waiting.{agents_of, blockers, blockers_of, if_blocking, IsListOf}
use Rattle.mt_couples.specs.declared.recheck.Recheck.{Recheck}

-- the market of the match that is rechecked
abbrev pub market_of : Recheck → Market
market_of t = t.assignment.now.market

-- whether an agent is reopened by an option at one of these programs
abbrev pub is_reopened_at : Recheck → List ℕ → Waiting → Agent → Bool
is_reopened_at t ps w g = is_reopened t.last t.assignment.now ps w.agents g

-- whether a couple that is indexed at a program is reopened there
abbrev pub which_at : Recheck → ℕ → Waiting → NamedPairs → Bool
which_at t p w n = is_couple_reopened t.last t.assignment.now t.watch.now p w.agents n

-- the couple of indexed pairs, if it is reopened at their program
abbrev pub couple_at : Recheck → ℕ → Waiting → NamedPairs → Option ℕ
couple_at t p w n = then_some (which_at t p w n) n.couple

-- the couples that are reopened at a program, of those that are indexed there
abbrev pub reopened_couples : Recheck → ℕ → Waiting → List ℕ
reopened_couples t p w = map (λ n. n.couple) (filter (which_at t p w) (row_at t.watch.now.couples.rows p))

-- the singles with these ranks that have a better option at a program which would be taken are found
abbrev pub FindsSingles : Recheck → ℕ → Set → List ℕ → Type 0
FindsSingles t p ranks found = AddsSingles t.assignment.now p ranks found

-- each applicant whose agent is reopened at one of these programs is found
abbrev pub CoversAll : Recheck → List ℕ → Waiting → List ℕ → Type 0
CoversAll t ps w found = Covers t.last t.assignment.now ps w.agents found

-- at these ranks of a program's list are all agents that are reopened at one of these programs
abbrev pub HaveAll : Recheck → ℕ → List ℕ → Waiting → List ℕ → Type 0
HaveAll t p ps w ranks = HaveReopened t.last t.assignment.now p ps w.agents ranks

-- a couple that has entered and doesn't wait has its better pairs indexed
abbrev pub IsIndexedFor : Recheck → Waiting → Type 0
IsIndexedFor t w = AreIndexed t.last w.agents t.watch.now

-- the work list has room for the agents of the market
abbrev pub IsListFor : Recheck → Waiting → Type 0
IsListFor t w = IsListOf t.assignment.now.market w

-- no agent that has entered and doesn't wait blocks but by an option at one of these programs
abbrev pub IsQuietAround : Recheck → List ℕ → Waiting → Type 0
IsQuietAround t ps w = IsQuietBut t.last t.assignment.now ps w.agents

-- What a recheck of programs that were left needs: the programs and the work list are of the market, and the couples that
-- may block are indexed. After a quiet start nobody else blocks but by an option at these programs.
pub record IsReadyFor (t : Recheck) (left : List ℕ) (w : Waiting) : Type 0 where
  pub programs : AreProgramsOf (market_of t) left
  pub list : IsListFor t w
  pub indexed : IsIndexedFor t w
  pub quiet : IsTrue t.quiet → IsQuietAround t left w

-- the agents of a program's list that have entered and block
abbrev pub blockers_at : Recheck → ℕ → List Agent
blockers_at t p = blockers t.assignment.now t.last p

-- those of several programs' lists, one list after another
abbrev pub blockers_of_all : Recheck → List ℕ → List Agent
blockers_of_all t ps = blockers_of t.assignment.now t.last ps

-- the agents of displaced applicants, and then the agent that moved, if it blocks
abbrev pub joining_moved : Recheck → List ℕ → Agent → List Agent
joining_moved t displaced g = agents_of t.assignment.now displaced ++ if_blocking t.assignment.now g
