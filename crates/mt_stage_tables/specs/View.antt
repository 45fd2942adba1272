-- What the fields of the sets mean.
use Rattle.std.specs.Prelude.{◌≡◌, ℕ, List, length}
use Rattle.std.specs.List.Sorted.{IsStrictlySortedBy}
use Rattle.std.specs.Ordering.{nat_cmp}
use Rattle.mt_terms.specs.Rounds.{is_on}
use Rattle.mt_terms.specs.declared.numbers.Agent.{Agent}
use Rattle.mt_stage_tables.specs.Flags.{Flags, is_flagged}
use Rattle.mt_stage_tables.specs.Named.{Index}
use Rattle.mt_stage_tables.specs.Waiting.{Waiting, WaitOnce}
use Rattle.mt_stage_tables.specs.declared.pair_index.PairIndex.TheInside.{Inside as Pairs}
use Rattle.mt_stage_tables.specs.declared.program_set.ProgramSet.TheInside.{Inside as Programs}
use Rattle.mt_stage_tables.specs.declared.work_list.AgentFlags.TheInside.{Inside as AgentFlags}
use Rattle.mt_stage_tables.specs.declared.work_list.WorkList.TheInside.{Inside as Queue}

abbrev pub flags_in : AgentFlags → Flags
flags_in f = record { applicants = f.applicants.items; couples = f.couples.items }

-- There are as many applicants and couples as flags.
abbrev pub waiting_in : Queue → Waiting
waiting_in w = record { applicants = length w.flags.applicants; couples = length w.flags.couples; agents = w.agents.items }

-- Each agent waits once, and its flag says whether it waits.
pub record IsWorkList (f : Flags) (agents : List Agent) : Type 0 where
  pub waiting : WaitOnce (length f.applicants) (length f.couples) agents
  pub flags : (g : Agent) → is_flagged f g ≡ is_on agents g

abbrev pub programs_in : Programs → List ℕ
programs_in s = s.programs.items

-- They are in order of their numbers, each once.
pub record AreInOrder (s : Programs) : Type 0 where
  pub sorted : IsStrictlySortedBy nat_cmp s.programs.items

abbrev pub index_in : Pairs → Index
index_in n = record { rows = n.rows; counts = n.counts.items }
