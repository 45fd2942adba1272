-- Which agents block, by the numbers of those who lead them.
use Rattle.std.specs.Prelude.{ℕ, Bool, ◌&&◌, ◌||◌, ◌==◌, Option, Some, None, if◌then◌else◌}
use Rattle.mt_terms.specs.Market.{Market, agent_of, leads}
use Rattle.mt_terms.specs.Matching.{Places}
use Rattle.mt_terms.specs.Stability.{blocks}
use Rattle.mt_terms.specs.Verdict.{blocking_option, is_unlisted}
use Rattle.mt_terms.specs.declared.numbers.Agent.{Agent}
use Rattle.mt_ranks.specs.declared.entries.Live.{Live}
use Rattle.mt_terms.specs.declared.verdict.Blocker.{Blocker}

-- an agent, with the first option with which it blocks
abbrev pub blocker : Market → Places → Agent → Blocker
blocker m places g = record { agent = g; option = blocking_option m places g }

-- whether an applicant leads an agent that blocks
abbrev pub leads_blocker : Market → Places → ℕ → Bool
leads_blocker m places a = leads m a && blocks m places (agent_of m a)

-- whether an applicant leads an agent that blocks, or its place isn't allowed
abbrev pub has_finding : Market → Places → ℕ → Bool
has_finding m places a = leads_blocker m places a || is_unlisted m places a

-- the agent that an applicant leads, if it leads one and that one blocks
abbrev pub blocker_led_by : Market → Places → ℕ → Option Blocker
blocker_led_by m places a =
    if leads_blocker m places a then Some (blocker m places (agent_of m a)) else None

-- the rank in a live entry, if there is one and it is of a program
abbrev pub rank_if : Option Live → ℕ → Option ℕ
rank_if None p = None
rank_if (Some entry) p = if entry.program == p then Some entry.rank else None
