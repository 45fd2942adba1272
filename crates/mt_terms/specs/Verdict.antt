-- The first finding against a match, in this project's own order.
use Rattle.std.specs.Prelude.{ℕ, Bool, not, ◌&&◌, ◌||◌, ◌==◌, nat_le, min, Option, Some, None, length, position}
use Rattle.std.specs.List.{find}
use Rattle.std.specs.Option.{unwrap_or}
use Rattle.mt_terms.specs.Lists.{below}
use Rattle.mt_terms.specs.Market.{Market, applicants, program_of, couple_of, agent_of, agents}
use Rattle.mt_terms.specs.Matching.{Places, place_of, filled, better}
use Rattle.mt_terms.specs.Stability.{is_listed, has_own_option, would_be_taken, blocks}
use Rattle.mt_terms.specs.declared.numbers.Agent.{Agent}
use Rattle.mt_terms.specs.declared.numbers.Agent.TheVariants.{Single, Couple}
use Rattle.mt_terms.specs.declared.verdict.Verdict.{Verdict}
use Rattle.mt_terms.specs.declared.verdict.Verdict.TheVariants.{Stable, Unlisted, Over, Blocks}

-- the number at which a finding on an agent is reported: a single's own, and the lower one of a couple's
abbrev pub lowest_number : Market → Agent → ℕ
lowest_number m (Single a) = a
lowest_number m (Couple c) = min (couple_of m c).first (couple_of m c).second

-- whether an applicant's place is not allowed: by its agent's list, reported at the agent's lowest number,
-- or by its program's list
abbrev pub is_unlisted : Market → Places → ℕ → Bool
is_unlisted m places a =
    ((lowest_number m (agent_of m a) == a) && not (has_own_option m places (agent_of m a))) || not (is_listed m a (place_of places a))

-- whether a program has more applicants than its quota
abbrev pub is_over : Market → Places → ℕ → Bool
is_over m places p = not (nat_le (filled places p) (program_of m p).quota)

-- the place on an agent's list of its first better option that would be taken
abbrev pub blocking_option : Market → Places → Agent → ℕ
blocking_option m places g = unwrap_or (position (would_be_taken m places) (better m places g)) 0

abbrev pub blocks_verdict : Market → Places → Option Agent → Verdict
blocks_verdict m places None = Stable
blocks_verdict m places (Some g) = Blocks (record { agent = g; option = blocking_option m places g })

abbrev pub over_verdict : Market → Places → Option ℕ → Verdict
over_verdict m places None = blocks_verdict m places (find (blocks m places) (agents m))
over_verdict m places (Some p) = Over p

abbrev pub unlisted_verdict : Market → Places → Option ℕ → Verdict
unlisted_verdict m places None = over_verdict m places (find (is_over m places) (below (length m.programs)))
unlisted_verdict m places (Some a) = Unlisted a

-- the first finding: applicants by number, then programs by number, then the agents that block
abbrev pub verdict_of : Market → Places → Verdict
verdict_of m places = unlisted_verdict m places (find (is_unlisted m places) (below (applicants m)))
