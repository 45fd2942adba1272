-- Which option of its list an agent has.
use Rattle.std.specs.Prelude.{ℕ, ◌==◌, Option, Some, None, position}
use Rattle.mt_terms.specs.Market.{Market, program_of}
use Rattle.mt_terms.specs.Matching.{Places, holds, options}
use Rattle.mt_terms.specs.declared.numbers.Agent.{Agent}

-- the number from 0 of the option that an agent has, if it has one of its list
abbrev pub held_option : Market → Places → Agent → Option ℕ
held_option m places g = position (holds places) (options m g)

-- an applicant's rank at its place, from 0, if it is placed and its program lists it
abbrev pub rank_at : Market → ℕ → Option ℕ → Option ℕ
rank_at m a None = None
rank_at m a (Some p) = position (λ x. x == a) (program_of m p).ranking
