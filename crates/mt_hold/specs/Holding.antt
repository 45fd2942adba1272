-- What a program has received and whom it holds, by the ranks of applicants on its list. A rank is the position from
-- 0, so the applicant that the program wants most has rank 0.
use Rattle.std.specs.Prelude.{ℕ, ◌==◌, Bool, true, false, List, length, replicate, slice_index_or, slice_set}
use Rattle.std.specs.List.{position}
use Rattle.std.specs.Option.{option_map_or}
use Rattle.mt_terms.specs.Lists.{Set, below, count}
use Rattle.mt_terms.specs.Market.{Program}
use Rattle.mt_terms.specs.Choice.{choice}

-- a program's holding: its quota, and for each rank on its list whether it received a proposal from there
pub record Holding : Type 0 where
  pub quota : ℕ
  pub received : List Bool

-- how many ranks the list has
abbrev pub ranks : Holding → ℕ
ranks h = length h.received

-- the ranks from which a proposal was received
abbrev pub has_received : Holding → Set
has_received h rank = slice_index_or h.received rank false

-- how many ranks a proposal was received from
abbrev pub received_count : Holding → ℕ
received_count h = count (λ b. b) h.received

-- the program with each applicant numbered by its rank
abbrev pub numbered_by_rank : Holding → Program
numbered_by_rank h = record { quota = h.quota; ranking = below (ranks h) }

-- the ranks that are held: the choice from those received (Gale and Shapley 1962)
unfoldable pub held : Holding → Set
held h = choice (numbered_by_rank h) (has_received h)

-- the holding of a program that has received nothing
abbrev pub opened : ℕ → ℕ → Holding
opened quota n = record { quota = quota; received = replicate n false }

-- the holding after a proposal from one rank more
abbrev pub receive : Holding → ℕ → Holding
receive h rank = record h { received = slice_set h.received rank true }

-- the applicants that a program with this holding has received: those on its list, at a rank that the holding has
-- received
abbrev pub received_from : Program → Holding → Set
received_from p h a = option_map_or (has_received h) (position (λ x. x == a) p.ranking) false
