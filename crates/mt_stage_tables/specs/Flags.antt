-- A flag for each applicant and for each couple.
use Rattle.std.specs.Prelude.{ℕ, Bool, false, List, replicate, slice_index_or, slice_set}
use Rattle.mt_terms.specs.declared.numbers.Agent.{Agent}
use Rattle.mt_terms.specs.declared.numbers.Agent.TheVariants.{Single, Couple}

pub record Flags : Type 0 where
  pub applicants : List Bool
  pub couples : List Bool

-- flags of this many applicants and couples, none of them set
abbrev pub no_flags : ℕ → ℕ → Flags
no_flags applicants couples = record { applicants = replicate applicants false; couples = replicate couples false }

-- whether an agent's flag is set: not that of an agent without a flag
abbrev pub is_flagged : Flags → Agent → Bool
is_flagged f (Single a) = slice_index_or f.applicants a false
is_flagged f (Couple c) = slice_index_or f.couples c false

-- the flags with an agent's set or cleared
abbrev pub flagged : Flags → Agent → Bool → Flags
flagged f (Single a) flag = record f { applicants = slice_set f.applicants a flag }
flagged f (Couple c) flag = record f { couples = slice_set f.couples c flag }
