-- Who is at a program once one applicant was moved.
use Rattle.std.specs.Prelude.{ℕ, ◌==◌, Option, if◌then◌else◌}
use Rattle.mt_terms.specs.Lists.{Set}
use Rattle.mt_terms.specs.Matching.{Places, at, is_program}

-- those at a program, with an applicant moved to a place
abbrev pub at_moved : Places → ℕ → Option ℕ → ℕ → Set
at_moved places a place p b = if b == a then is_program p place else at places p b
