-- Who is a single, by rank tables.
use Rattle.std.specs.Prelude.{ℕ, Bool, false, slice_index_or}
use Rattle.mt_ranks.specs.Ranked.{Ranked}

-- whether an applicant is a single
abbrev pub is_single : Ranked → ℕ → Bool
is_single r a = slice_index_or r.singles a false
