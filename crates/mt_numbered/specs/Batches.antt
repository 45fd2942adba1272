-- Fields of a list that are looked up together.
use Rattle.std.specs.Prelude.{ℕ, List, Option, bytes_eq, position}
use Rattle.mt_terms.specs.Registration.Ids.{Bytes}

-- the place of a field among ids, if it is one of them
abbrev pub place_among : List Bytes → Bytes → Option ℕ
place_among ids field = position (bytes_eq field) ids
