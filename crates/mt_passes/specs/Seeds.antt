-- What seeds of tables consist of.
use Rattle.std.specs.Prelude.{List, [], ◌∷◌, codes}
use Rattle.std.specs.Option.{unwrap_or}
use Rattle.mt_terms.specs.Registration.Ids.{Bytes}
use Rattle.mt_terms.specs.Registration.Records.{IdPair}

-- the two fields of a pair, with `-` for a member that it sends nowhere
abbrev pub pair_fields : IdPair → List Bytes
pair_fields pair = unwrap_or pair.0 (codes "-") ∷ unwrap_or pair.1 (codes "-") ∷ []
