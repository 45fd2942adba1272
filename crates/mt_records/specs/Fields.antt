-- The fields of a couple's list, two by two.
use Rattle.std.specs.Prelude.{List, [], ◌∷◌, drop, map, Option}
use Rattle.std.specs.Borrow.{Bor}
use Rattle.std.specs.Option.{option_copied}
use Rattle.mt_lists.specs.Rows.{fields_left}
use Rattle.mt_terms.specs.Lists.{by_twos}
use Rattle.mt_terms.specs.Registration.Ids.{Bytes}
use Rattle.mt_terms.specs.Registration.Records.{IdPair, pair_of}
use Rattle.mt_records.specs.declared.fields.CoupleFields.{CoupleFields}
use Rattle.mt_records.specs.declared.fields.Pairs.{Pairs}

-- the pairs that an iterator over a couple's fields has yet to give
abbrev pub pairs_left : Pairs → List IdPair
pairs_left pairs = map pair_of (by_twos (fields_left pairs.fields))

-- a pair of places as the definition's
abbrev pub pair_seen : Option (Bor Bytes) × Option (Bor Bytes) → IdPair
pair_seen pair = (option_copied pair.0, option_copied pair.1)

-- the first of fields that are two by two, or two empty ones
abbrev pub first_two : List (Bytes × Bytes) → Bytes × Bytes
first_two [] = ([], [])
first_two (two ∷ rest) = two

-- a couple's two members: the first two fields after its own id, or two empty ones if there are fewer
abbrev pub members_in : CoupleFields → Bytes × Bytes
members_in couple = first_two (by_twos (fields_left couple.fields))

-- the pairs of a couple's list: the fields after its members, two by two
abbrev pub pairs_after : CoupleFields → List IdPair
pairs_after couple = map pair_of (drop 1 (by_twos (fields_left couple.fields)))
