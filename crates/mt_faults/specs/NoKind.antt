-- Records of no kind, as their first field tells.
use Rattle.std.specs.Prelude.{◌&&◌, Bool, true, not, List, [], ◌∷◌, is_none, codes, bytes_eq}
use Rattle.mt_terms.specs.Registration.Ids.{Bytes}
use Rattle.mt_terms.specs.Registration.Records.{Rules, kind_of}

-- whether a first field names no kind of record
abbrev pub names_no_kind : Rules → Bytes → Bool
names_no_kind rules word = not (rules.withdrawals && bytes_eq word (codes "withdraw")) && is_none (kind_of word)

-- whether a record is of no kind by its first field
abbrev pub is_of_no_kind : Rules → List Bytes → Bool
is_of_no_kind rules [] = true
is_of_no_kind rules (word ∷ fields) = names_no_kind rules word
