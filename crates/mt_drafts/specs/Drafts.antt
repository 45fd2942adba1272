-- The records of rows before it is known whether one has a fault beside the others, or in its list.
use Rattle.std.specs.Prelude.{◌≡◌, ◌-◌, ◌^◌, false, min, List, [], ◌∷◌, ◌++◌, None, Some}
use Rattle.mt_draft_laws.specs.Faultless.{drafts, faultless_market}
use Rattle.mt_terms.specs.Registration.Ids.{Bytes}
use Rattle.mt_terms.specs.Registration.Passes.{are_too_many}
use Rattle.mt_terms.specs.Registration.Records.{Rules, Record}
use Rattle.mt_terms.specs.Registration.Rows.{entry_count}
use Rattle.mt_drafts.specs.declared.drafts.Drafts.{Drafts}
use Rattle.mt_drafts.specs.Names.{AreNames}
use Rattle.mt_records.specs.Records.{all_seen}

-- the rows that have a field
abbrev pub with_fields : List (List Bytes) → List (List Bytes)
with_fields [] = []
with_fields ([] ∷ rows) = with_fields rows
with_fields ((word ∷ fields) ∷ rows) = (word ∷ fields) ∷ with_fields rows

-- the records of drafts, as the definition's records
abbrev pub drafted : Drafts → List Record
drafted d = all_seen d.records.items

-- The ids are those of the records, and the entries theirs, as far as 64 bits count.
pub record AreDrafts (d : Drafts) : Type 0 where
  pub names : AreNames (drafted d) d.names
  pub entries : d.entries ≡ min (entry_count (drafted d)) (2 ^ 64 - 1)

-- One of these rows has a fault, or all together have one.
abbrev pub HaveFault : Rules → List (List Bytes) → Type 0
HaveFault rules rows = faultless_market rules (with_fields rows) ≡ None

-- The records are those of these rows, and no more than a version takes.
pub record AreDraftsOf (rules : Rules) (rows : List (List Bytes)) (d : Drafts) : Type 0 where
  pub are : AreDrafts d
  pub records : drafts rules (with_fields rows) ≡ Some (drafted d)
  pub few : are_too_many rules.limits (drafted d) ≡ false

-- The records are those of these rows and of others after them.
pub record AreOfBoth (rules : Rules) (first second : List (List Bytes)) (d : Drafts) : Type 0 where
  pub are : AreDrafts d
  pub records : drafts rules (with_fields (first ++ second)) ≡ Some (drafted d)
