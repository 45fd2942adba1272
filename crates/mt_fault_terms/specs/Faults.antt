-- All faults of a file of records, in place of the first. (This project's own format.)
use Rattle.std.specs.Prelude.{ℕ, ◌+◌, List, [], ◌∷◌}
use Rattle.mt_terms.specs.Registration.Ids.{Bytes}

-- a field with its number in its record, from 1
abbrev pub Placed : Type 0
Placed = ℕ × Bytes

-- fields with their numbers, if the first of them has number n
abbrev pub placed_from : ℕ → List Bytes → List Placed
placed_from n [] = []
placed_from n (field ∷ fields) = (n, field) ∷ placed_from (n + 1) fields

-- A fault of a record has its code, the number of the field at fault, and the id at fault. The number is 0 if the fault is at no
-- field alone, and the id is empty if there is none.
pub record FieldFault : Type 0 where
  pub code : ℕ
  pub field : ℕ
  pub id : Bytes

-- a fault at a field, with the bytes of the field as its id
abbrev pub fault_of : ℕ → Placed → FieldFault
fault_of code placed = record { code = code; field = placed.0; id = placed.1 }

-- a fault at a field by its number, that no id is at
abbrev pub fault_alone : ℕ → ℕ → FieldFault
fault_alone code field = record { code = code; field = field; id = [] }

-- a fault of a file: that of a record with this number. The number is 0 if the fault is at no record
abbrev pub FileFault : Type 0
FileFault = ℕ × FieldFault
