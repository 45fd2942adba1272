-- The faults of a file of records, by their codes. (This project's own format.)
use Rattle.std.specs.Prelude.{ℕ, []}
use Rattle.mt_terms.specs.Registration.Ids.{Bytes}

-- The fault of a file has its code, the number of the record at fault and the id at fault. The number is 0 if there
-- is no such record, and the id is empty if there is none.
pub record Fault : Type 0 where
  pub code : ℕ
  pub row : ℕ
  pub id : Bytes

-- a fault without its record: the code and the id
abbrev pub RecordFault : Type 0
RecordFault = ℕ × Bytes

abbrev pub record_fault : ℕ → Bytes → RecordFault
record_fault code id = (code, id)

-- a fault that no id is at
abbrev pub record_fault_alone : ℕ → RecordFault
record_fault_alone code = record_fault code []

-- a fault of record n
abbrev pub fault_at : ℕ → RecordFault → Fault
fault_at n c = record { code = c.0; row = n; id = c.1 }
