-- The pieces of a fault's line.
use Rattle.std.specs.Prelude.{ℕ, [], ◌∷◌, ◌++◌, codes, decimal}
use Rattle.std.specs.List.{join_with_byte}
use Rattle.mt_terms.specs.Registration.Ids.{Bytes}
use Rattle.mt_terms.specs.Text.{comma, id_text, line, name_among, refusals}
use Rattle.mt_fault_terms.specs.Faults.{FieldFault}

-- the front of the lines of faults with a code, with the comma before the number of the record
abbrev pub code_front : ℕ → Bytes
code_front code = join_with_byte comma (codes "check" ∷ codes "1" ∷ codes "fault" ∷ decimal code ∷ name_among refusals code ∷ []) ++ codes ","

-- what follows it, as far as the comma before the number of the field
abbrev pub record_front : ℕ → ℕ → Bytes
record_front record_number line_number = join_with_byte comma (decimal record_number ∷ decimal line_number ∷ []) ++ codes ","

-- the line of a fault as far as the number of the field
abbrev pub fault_front : ℕ → ℕ → ℕ → Bytes
fault_front code record_number line_number = code_front code ++ record_front record_number line_number

-- its end: the number of the field, and the id
abbrev pub fault_end : FieldFault → Bytes
fault_end fault = line (decimal fault.field ∷ id_text fault.id ∷ [])
