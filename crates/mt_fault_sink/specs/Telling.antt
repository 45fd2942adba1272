-- What a sink takes of the faults of a file.
use Rattle.std.specs.Prelude.{◌≡◌, ℕ, List, ◌++◌, map, Result, Ok, Err}
use Rattle.mt_fault_terms.specs.Faults.{FieldFault, FileFault}
use Rattle.mt_fault_sink.specs.declared.fault.FaultEnd.{FaultEnd}
use Rattle.mt_fault_sink.specs.declared.fault.FaultEnd.TheVariants as ends

-- faults of the record with a number
abbrev pub at_record : ℕ → List FieldFault → List FileFault
at_record number faults = map (λ fault. (number, fault)) faults

-- A fact holds of the first of these faults, however many they are.
pub record OfFirst (P : List FileFault → Type 0) (faults : List FileFault) : Type 0 where
  pub some : List FileFault
  pub rest : List FileFault
  pub parts : faults ≡ some ++ rest
  pub holds : P some

-- A sink took these faults, and can take more. Or memory ran out after it took the first of them. Or it stopped at one of them.
abbrev pub Tells : {X S : Type 0} → (S → Type 0) → (S → S → List FileFault → Type 0) → (S → S → List FileFault → Type 0) → S → S → List FileFault → Result X FaultEnd → Type 0
Tells takes told stopped old new faults (Ok _) = takes new × told old new faults
Tells takes told stopped old new faults (Err ends.Memory) = takes new × OfFirst (told old new) faults
Tells takes told stopped old new faults (Err ends.Stopped) = OfFirst (stopped old new) faults
