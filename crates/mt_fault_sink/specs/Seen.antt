-- How a fault of a record is seen as the definition's.
use Rattle.std.specs.Prelude.{ℕ, List, Option, option_map, option_to_list}
use Rattle.mt_terms.specs.Registration.Ids.{Bytes}
use Rattle.mt_fault_terms.specs.Faults.{FieldFault}
use Rattle.mt_fault_sink.specs.declared.fault.Fault.{Fault}

-- a fault with this code, field and id
abbrev pub fault_with : ℕ → ℕ → Bytes → FieldFault
fault_with code field id = record { code = code; field = field; id = id }

-- a fault without the field where its id stood first, which is for readers alone
abbrev pub fault_seen : Fault → FieldFault
fault_seen f = fault_with f.code f.field f.id.now

abbrev pub faults_seen : Option Fault → List FieldFault
faults_seen fault = option_to_list (option_map fault_seen fault)
