-- What is known of what stands before a record.
use Rattle.std.specs.Prelude.{◌≡◌, ℕ, List, [], ◌∷◌, ◌++◌, length, min, take}
use Rattle.mt_terms.specs.declared.codes.TheConstants.{DUPLICATE_ENTRY, DUPLICATE_ID}
use Rattle.mt_terms.specs.Registration.Ids.{Bytes}
use Rattle.mt_terms.specs.Registration.Records.{Rules, Kind, OfProgram, OfApplicant, OfCouple}
use Rattle.mt_ids.specs.Kinds.{ids_in}
use Rattle.mt_fault_terms.specs.Faults.{FieldFault, FileFault}
use Rattle.mt_fault_terms.specs.OfRecord.{found_among, record_faults}
use Rattle.mt_fault_terms.specs.Parts.{Form, Registers, Withdraws, Parts, applicants_among, own_ids, all_own_ids, all_applicants, all_entries, all_withdrawn, parts_of}
use Rattle.mt_fault_sink.specs.Telling.{at_record}
use Rattle.mt_faults.specs.declared.before.Before.{Before}
use Rattle.mt_faults.specs.declared.finder.Finder.{Finder}
use Rattle.mt_faults.specs.Registered.{IsPassed, IsRegistry, added, most}

-- These records stand before.
pub record IsBefore (rules : Rules) (before : List Parts) (b : Before) : Type 0 where
  pub programs : IsPassed (all_own_ids rules OfProgram before) b.programs
  pub couples : IsPassed (all_own_ids rules OfCouple before) b.couples
  pub applicants : IsPassed (all_applicants rules before) b.applicants
  pub entries : b.entries ≡ min (all_entries before) most
  pub withdrawn : (kind : Kind) → ids_in b.withdrawn kind ≡ added [] (all_withdrawn rules kind before)

-- Among all these records, the first of them stand before.
pub record Stands (f : Finder) (all before : List Parts) : Type 0 where
  pub rest : List Parts
  pub first : all ≡ before ++ rest
  pub registry : IsRegistry f.rules all f.registry
  pub before_is : IsBefore f.rules before f.before

-- the numbers of applicants, programs and couples that a record registers, each at most the greatest count
pub record AreCounted (rules : Rules) (p : Parts) (applicants programs couples : ℕ) : Type 0 where
  pub applicants_are : applicants ≡ min (length (applicants_among rules p)) most
  pub programs_are : programs ≡ min (length (own_ids rules OfProgram p)) most
  pub couples_are : couples ≡ min (length (own_ids rules OfCouple p)) most

-- the own id of a record, if it is registered before
abbrev pub own_again : Rules → List Parts → Parts → List FieldFault
own_again rules before parts = by_form parts.form
  where
    by_form : Form → List FieldFault
    by_form (Registers OfProgram) = found_among rules DUPLICATE_ID (all_own_ids rules OfProgram before) parts.names
    by_form (Registers OfApplicant) = found_among rules DUPLICATE_ID (all_applicants rules before) parts.names
    by_form (Registers OfCouple) = found_among rules DUPLICATE_ID (all_own_ids rules OfCouple before) (take 1 parts.names)
    by_form _ = []

-- what a record withdraws again
abbrev pub withdrawn_again : Rules → List Parts → Parts → List FieldFault
withdrawn_again rules before parts = by_form parts.form
  where
    by_form : Form → List FieldFault
    by_form (Withdraws kind) = found_among rules DUPLICATE_ENTRY (all_withdrawn rules kind before) parts.names
    by_form _ = []

-- the faults of a row's record: none if the row has no field
abbrev pub row_faults : Rules → List Parts → List Parts → ℕ → List Bytes → List FileFault
row_faults rules all before number [] = []
row_faults rules all before number (word ∷ fields) = at_record number (record_faults rules all before (parts_of rules (word ∷ fields)))
