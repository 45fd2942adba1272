-- All faults of a file, record by record in its order.
use Rattle.std.specs.Prelude.{List, [], ◌∷◌, ◌++◌, map}
use Rattle.std.specs.Option.{option_map_or}
use Rattle.mt_terms.specs.declared.codes.TheConstants.{NO_VERSION}
use Rattle.mt_terms.specs.Registration.Ids.{Bytes}
use Rattle.mt_terms.specs.Registration.Passes.{Numbered, numbered_from}
use Rattle.mt_terms.specs.Registration.Records.{Rules, rules_of}
use Rattle.mt_fault_terms.specs.Faults.{FileFault, fault_alone}
use Rattle.mt_fault_terms.specs.Parts.{Parts, parts_of}
use Rattle.mt_fault_terms.specs.OfRecord.{record_faults}

-- the parts of records
abbrev pub all_parts : Rules → List (Numbered (List Bytes)) → List Parts
all_parts rules rows = map (λ row. parts_of rules row.1) rows

-- the faults of these records, after some and among all
abbrev pub faults_after : Rules → List Parts → List Parts → List (Numbered (List Bytes)) → List FileFault
faults_after rules all before [] = []
faults_after rules all before (row ∷ rows) =
    map (λ fault. (row.0, fault)) (record_faults rules all before (parts_of rules row.1))
    ++ faults_after rules all (before ++ parts_of rules row.1 ∷ []) rows

-- the faults of the records after the first, by the rules of a version
abbrev pub faults_under : Rules → List (Numbered (List Bytes)) → List FileFault
faults_under rules rows = faults_after rules (all_parts rules rows) [] rows

-- The faults of all the records that have a field. If the first of them names no version, that is the only one, since nobody
-- knows by which rules the others are to be read.
abbrev pub faults_of_numbered : List (Numbered (List Bytes)) → List FileFault
faults_of_numbered [] = (0, fault_alone NO_VERSION 0) ∷ []
faults_of_numbered (row ∷ rows) = option_map_or (λ rules. faults_under rules rows) (rules_of row.1) ((row.0, fault_alone NO_VERSION 0) ∷ [])

-- all faults of a file of records
abbrev pub faults_of : List (List Bytes) → List FileFault
faults_of rows = faults_of_numbered (numbered_from 1 rows)
