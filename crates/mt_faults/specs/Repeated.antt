-- Repeated entries of a list, by those that came before.
use Rattle.std.specs.Prelude.{◌&&◌, not, List, [], ◌∷◌, ◌++◌, if◌then◌else◌}
use Rattle.mt_terms.specs.declared.codes.TheConstants.{DUPLICATE_ENTRY}
use Rattle.mt_terms.specs.Registration.Ids.{Bytes, has_id}
use Rattle.mt_terms.specs.Registration.Records.{Rules}
use Rattle.mt_fault_terms.specs.Faults.{FieldFault, Placed, fault_of}
use Rattle.mt_fault_terms.specs.OfRecord.{is_id_field, pair_repeats_after, repeats_after}
use Rattle.mt_fault_terms.specs.Parts.{Parts}

-- the fault of a field that is an id and one of these
abbrev pub repeated : Rules → List Bytes → Placed → List FieldFault
repeated rules table field = if is_id_field rules field && has_id table field.1 then fault_of DUPLICATE_ENTRY field ∷ [] else []

-- these with a field, if it is an id and none of them
abbrev pub entries_with : Rules → List Bytes → Placed → List Bytes
entries_with rules table field = if is_id_field rules field && not (has_id table field.1) then table ++ field.1 ∷ [] else table

-- the entries and the pairs of a record that stand in its list before
abbrev pub repeats_in_list : Rules → Parts → List FieldFault
repeats_in_list rules parts = repeats_after rules [] parts.list ++ pair_repeats_after rules [] parts.pairs
