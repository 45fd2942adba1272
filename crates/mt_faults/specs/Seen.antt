-- How what is read of a record is seen as the definition's.
use Rattle.std.specs.Prelude.{◌+◌, ◌&&◌, not, List, [], ◌∷◌, flat_map, take, Option, option_map, option_to_list, if◌then◌else◌}
use Rattle.mt_lists.specs.Rows.{fields_left}
use Rattle.mt_terms.specs.declared.codes.TheConstants.{BAD_ID}
use Rattle.mt_terms.specs.Lists.{by_twos}
use Rattle.mt_terms.specs.Registration.Ids.{has_id}
use Rattle.mt_terms.specs.Registration.Records.{Rules}
use Rattle.mt_ids.specs.Kinds.{kind_seen}
use Rattle.mt_fault_terms.specs.Faults.{FieldFault, Placed, fault_alone, fault_of, placed_from}
use Rattle.mt_fault_terms.specs.OfRecord.{is_id_field}
use Rattle.mt_fault_terms.specs.Parts as model
use Rattle.mt_faults.specs.declared.parts.Form.{Form}
use Rattle.mt_faults.specs.declared.parts.Form.TheVariants as forms
use Rattle.mt_faults.specs.declared.parts.FormFault.{FormFault}
use Rattle.mt_faults.specs.declared.parts.Parts.{Parts}
use Rattle.mt_faults.specs.declared.placed.Field.{Field}
use Rattle.mt_faults.specs.declared.placed.Placed as declared
use Rattle.mt_faults.specs.declared.placed.PlacedPairs.{PlacedPairs}
use Rattle.mt_faults.specs.declared.tell.FieldTest.{FieldTest}
use Rattle.mt_faults.specs.declared.tell.Wrong.{Wrong}
use Rattle.mt_faults.specs.declared.tell.Wrong.TheVariants as wrongs

-- a field with its number
abbrev pub field_seen : Field → Placed
field_seen f = (f.number, f.bytes.now)

abbrev pub both_seen : Field × Field → model.PlacedPair
both_seen pair = (field_seen pair.0, field_seen pair.1)

-- the fields that have yet to come, each with its number
abbrev pub placed_left : declared.Placed → List Placed
placed_left p = take p.count (placed_from (p.before + 1) (fields_left p.fields))

-- the pairs that have yet to come
abbrev pub pairs_left : PlacedPairs → List model.PlacedPair
pairs_left pairs = by_twos (placed_left pairs.fields)

-- the form of a record, and its faults
abbrev pub form_seen : Form → model.Form
form_seen (forms.Registers kind) = model.Registers (kind_seen kind)
form_seen (forms.Withdraws kind) = model.Withdraws (kind_seen kind)
form_seen forms.Unknown = model.Unknown

abbrev pub form_faults : Option FormFault → List FieldFault
form_faults fault = option_to_list (option_map (λ f. fault_alone f.code f.field) fault)

-- the parts of a record
abbrev pub parts_seen : Parts → model.Parts
parts_seen p = record {
  form = form_seen p.form;
  faults = form_faults p.fault;
  names = placed_left p.names;
  quota = option_map field_seen p.quota;
  list = placed_left p.list;
  pairs = by_twos (placed_left p.pairs);
}

-- the fault of a field, if this is wrong with it
abbrev pub tested : Wrong → Rules → Placed → List FieldFault
tested wrongs.NoId rules field = if is_id_field rules field then [] else fault_alone BAD_ID field.0 ∷ []
tested (wrongs.Missing code ids) rules field = if is_id_field rules field && not (has_id ids.now field.1) then fault_of code field ∷ [] else []
tested (wrongs.Found code ids seen) rules field = if is_id_field rules field && has_id (take seen ids.now) field.1 then fault_of code field ∷ [] else []

-- the faults that a test of fields finds
abbrev pub faults_by_test : Rules → FieldTest → List FieldFault
faults_by_test rules test = flat_map (tested test.wrong rules) (placed_left test.fields)
