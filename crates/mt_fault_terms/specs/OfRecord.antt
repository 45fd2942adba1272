-- All faults of one record, by itself and beside the others, in the order of their codes.
use Rattle.std.specs.Prelude.{ℕ, ◌+◌, Bool, not, ◌||◌, ◌&&◌, nat_lt, nat_le, List, [], ◌∷◌, ◌++◌, map, filter, flat_map, length, option_to_list, is_some, if◌then◌else◌}
use Rattle.std.specs.List.{list_any}
use Rattle.mt_terms.specs.declared.codes.TheConstants.{BAD_ID, BAD_QUOTA, DUPLICATE_ID, DUPLICATE_ENTRY, TOO_MANY, UNKNOWN_APPLICANT, UNKNOWN_PROGRAM, NOT_REGISTERED}
use Rattle.mt_terms.specs.Registration.Ids.{Bytes, has_id, is_dash, is_id, quota_of}
use Rattle.mt_terms.specs.Registration.Passes.{is_same_pair}
use Rattle.mt_terms.specs.Registration.Records.{Rules, OfProgram, OfApplicant, OfCouple, is_pair, pair_of}
use Rattle.mt_fault_terms.specs.Faults.{Placed, FieldFault, fault_alone, fault_of}
use Rattle.mt_fault_terms.specs.Parts.{Form, Registers, Withdraws, Unknown, Parts, PlacedPair, all_applicants, all_entries, all_own_ids, all_withdrawn, applicants_among, entries_among}

-- whether a field is an id by the rules of a version
abbrev pub is_id_field : Rules → Placed → Bool
is_id_field rules field = is_id rules.limits.id_bytes field.1

-- whether a field of a pair, beside its partner, is an id, or a `-` if the version allows it
abbrev pub is_place_field : Rules → Placed → Placed → Bool
is_place_field rules field partner = is_id_field rules field || (rules.half_pairs && is_dash field.1 && not (is_dash partner.1))

-- these fields, each at fault with this code, that no id is at
abbrev pub alone_at : ℕ → List Placed → List FieldFault
alone_at code fields = map (λ field. fault_alone code field.0) fields

-- the fields of a pair that should be ids and aren't
abbrev pub bad_of_pair : Rules → PlacedPair → List Placed
bad_of_pair rules pair =
    filter (λ field. not (is_place_field rules field pair.1)) (pair.0 ∷ []) ++ filter (λ field. not (is_place_field rules field pair.0)) (pair.1 ∷ [])

-- all fields of a record that should be ids and aren't, in order
abbrev pub bad_fields : Rules → Parts → List Placed
bad_fields rules parts =
    filter (λ field. not (is_id_field rules field)) parts.names ++ filter (λ field. not (is_id_field rules field)) parts.list
    ++ flat_map (bad_of_pair rules) parts.pairs

-- the id that a record has first: nothing if that field isn't an id
abbrev pub id_among : Rules → List Placed → Bytes
id_among rules [] = []
id_among rules (field ∷ fields) = if is_id_field rules field then field.1 else []

-- the fault that the field for a quota isn't one, with the record's id
abbrev pub quota_faults : Rules → Parts → List FieldFault
quota_faults rules parts = flat_map (λ field. if is_some (quota_of field.1) then [] else record { code = BAD_QUOTA; field = field.0; id = id_among rules parts.names } ∷ []) (option_to_list parts.quota)

-- the faults that a record has by itself, in the order of their codes: none exactly if the record can be read
abbrev pub own_faults : Rules → Parts → List FieldFault
own_faults rules parts = parts.faults ++ alone_at BAD_ID (bad_fields rules parts) ++ quota_faults rules parts

-- the fields that are ids and among these ids, each at fault with this code
abbrev pub found_among : Rules → ℕ → List Bytes → List Placed → List FieldFault
found_among rules code ids fields = map (fault_of code) (filter (λ field. is_id_field rules field && has_id ids field.1) fields)

-- the fields that are ids and not among these ids, each at fault with this code
abbrev pub missing_among : Rules → ℕ → List Bytes → List Placed → List FieldFault
missing_among rules code ids fields = map (fault_of code) (filter (λ field. is_id_field rules field && not (has_id ids field.1)) fields)

-- the fields that are applicants registered before, by themselves or as the member before
abbrev pub members_before : Rules → List Bytes → List Placed → List FieldFault
members_before rules ids [] = []
members_before rules ids (field ∷ fields) = found_among rules DUPLICATE_ID ids (field ∷ []) ++ members_before rules (ids ++ field.1 ∷ []) fields

-- the ids of a record that are registered before, in whatever record
abbrev pub registered_faults : Rules → List Parts → Parts → List FieldFault
registered_faults rules before parts = by_form parts.form
  where
    by_form : Form → List FieldFault
    by_form (Registers OfProgram) = found_among rules DUPLICATE_ID (all_own_ids rules OfProgram before) parts.names
    by_form (Registers OfApplicant) = found_among rules DUPLICATE_ID (all_applicants rules before) parts.names
    by_form (Registers OfCouple) = couple_faults parts.names
      where
        couple_faults : List Placed → List FieldFault
        couple_faults [] = []
        couple_faults (own ∷ members) = found_among rules DUPLICATE_ID (all_own_ids rules OfCouple before) (own ∷ []) ++ members_before rules (all_applicants rules before) members
    by_form _ = []

-- the entries of a list that stand in it before, each with its own number, if these stand before all
abbrev pub repeats_after : Rules → List Bytes → List Placed → List FieldFault
repeats_after rules before [] = []
repeats_after rules before (field ∷ fields) = found_among rules DUPLICATE_ENTRY before (field ∷ []) ++ repeats_after rules (before ++ field.1 ∷ []) fields

-- the first id that a pair names, if it is a pair
abbrev pub shown_of_pair : PlacedPair → Bytes
shown_of_pair pair = if is_dash pair.0.1 then pair.1.1 else pair.0.1

-- the pairs of a list that stand in it before, each with the number of its first field and the first id that it names
abbrev pub pair_repeats_after : Rules → List (Bytes × Bytes) → List PlacedPair → List FieldFault
pair_repeats_after rules before [] = []
pair_repeats_after rules before (pair ∷ pairs) = here ++ pair_repeats_after rules (before ++ fields ∷ []) pairs
  where
    fields : Bytes × Bytes
    fields = (pair.0.1, pair.1.1)

    here : List FieldFault
    here =
        if is_pair rules fields && list_any (λ other. is_same_pair (pair_of fields) (pair_of other)) before
        then record { code = DUPLICATE_ENTRY; field = pair.0.0; id = shown_of_pair pair } ∷ [] else []

-- the entries and the pairs of a record that stand in its list before, and what it withdraws again
abbrev pub repeat_faults : Rules → List Parts → Parts → List FieldFault
repeat_faults rules before parts = repeats_after rules [] parts.list ++ pair_repeats_after rules [] parts.pairs ++ by_form parts.form
  where
    by_form : Form → List FieldFault
    by_form (Withdraws kind) = found_among rules DUPLICATE_ENTRY (all_withdrawn rules kind before) parts.names
    by_form _ = []

-- whether a count passes a limit with what is added
abbrev pub passes : ℕ → ℕ → ℕ → Bool
passes limit before added = nat_le before limit && nat_lt limit (before + added)

-- the limits that are passed with a record, a fault for each: applicants, programs, couples, entries
abbrev pub limit_faults : Rules → List Parts → Parts → List FieldFault
limit_faults rules before parts =
    here (passes rules.limits.applicants (length (all_applicants rules before)) (length (applicants_among rules parts)))
    ++ here (passes rules.limits.programs (length (all_own_ids rules OfProgram before)) (length (all_own_ids rules OfProgram (parts ∷ []))))
    ++ here (passes rules.limits.couples (length (all_own_ids rules OfCouple before)) (length (all_own_ids rules OfCouple (parts ∷ []))))
    ++ here (passes rules.limits.entries (all_entries before) (entries_among parts))
  where
    here : Bool → List FieldFault
    here is_passed = if is_passed then record { code = TOO_MANY; field = 0; id = id_among rules parts.names } ∷ [] else []

-- the entries of a record that no record registers, with or without a fault
abbrev pub unknown_faults : Rules → List Parts → Parts → List FieldFault
unknown_faults rules all parts = by_form parts.form
  where
    by_form : Form → List FieldFault
    by_form (Registers OfProgram) = missing_among rules UNKNOWN_APPLICANT (all_applicants rules all) parts.list
    by_form (Registers OfApplicant) = missing_among rules UNKNOWN_PROGRAM (all_own_ids rules OfProgram all) parts.list
    by_form (Registers OfCouple) = missing_among rules UNKNOWN_PROGRAM (all_own_ids rules OfProgram all) (flat_map (λ pair. pair.0 ∷ pair.1 ∷ []) parts.pairs)
    by_form (Withdraws kind) = missing_among rules NOT_REGISTERED (all_own_ids rules kind all) parts.names
    by_form Unknown = []

-- the faults of a record that the first pass of a match would find, and those of the second
abbrev pub first_faults : Rules → List Parts → Parts → List FieldFault
first_faults rules before parts =
    own_faults rules parts ++ registered_faults rules before parts ++ repeat_faults rules before parts ++ limit_faults rules before parts

-- all faults of a record, of all the records and of those before it
abbrev pub record_faults : Rules → List Parts → List Parts → Parts → List FieldFault
record_faults rules all before parts = first_faults rules before parts ++ unknown_faults rules all parts
