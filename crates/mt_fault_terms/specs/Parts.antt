-- What the fields of a record are for, by their places alone, so that a record at fault has them too.
use Rattle.std.specs.Prelude.{ℕ, ◌+◌, ◌*◌, Bool, true, false, not, ◌||◌, ◌&&◌, ◌==◌, nat_lt, List, [], ◌∷◌, map, filter, flat_map, length, sum_by, drop, take, Option, Some, None, codes, bytes_eq, if◌then◌else◌}
use Rattle.mt_terms.specs.declared.codes.TheConstants.{UNKNOWN_KIND, FIELD_COUNT}
use Rattle.mt_terms.specs.Lists.{by_twos, head}
use Rattle.mt_terms.specs.Registration.Ids.{Bytes, is_id}
use Rattle.mt_terms.specs.Registration.Records.{Rules, Kind, OfProgram, OfApplicant, OfCouple, kind_of}
use Rattle.mt_fault_terms.specs.Faults.{Placed, FieldFault, fault_alone, placed_from}

-- whether a record registers something of a kind, withdraws it, or neither
pub data Form : Type 0 where
  Registers : (kind : Kind) → Form
  Withdraws : (kind : Kind) → Form
  Unknown : Form

-- two fields one after another, with their numbers
abbrev pub PlacedPair : Type 0
PlacedPair = Placed × Placed

-- The parts of a record: its form, and the faults of that. Then come the fields that should be ids of its own, and the one that
-- should be a quota. The last are the entries of its list, and its pairs.
pub record Parts : Type 0 where
  pub form : Form
  pub faults : List FieldFault
  pub names : List Placed
  pub quota : Option Placed
  pub list : List Placed
  pub pairs : List PlacedPair

-- a record that is of no kind, by the field that should say so
abbrev pub unknown_parts : ℕ → Parts
unknown_parts field = record { form = Unknown; faults = fault_alone UNKNOWN_KIND field ∷ []; names = []; quota = None; list = []; pairs = [] }

-- the fault that a record has too few fields, or too many
abbrev pub miscounted : Bool → List FieldFault
miscounted wrong = if wrong then fault_alone FIELD_COUNT 0 ∷ [] else []

-- whether a field has no partner
abbrev pub is_odd : List Placed → Bool
is_odd [] = false
is_odd (x ∷ []) = true
is_odd (x ∷ y ∷ fields) = is_odd fields

-- the parts of a record by the fields after its first, for each kind of record
abbrev pub program_parts : List Placed → Parts
program_parts fields =
    record { form = Registers OfProgram; faults = miscounted (nat_lt (length fields) 2); names = take 1 fields; quota = head (drop 1 fields); list = drop 2 fields; pairs = [] }

abbrev pub applicant_parts : List Placed → Parts
applicant_parts fields =
    record { form = Registers OfApplicant; faults = miscounted (nat_lt (length fields) 1); names = take 1 fields; quota = None; list = drop 1 fields; pairs = [] }

abbrev pub couple_parts : List Placed → Parts
couple_parts fields =
    record { form = Registers OfCouple; faults = miscounted (nat_lt (length fields) 3 || is_odd (drop 3 fields)); names = take 3 fields; quota = None; list = []; pairs = by_twos (drop 3 fields) }

abbrev pub withdrawal_parts : Kind → List Placed → Parts
withdrawal_parts kind fields =
    record { form = Withdraws kind; faults = miscounted (not (length fields == 1)); names = take 1 fields; quota = None; list = []; pairs = [] }

-- the parts of a withdrawal by its kind, if its word names one, and by the fields after that word
abbrev pub withdrawal_by_kind : Option Kind → List Placed → Parts
withdrawal_by_kind None fields = unknown_parts 2
withdrawal_by_kind (Some kind) fields = withdrawal_parts kind fields

-- the parts of a withdrawal by its fields after the first, of which the first names a kind
abbrev pub withdraw_parts : List Placed → Parts
withdraw_parts [] = record (unknown_parts 0) { faults = miscounted true }
withdraw_parts (word ∷ fields) = withdrawal_by_kind (kind_of word.1) fields

abbrev pub parts_by_kind : Option Kind → List Placed → Parts
parts_by_kind (Some OfProgram) fields = program_parts fields
parts_by_kind (Some OfApplicant) fields = applicant_parts fields
parts_by_kind (Some OfCouple) fields = couple_parts fields
parts_by_kind None fields = unknown_parts 1

-- the parts of a record by all its fields, of which it has at least one
abbrev pub parts_of : Rules → List Bytes → Parts
parts_of rules [] = unknown_parts 1
parts_of rules (word ∷ fields) =
    if rules.withdrawals && bytes_eq word (codes "withdraw") then withdraw_parts (placed_from 2 fields)
    else parts_by_kind (kind_of word) (placed_from 2 fields)

-- the bytes of the fields that are ids
abbrev pub ids_among : Rules → List Placed → List Bytes
ids_among rules fields = filter (is_id rules.limits.id_bytes) (map (λ x. x.1) fields)

-- the ids that a record at fault or not registers under a kind
abbrev pub own_ids : Rules → Kind → Parts → List Bytes
own_ids rules kind parts = by_form kind parts.form
  where
    by_form : Kind → Form → List Bytes
    by_form OfProgram (Registers OfProgram) = ids_among rules (take 1 parts.names)
    by_form OfApplicant (Registers OfApplicant) = ids_among rules (take 1 parts.names)
    by_form OfCouple (Registers OfCouple) = ids_among rules (take 1 parts.names)
    by_form _ _ = []

-- the applicants that it registers: a single, or the two members of a couple
abbrev pub applicants_among : Rules → Parts → List Bytes
applicants_among rules parts = by_form parts.form
  where
    by_form : Form → List Bytes
    by_form (Registers OfApplicant) = ids_among rules (take 1 parts.names)
    by_form (Registers OfCouple) = ids_among rules (drop 1 parts.names)
    by_form _ = []

-- the ids that it withdraws under a kind
abbrev pub withdrawn_ids : Rules → Kind → Parts → List Bytes
withdrawn_ids rules kind parts = by_form kind parts.form
  where
    by_form : Kind → Form → List Bytes
    by_form OfProgram (Withdraws OfProgram) = ids_among rules parts.names
    by_form OfApplicant (Withdraws OfApplicant) = ids_among rules parts.names
    by_form OfCouple (Withdraws OfCouple) = ids_among rules parts.names
    by_form _ _ = []

-- how many entries its list has: a pair counts as two
abbrev pub entries_among : Parts → ℕ
entries_among parts = length parts.list + 2 * length parts.pairs

-- what records register: the ids of a kind, all applicants, the ids withdrawn, and how many entries, each in order of the records
abbrev pub all_own_ids : Rules → Kind → List Parts → List Bytes
all_own_ids rules kind records = flat_map (own_ids rules kind) records

abbrev pub all_applicants : Rules → List Parts → List Bytes
all_applicants rules records = flat_map (applicants_among rules) records

abbrev pub all_withdrawn : Rules → Kind → List Parts → List Bytes
all_withdrawn rules kind records = flat_map (withdrawn_ids rules kind) records

abbrev pub all_entries : List Parts → ℕ
all_entries records = sum_by entries_among records
