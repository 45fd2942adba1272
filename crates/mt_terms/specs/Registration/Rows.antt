-- What a list of records registers, and what it withdraws. (This project's own format.)
use Rattle.std.specs.Prelude.{ℕ, ◌*◌, Bool, false, not, List, [], ◌∷◌, filter, length, sum_by, Option, Some, None, flat_map, filter_map}
use Rattle.mt_terms.specs.Registration.Ids.{Bytes, has_id}
use Rattle.mt_terms.specs.Registration.Records.{Record, ProgramRecord, ApplicantRecord, CoupleRecord, WithdrawRecord, Kind, OfProgram, OfApplicant, OfCouple}

-- the id of a record: its own, or the one that it withdraws
abbrev pub id_of : Record → Bytes
id_of (ProgramRecord id quota list) = id
id_of (ApplicantRecord id list) = id
id_of (CoupleRecord id a b pairs) = id
id_of (WithdrawRecord kind id) = id

-- the id that a record registers under a kind, if it is of that kind
abbrev pub own_id : Kind → Record → Option Bytes
own_id OfProgram (ProgramRecord id quota list) = Some id
own_id OfApplicant (ApplicantRecord id list) = Some id
own_id OfCouple (CoupleRecord id a b pairs) = Some id
own_id _ _ = None

-- the id that a record withdraws under a kind, if it does
abbrev pub withdrawn_id : Kind → Record → Option Bytes
withdrawn_id OfProgram (WithdrawRecord OfProgram id) = Some id
withdrawn_id OfApplicant (WithdrawRecord OfApplicant id) = Some id
withdrawn_id OfCouple (WithdrawRecord OfCouple id) = Some id
withdrawn_id _ _ = None

-- the applicants that a record registers: a single, or the two members of a couple
abbrev pub applicants_of : Record → List Bytes
applicants_of (ApplicantRecord id list) = id ∷ []
applicants_of (CoupleRecord id a b pairs) = a ∷ b ∷ []
applicants_of _ = []

-- the ids of the records of a kind, of the rows of a kind that are withdrawn, and of all applicants: each in
-- order of the records
abbrev pub ids_of : Kind → List Record → List Bytes
ids_of kind records = filter_map (own_id kind) records

abbrev pub withdrawn : Kind → List Record → List Bytes
withdrawn kind records = filter_map (withdrawn_id kind) records

abbrev pub applicant_ids : List Record → List Bytes
applicant_ids records = flat_map applicants_of records

-- how many entries the list of a record has: a pair counts as two
abbrev pub entries_of : Record → ℕ
entries_of (ProgramRecord id quota list) = length list
entries_of (ApplicantRecord id list) = length list
entries_of (CoupleRecord id a b pairs) = 2 * length pairs
entries_of (WithdrawRecord kind id) = 0

abbrev pub entry_count : List Record → ℕ
entry_count records = sum_by entries_of records

-- the records that stay: they are no withdrawals, and no withdrawal in any row names them
abbrev pub remaining : List Record → List Record
remaining records = filter stays records
  where
    stays : Record → Bool
    stays (ProgramRecord id quota list) = not (has_id (withdrawn OfProgram records) id)
    stays (ApplicantRecord id list) = not (has_id (withdrawn OfApplicant records) id)
    stays (CoupleRecord id a b pairs) = not (has_id (withdrawn OfCouple records) id)
    stays (WithdrawRecord kind id) = false
