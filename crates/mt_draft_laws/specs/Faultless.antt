-- Which files are accepted: those whose records, taken all together, have no fault. (This project's own format.)
use Rattle.std.specs.Prelude.{◌&&◌, ◌||◌, Bool, true, not, List, [], ◌∷◌, map, Option, Some, None, is_some, option_map, option_and_then, codes, bytes_eq, if◌then◌else◌}
use Rattle.std.specs.List.{list_all}
use Rattle.std.specs.Result.{result_ok}
use Rattle.mt_terms.specs.Market.{Registered}
use Rattle.mt_terms.specs.Registration.Ids.{Bytes, is_id, quota_of, all_differ, stands_once}
use Rattle.mt_terms.specs.Registration.Records.{Rules, Kind, OfProgram, OfApplicant, OfCouple, Record, ProgramRecord, ApplicantRecord, CoupleRecord, IdPair, kind_of, are_ids, two_by_two, pair_of, withdraw_record}
use Rattle.mt_terms.specs.Registration.Rows.{ids_of, withdrawn, applicant_ids}
use Rattle.mt_terms.specs.Registration.Passes.{is_same_pair, are_too_many}
use Rattle.mt_terms.specs.Registration.Numbering.{names_only, registered}

-- the record of a program and of a single, whose list may have anything in it
abbrev pub program_draft : Rules → List Bytes → Option Record
program_draft rules (id ∷ quota ∷ list) = if is_id rules.limits.id_bytes id then option_map (λ n. ProgramRecord id n list) (quota_of quota) else None
program_draft rules _ = None

abbrev pub applicant_draft : Rules → List Bytes → Option Record
applicant_draft rules (id ∷ list) = if is_id rules.limits.id_bytes id then Some (ApplicantRecord id list) else None
applicant_draft rules [] = None

-- the record of a couple, whose pairs may have any fields
abbrev pub couple_draft : Rules → List Bytes → Option Record
couple_draft rules (id ∷ a ∷ b ∷ fields) =
    if are_ids rules (id ∷ a ∷ b ∷ []) then option_map (λ pairs. CoupleRecord id a b (map pair_of pairs)) (two_by_two fields) else None
couple_draft rules _ = None

-- a record of a kind by the fields after its first, whose list may have anything in it
abbrev pub draft_by_kind : Rules → Option Kind → List Bytes → Option Record
draft_by_kind rules (Some OfProgram) fields = program_draft rules fields
draft_by_kind rules (Some OfApplicant) fields = applicant_draft rules fields
draft_by_kind rules (Some OfCouple) fields = couple_draft rules fields
draft_by_kind rules None fields = None

-- the same of all its fields
abbrev pub draft : Rules → List Bytes → Option Record
draft rules [] = None
draft rules (word ∷ fields) =
    if rules.withdrawals && bytes_eq word (codes "withdraw") then result_ok (withdraw_record rules fields)
    else draft_by_kind rules (kind_of word) fields

-- the records of all rows, if each has one
abbrev pub drafts : Rules → List (List Bytes) → Option (List Record)
drafts rules [] = Some []
drafts rules (row ∷ rows) = option_and_then (λ r. option_map (λ rs. r ∷ rs) (drafts rules rows)) (draft rules row)

-- whether a pair is allowed: it has a place for each member, or for one of them if half pairs are allowed
abbrev pub is_allowed : Bool → IdPair → Bool
is_allowed half_pairs pair = (is_some pair.0 && is_some pair.1) || (half_pairs && (is_some pair.0 || is_some pair.1))

-- whether a pair is allowed, and names none but these programs
abbrev pub pair_stands : Bool → List Bytes → IdPair → Bool
pair_stands half_pairs programs pair = is_allowed half_pairs pair && names_only programs pair

-- Whether a program's list names only registered applicants, none of them twice. Whether a single's list names only
-- registered programs, none of them twice. Whether each pair of a couple is allowed with these programs, and none of
-- them comes twice. Each is true of any record of another kind.
abbrev pub ranking_stands : List Bytes → Record → Bool
ranking_stands applicants (ProgramRecord id quota list) = stands_once applicants list
ranking_stands applicants _ = true

abbrev pub list_stands : List Bytes → Record → Bool
list_stands programs (ApplicantRecord id list) = stands_once programs list
list_stands programs _ = true

abbrev pub pairs_stand : Bool → List Bytes → Record → Bool
pairs_stand half_pairs programs (CoupleRecord id a b pairs) = list_all (pair_stands half_pairs programs) pairs && all_differ is_same_pair pairs
pairs_stand half_pairs programs _ = true

-- whether no id is registered twice
abbrev pub ids_differ : List Record → Bool
ids_differ rs = all_differ bytes_eq (ids_of OfProgram rs) && all_differ bytes_eq (applicant_ids rs) && all_differ bytes_eq (ids_of OfCouple rs)

-- whether what is withdrawn is registered, and withdrawn once
abbrev pub withdrawals_stand : List Record → Bool
withdrawals_stand rs =
    stands_once (ids_of OfProgram rs) (withdrawn OfProgram rs) && stands_once (ids_of OfApplicant rs) (withdrawn OfApplicant rs)
    && stands_once (ids_of OfCouple rs) (withdrawn OfCouple rs)

-- whether records have no fault among them
abbrev pub is_faultless : Rules → List Record → Bool
is_faultless rules rs =
    ids_differ rs && withdrawals_stand rs && list_all (ranking_stands (applicant_ids rs)) rs && list_all (list_stands (ids_of OfProgram rs)) rs
    && list_all (pairs_stand rules.half_pairs (ids_of OfProgram rs)) rs && not (are_too_many rules.limits rs)

-- the market of rows, if they have no fault
abbrev pub faultless_market : Rules → List (List Bytes) → Option Registered
faultless_market rules rows = option_and_then (λ rs. if is_faultless rules rs then Some (registered rs) else None) (drafts rules rows)
