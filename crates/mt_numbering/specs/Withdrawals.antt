-- What records withdraw, and who stays.
use Rattle.std.specs.Prelude.{◌≡◌, ◌<◌, ◌^◌, ◌&&◌, Bool, true, false, List, [], ◌∷◌, bytes_eq, flat_map, length}
use Rattle.std.specs.List.{list_all}
use Rattle.mt_draft_laws.specs.Staying.{stays_without}
use Rattle.mt_terms.specs.Registration.Ids.{Bytes, all_differ, has_id}
use Rattle.mt_terms.specs.Registration.Records.{Kind, OfProgram, OfApplicant, OfCouple, Record, WithdrawRecord}
use Rattle.mt_terms.specs.Registration.Rows.{ids_of, applicant_ids, withdrawn}
use Rattle.mt_ids.specs.declared.kinds.Kinds.{Kinds}
use Rattle.mt_ids.specs.Kinds.{ids_in}

-- whether a record stays if these ids are withdrawn
abbrev pub stays_after : Kinds → Record → Bool
stays_after w r = stays_without w.programs w.applicants w.couples r

-- whether a record withdraws
abbrev pub is_withdrawal : Record → Bool
is_withdrawal (WithdrawRecord kind id) = true
is_withdrawal _ = false

-- the id that a record withdraws, if it withdraws one
abbrev pub withdrawn_by : Record → List Bytes
withdrawn_by (WithdrawRecord kind id) = id ∷ []
withdrawn_by _ = []

-- the ids that records withdraw, of all kinds, in the order of the records
abbrev pub withdrawn_ids : List Record → List Bytes
withdrawn_ids records = flat_map withdrawn_by records

-- whether no id is withdrawn twice
abbrev pub are_once : List Record → Bool
are_once rs =
    all_differ bytes_eq (withdrawn OfProgram rs) && all_differ bytes_eq (withdrawn OfApplicant rs) && all_differ bytes_eq (withdrawn OfCouple rs)

-- whether each id that is withdrawn passes the test of its kind
abbrev pub are_known : (Kind → Bytes → Bool) → List Record → Bool
are_known knows rs =
    list_all (knows OfProgram) (withdrawn OfProgram rs) && list_all (knows OfApplicant) (withdrawn OfApplicant rs)
    && list_all (knows OfCouple) (withdrawn OfCouple rs)

-- whether each id that is withdrawn is registered
abbrev pub are_registered : List Record → Bool
are_registered rs = are_known (λ kind. has_id (ids_of kind rs)) rs

-- None of the ids that the records withdraw is withdrawn twice, and they are these.
pub record AreWithdrawn (rs : List Record) (w : Kinds) : Type 0 where
  pub once : are_once rs ≡ true
  pub withdrawn : (kind : Kind) → ids_in w kind ≡ withdrawn kind rs

-- The records register fewer programs than 2 ^ 31, so that each can have a number.
abbrev pub HaveFewPrograms : List Record → Type 0
HaveFewPrograms rs = length (ids_of OfProgram rs) < 2 ^ 31

-- the same of the applicants that records register
abbrev pub HaveFewApplicants : List Record → Type 0
HaveFewApplicants rs = length (applicant_ids rs) < 2 ^ 31
