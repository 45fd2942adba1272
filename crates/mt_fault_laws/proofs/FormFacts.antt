-- The faults of a record's form and of limits: what is so of each of the two forms is so of all, and all of a limit have one code.
use Rattle.std.proofs.Common.{◌≡◌, ℕ, ◌+◌, Bool, true, false, ◌&&◌, List, [], ◌∷◌, ◌++◌, length, Option, Some, None, All, refl}
use Rattle.std.specs.Prelude.{bytes_eq, codes, if◌then◌else◌}
use Rattle.std.proofs.lemmas.List.Elements.{All-nil, All-cons, All-append}
use Rattle.mt_terms.specs.declared.codes.TheConstants.{UNKNOWN_KIND, FIELD_COUNT, TOO_MANY}
use Rattle.mt_terms.specs.Registration.Ids.{Bytes}
use Rattle.mt_terms.specs.Registration.Records.{Rules, Kind, OfProgram, OfApplicant, OfCouple, kind_of}
use Rattle.mt_fault_terms.specs.Faults.{Placed, FieldFault, fault_alone, placed_from}
use Rattle.mt_fault_terms.specs.Parts.{Parts, miscounted, withdrawal_by_kind, withdraw_parts, parts_by_kind, parts_of, applicants_among, entries_among, all_own_ids, all_applicants, all_entries}
use Rattle.mt_fault_terms.specs.OfRecord.{id_among, passes, limit_faults}
use Rattle.mt_fault_laws.proofs.Codes.{limit_fault}

-- what is so of the two faults of a form is so of a form's faults
module _ (P : FieldFault → Type 0) (kind_too : (n : ℕ) → P (fault_alone UNKNOWN_KIND n)) (count_too : P (fault_alone FIELD_COUNT 0)) where
  one : (f : FieldFault) → P f → All P (f ∷ [])
  one f h = All-cons P f [] h (All-nil P)

  miscounted_too : (b : Bool) → All P (miscounted b)
  miscounted_too true = one (fault_alone FIELD_COUNT 0) count_too
  miscounted_too false = All-nil P

  by_kind_too : (kind : Option Kind) (fields : List Placed) → All P (parts_by_kind kind fields).faults
  by_kind_too (Some OfProgram) fields = miscounted_too _
  by_kind_too (Some OfApplicant) fields = miscounted_too _
  by_kind_too (Some OfCouple) fields = miscounted_too _
  by_kind_too None fields = one (fault_alone UNKNOWN_KIND 1) (kind_too 1)

  withdrawal_too : (kind : Option Kind) (fields : List Placed) → All P (withdrawal_by_kind kind fields).faults
  withdrawal_too None fields = one (fault_alone UNKNOWN_KIND 2) (kind_too 2)
  withdrawal_too (Some kind) fields = miscounted_too _

  withdraw_too : (fields : List Placed) → All P (withdraw_parts fields).faults
  withdraw_too [] = one (fault_alone FIELD_COUNT 0) count_too
  withdraw_too (word ∷ fields) = withdrawal_too (kind_of word.1) fields

  pub form_too : (rules : Rules) (fields : List Bytes) → All P (parts_of rules fields).faults
  form_too rules [] = one (fault_alone UNKNOWN_KIND 1) (kind_too 1)
  form_too rules (word ∷ fields) = by (rules.withdrawals && bytes_eq word (codes "withdraw"))
    where
      by : (b : Bool) → All P (if b then withdraw_parts (placed_from 2 fields) else parts_by_kind (kind_of word) (placed_from 2 fields)).faults
      by true = withdraw_too (placed_from 2 fields)
      by false = by_kind_too (kind_of word) (placed_from 2 fields)

-- faults of one code
abbrev pub OfCode : ℕ → FieldFault → Type 0
OfCode code fault = fault.code ≡ code

module _ (rules : Rules) where
  if_code : (code : ℕ) (b : Bool) (fault : FieldFault) → fault.code ≡ code → All (OfCode code) (if b then fault ∷ [] else [])
  if_code code true fault h = All-cons (OfCode code) fault [] h (All-nil (OfCode code))
  if_code code false fault h = All-nil (OfCode code)

  pub limit_code : (before : List Parts) (parts : Parts) → All (OfCode TOO_MANY) (limit_faults rules before parts)
  limit_code before parts =
      All-append (OfCode TOO_MANY) (one ++ two ++ three) four
      (All-append (OfCode TOO_MANY) (one ++ two) three
      (All-append (OfCode TOO_MANY) one two
      (all_of rules.limits.applicants (length (all_applicants rules before)) (length (applicants_among rules parts)))
      (all_of rules.limits.programs (length (all_own_ids rules OfProgram before)) (length (all_own_ids rules OfProgram (parts ∷ [])))))
      (all_of rules.limits.couples (length (all_own_ids rules OfCouple before)) (length (all_own_ids rules OfCouple (parts ∷ [])))))
      (all_of rules.limits.entries (all_entries before) (entries_among parts))
    where
      all_of : (limit was more : ℕ) → All (OfCode TOO_MANY) (limit_fault rules parts limit was more)
      all_of limit was more = if_code TOO_MANY (passes limit was more) (record { code = TOO_MANY; field = 0; id = id_among rules parts.names }) refl

      one : List FieldFault
      one = limit_fault rules parts rules.limits.applicants (length (all_applicants rules before)) (length (applicants_among rules parts))

      two : List FieldFault
      two = limit_fault rules parts rules.limits.programs (length (all_own_ids rules OfProgram before)) (length (all_own_ids rules OfProgram (parts ∷ [])))

      three : List FieldFault
      three = limit_fault rules parts rules.limits.couples (length (all_own_ids rules OfCouple before)) (length (all_own_ids rules OfCouple (parts ∷ [])))

      four : List FieldFault
      four = limit_fault rules parts rules.limits.entries (all_entries before) (entries_among parts)
