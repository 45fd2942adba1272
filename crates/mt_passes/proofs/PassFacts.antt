-- What is known of a record that the first pass takes.
use Rattle.std.proofs.Common.{◌≡◌, ℕ, ◌+◌, ◌≤◌, false, nat_lt, List, [], ◌∷◌, ◌++◌, length, refl, ap, sym, ◌∙◌, Option, None, Some, Result, Ok, Err, arith}
use Rattle.std.proofs.lemmas.Bool.Decides.{nat_tests}
use Rattle.mt_record_laws.proofs.FirstPassFacts.{kept_parts}
use Rattle.mt_terms.specs.Registration.Ids.{Bytes}
use Rattle.mt_records.specs.declared.first_fault.FirstFault.{FirstFault}
use Rattle.mt_records.specs.declared.first_fault.FirstFault.TheVariants as refusals
use Rattle.mt_passes.specs.declared.register.Register.{Register}
use Rattle.mt_records.specs.Limits.{AreBounded}
use Rattle.mt_passes.specs.Registers.{withdraws_twice, AreFew, IsRegister}
use Rattle.mt_passes.specs.Passes.{Reads, ReadsRow, GivesRegister}
use Rattle.mt_records.specs.Refusals.{Refuses}
use Rattle.mt_terms.specs.Registration.Faults.{RecordFault, Fault, fault_at}
use Rattle.mt_terms.specs.Registration.Records.{Rules, Record, ProgramRecord, ApplicantRecord, CoupleRecord, WithdrawRecord, OfProgram, OfCouple, record_of}
use Rattle.mt_terms.specs.Registration.Rows.{ids_of, applicant_ids, entry_count}
use Rattle.mt_terms.specs.Registration.Passes.{registered_before, says_twice, are_too_many, first_conflict, first_pass, contents, unless, numbered_from, Numbered}
use Rattle.std.proofs.lemmas.Bool.{or_parts}

-- a record in no conflict with those before it
pub record IsAccepted (rules : Rules) (before : List Record) (r : Record) : Type 0 where
  pub new : registered_before before r ≡ None
  pub once : says_twice before r ≡ false
  pub few : are_too_many rules.limits (before ++ r ∷ []) ≡ false

pub is_accepted : (rules : Rules) (before : List Record) (r : Record) → first_conflict rules before r ≡ None → IsAccepted rules before r
is_accepted rules before r none =
    let t = kept_parts _ _ _ _ _ r r (ap (λ (o : Option RecordFault). unless {E = RecordFault} o r) none) in
    record { new = t.1; once = t.2; few = t.3 }

module _ (rules : Rules) (old : List (Numbered Record)) (n : ℕ) (fields : List Bytes) (rest : List (Numbered (List Bytes))) where
  -- the pass ends with a row that has a fault by itself, or whose record has one beside those before it
  pub ends_alone : (c : RecordFault) → record_of rules fields ≡ Err c → first_pass rules old ((n, fields) ∷ rest) ≡ Err (fault_at n c)
  ends_alone c is = rw is refl

  pub ends_beside : (r : Record) (c : RecordFault) → record_of rules fields ≡ Ok r → first_conflict rules (contents old) r ≡ Some c
      → first_pass rules old ((n, fields) ∷ rest) ≡ Err (fault_at n c)
  ends_beside r c is fault = rw (is, fault) refl

  -- and goes on with any other
  pub goes_on : (new : List (Numbered Record)) (r : Record) → record_of rules fields ≡ Ok r → first_conflict rules (contents old) r ≡ None
      → new ≡ old ++ (n, r) ∷ [] → first_pass rules old ((n, fields) ∷ rest) ≡ first_pass rules new rest
  goes_on new r is none more = rw (is, none, more) refl

not_above : (limit most n : ℕ) → limit ≤ most → nat_lt limit n ≡ false → n ≤ most
not_above limit most n h k = grind (arith, nat_tests)

-- what says nothing twice withdraws nothing twice
pub once_said : (before : List Record) (r : Record) → says_twice before r ≡ false → withdraws_twice before r ≡ false
once_said before (ProgramRecord id quota list) h = refl
once_said before (ApplicantRecord id list) h = refl
once_said before (CoupleRecord id a b pairs) h = refl
once_said before (WithdrawRecord kind id) h = h

-- the records with one with which they are not too many
pub few_more : (rules : Rules) (before : List Record) (r : Record) → AreBounded rules.limits → are_too_many rules.limits (before ++ r ∷ []) ≡ false → AreFew (before ++ r ∷ [])
few_more rules before r bound few =
    let p = or_parts _ (nat_lt rules.limits.entries (entry_count (before ++ r ∷ []))) few in
    let q = or_parts _ (nat_lt rules.limits.couples (length (ids_of OfCouple (before ++ r ∷ [])))) p.0 in
    let t = or_parts (nat_lt rules.limits.applicants (length (applicant_ids (before ++ r ∷ [])))) (nat_lt rules.limits.programs (length (ids_of OfProgram (before ++ r ∷ [])))) q.0 in
    record {
      programs = not_above _ _ _ bound.programs t.1;
      couples = not_above _ _ _ bound.couples q.1;
      applicants = not_above _ _ _ bound.applicants t.0;
      entries = not_above _ _ _ bound.entries p.1;
    }

-- a row is read, if it has a field
pub reads_row : {Y : Type 0} (rules : Rules) (old new : Register) (n : ℕ) (row : List Bytes) (result : Result Y FirstFault)
    → (length row ≡ 0 → ⊥) → Reads rules old new (n, row) result → ReadsRow rules old new n row result
reads_row rules old new n [] result some r = absurd (some refl)
reads_row rules old new n (word ∷ fields) (Ok y) some r = (r.0, λ rest. r.1 (numbered_from (n + 1) rest))
reads_row rules old new n (word ∷ fields) (Err (refusals.Fault f)) some r = λ rest. r (numbered_from (n + 1) rest)
reads_row rules old new n (word ∷ fields) (Err refusals.Memory) some r = λ rest. tt

-- and passed over, if it has none
pub skips_row : {Y : Type 0} (rules : Rules) (old : Register) (n : ℕ) (row : List Bytes) (y : Y) → length row ≡ 0 → IsRegister old → ReadsRow rules old old n row (Ok y)
skips_row rules old n [] y none r = (r, λ rest. refl)
skips_row rules old n (word ∷ fields) y none r = absurd (omega (arith, none))

-- the pass ends if a row is refused
pub pass_ends : (e : FirstFault) (here whole : Result (List (Numbered Record)) Fault) → Refuses e here → here ≡ whole → Refuses e whole
pass_ends (refusals.Fault f) here whole r h = sym h ∙ r
pass_ends refusals.Memory here whole r h = tt

pub refused : {Y : Type 0} (new : Register) (result : Result Y FirstFault) (e : FirstFault) (whole : Result (List (Numbered Record)) Fault) → result ≡ Err e → Refuses e whole
    → GivesRegister new result whole
refused new result e whole h r = rw h r
