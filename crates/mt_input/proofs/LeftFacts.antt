-- What the bytes are that were read, the reader had left. If there were too many, some bytes are too many.
use Rattle.std.proofs.Common.{◌≡◌, ℕ, suc, ◌<◌, List, [], length, Option, None, Some, Result, Ok, Err, refl, sym, ap, ◌∙◌, arith}
use Rattle.std.specs.Prelude.{◌≢◌, IfErr, IfOk, IfSome, replicate}
use Rattle.std.proofs.lemmas.List.{length-replicate}
use Rattle.mt_terms.specs.Registration.Faults.{Fault, record_fault_alone, fault_at}
use Rattle.mt_terms.specs.Registration.Ids.{Bytes}
use Rattle.mt_terms.specs.declared.refusal.Refusal.{Refusal}
use Rattle.mt_input.specs.Files.{most_bytes, of_bytes}
use Rattle.mt_input.specs.Left.{AreRead, OfLeft}
use Rattle.mt_input.specs.Refusals.{CannotRead, IsRefusalIn, IsRefusalOf, fault_of}
use Rattle.mt_input.proofs.FileFacts.{large_is}

-- what is so of all bytes that one thing is so of, is so of what a reader had left
pub of_left : {P Q : List ℕ → Type 0} (left : Option (List ℕ)) → ((bytes : List ℕ) → P bytes → Q bytes) → OfLeft left P → OfLeft left Q
of_left left next h = record { bytes = h.bytes; are_left = h.are_left; is_so = next h.bytes h.is_so }

-- some bytes that a reader may have had left
pub some_left : (left : Option (List ℕ)) → (bytes : List ℕ) × IfSome left (λ xs. bytes ≡ xs)
some_left None = ([], tt)
some_left (Some bytes) = (bytes, refl)

-- there are more bytes than any number
longer : (n : ℕ) → (bytes : List ℕ) × (n < length bytes)
longer n = (replicate (suc n) 0, omega (arith, length-replicate {A = ℕ} (suc n) 0))

module _ {X : Type 0} (of_rows : List (List Bytes) → Result X Fault) where
  too_large : (left : Option (List ℕ)) (f : Fault) → fault_at 0 (record_fault_alone 10) ≡ f → IfSome left (λ bytes. most_bytes < length bytes)
      → OfLeft left (λ bytes. of_bytes of_rows bytes ≡ Err f)
  too_large (Some bytes) f is h = record { bytes = bytes; are_left = refl; is_so = large_is of_rows bytes f h is }
  too_large None f is h = let more = longer most_bytes in record { bytes = more.0; are_left = tt; is_so = large_is of_rows more.0 f more.1 is }

  pub cannot_read : (left : Option (List ℕ)) (e : Refusal) → CannotRead left e → IsRefusalOf left (of_bytes of_rows) e
  cannot_read left e h = record {
    read = λ is. (h.no_record, h.no_id);
    memory = λ is. (h.no_record, h.no_id);
    fault = λ m r.
        let t = h.too_large m r in
        let is : fault_at 0 (record_fault_alone 10) ≡ fault_of e = λ i. record { code = sym t.0 i; row = sym h.no_record i; id = sym h.no_id i } in
        too_large left (fault_of e) is t.1;
  }

module _ {X Y : Type 0} (left : Option (List ℕ)) (bytes read : List ℕ) (are : AreRead left bytes) (same : read ≡ bytes) (in_bytes : List ℕ → Result X Fault) where
  pub left_is : (value : Y → X) (result : Result Y Refusal) → IfOk result (λ y. in_bytes read ≡ Ok (value y))
      → IfOk result (λ y. OfLeft left (λ xs. in_bytes xs ≡ Ok (value y)))
  left_is value (Ok y) h = record { bytes = bytes; are_left = are.are_left; is_so = ap in_bytes (sym same) ∙ h }
  left_is value (Err e) h = tt

  pub left_refused : (result : Result Y Refusal) → IfErr result (IsRefusalIn (in_bytes read)) → IfErr result (IsRefusalOf left in_bytes)
  left_refused (Ok y) h = tt
  left_refused (Err e) h = record {
    read = λ is. absurd (h.reads_did is);
    memory = h.memory;
    fault = λ m r. record { bytes = bytes; are_left = are.are_left; is_so = ap in_bytes (sym same) ∙ h.fault m };
  }
