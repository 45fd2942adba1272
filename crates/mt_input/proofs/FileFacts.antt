-- What the bytes of a file are, their records are: by the two tests that come first. And how a fault of the bytes is one
-- of the records, or a fault that names no record.
use Rattle.std.proofs.Common.{◌≡◌, ℕ, ◌<◌, Bool, true, false, List, [], length, Option, None, Some, Result, Ok, Err, refl, sym, ap, subst, nat_lt, lt-ltb, if◌then◌else◌}
use Rattle.mt_lists.specs.Records.{records_of}
use Rattle.mt_terms.specs.Registration.Faults.{Fault, record_fault_alone, fault_at}
use Rattle.mt_terms.specs.Registration.Ids.{Bytes}
use Rattle.mt_input.specs.Files.{by_records, most_bytes, of_bytes}

module _ {X : Type 0} (of_rows : List (List Bytes) → Result X Fault) (bytes : List ℕ) where
  -- a value is that of the records
  pub rows_in : (x : X) → of_bytes of_rows bytes ≡ Ok x → (rows : List (List Bytes)) × (records_of bytes ≡ Some rows) × (of_rows rows ≡ Ok x)
  rows_in x h = by (nat_lt most_bytes (length bytes)) (records_of bytes) refl h
    where
      by : (b : Bool) (o : Option (List (List Bytes))) → records_of bytes ≡ o → (if b then Err (fault_at 0 (record_fault_alone 10)) else by_records of_rows o) ≡ Ok x
          → (rows : List (List Bytes)) × (records_of bytes ≡ Some rows) × (of_rows rows ≡ Ok x)
      by true o is k = cc
      by false None is k = cc
      by false (Some rows) is k = (rows, is, k)

  -- a fault is that of too many bytes, of two marks, or of the records
  pub fault_is : (P : Fault → Type 0) → P (fault_at 0 (record_fault_alone 10)) → P (fault_at 0 (record_fault_alone 11))
      → ((rows : List (List Bytes)) (f : Fault) → of_rows rows ≡ Err f → P f) → (f : Fault) → of_bytes of_rows bytes ≡ Err f → P f
  fault_is P large marks of_record f h = by (nat_lt most_bytes (length bytes)) (records_of bytes) h
    where
      by : (b : Bool) (o : Option (List (List Bytes))) → (if b then Err (fault_at 0 (record_fault_alone 10)) else by_records of_rows o) ≡ Err f → P f
      by true o k = let same : fault_at 0 (record_fault_alone 10) ≡ f = cc in subst P same large
      by false None k = let same : fault_at 0 (record_fault_alone 11) ≡ f = cc in subst P same marks
      by false (Some rows) k = of_record rows f k

  pub large_is : (f : Fault) → most_bytes < length bytes → fault_at 0 (record_fault_alone 10) ≡ f → of_bytes of_rows bytes ≡ Err f
  large_is f h is =
      let large : nat_lt most_bytes (length bytes) ≡ true = lt-ltb most_bytes (length bytes) h in
      rw large (ap Err is)
