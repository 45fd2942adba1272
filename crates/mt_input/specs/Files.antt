-- What the bytes of a file are, by their records. This project's own format.
use Rattle.std.specs.Prelude.{◌≡◌, ℕ, nat_lt, List, length, Option, Some, None, Result, Ok, Err, if◌then◌else◌}
use Rattle.mt_lists.specs.Records.{records_of}
use Rattle.mt_terms.specs.Market.{Registered}
use Rattle.mt_terms.specs.Registration.{market_of}
use Rattle.mt_terms.specs.Registration.Faults.{Fault, record_fault_alone, fault_at}
use Rattle.mt_terms.specs.Registration.Ids.{Bytes}
use Rattle.mt_terms.specs.declared.codes.TheConstants.{TOO_LARGE, TWO_MARKS}
use Rattle.mt_terms.specs.declared.limits.TheConstants.{LIMITS_2}

-- how many bytes a file may have: this project's own rule
abbrev pub most_bytes : ℕ
most_bytes = LIMITS_2.bytes

-- what the records of a file are, or the fault that it begins with two marks
abbrev pub by_records : {X : Type 0} → (List (List Bytes) → Result X Fault) → Option (List (List Bytes)) → Result X Fault
by_records of_rows None = Err (fault_at 0 (record_fault_alone TWO_MARKS))
by_records of_rows (Some rows) = of_rows rows

-- What the bytes of a file are by their records, or its first fault. That there are too many bytes comes first.
abbrev pub of_bytes : {X : Type 0} → (List (List Bytes) → Result X Fault) → List ℕ → Result X Fault
of_bytes of_rows bytes =
    if nat_lt most_bytes (length bytes) then Err (fault_at 0 (record_fault_alone TOO_LARGE))
    else by_records of_rows (records_of bytes)

-- the market in the bytes of a file, or the file's first fault
abbrev pub market_in : List ℕ → Result Registered Fault
market_in bytes = of_bytes market_of bytes

-- the bytes are a file with this market
abbrev pub IsMarketOf : List ℕ → Registered → Type 0
IsMarketOf bytes r = market_in bytes ≡ Ok r
