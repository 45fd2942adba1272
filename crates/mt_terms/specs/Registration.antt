-- The market of a file of records, or the file's first fault. (This project's own format.)
pub mod Ids
pub mod Faults
pub mod Records
pub mod Rows
pub mod Passes
pub mod Numbering
pub mod Accepted
use Rattle.std.specs.Prelude.{ℕ, List, [], ◌∷◌, map, Option, Some, None, Result, Ok, Err}
use Rattle.std.specs.Option.{option_map_or}
use Rattle.mt_terms.specs.Registration.Ids.{Bytes}
use Rattle.mt_terms.specs.Registration.Faults.{Fault, record_fault_alone, fault_at}
use Rattle.mt_terms.specs.declared.codes.TheConstants.{NO_VERSION}
use Rattle.mt_terms.specs.Registration.Records.{Rules, Record, rules_of}
use Rattle.mt_terms.specs.Registration.Passes.{Numbered, numbered_from, first_pass, second_pass, contents, and_then, unless}
use Rattle.mt_terms.specs.Registration.Numbering.{registered}
use Rattle.mt_terms.specs.Market.{Registered}

-- the market of the records after the first, by the rules of a version: the first pass, and then the market unless the
-- second pass finds a fault
abbrev pub market_under : Rules → List (Numbered (List Bytes)) → Result Registered Fault
market_under rules rows = and_then (first_pass rules [] rows) (λ records. unless (second_pass records) (registered (contents records)))

-- the same of all the records that have a field: the first of them names the version
abbrev pub market_of_numbered : List (Numbered (List Bytes)) → Result Registered Fault
market_of_numbered [] = Err (fault_at 0 (record_fault_alone NO_VERSION))
market_of_numbered (row ∷ rows) = option_map_or (λ rules. market_under rules rows) (rules_of row.1) (Err (fault_at row.0 (record_fault_alone NO_VERSION)))

-- the market of a file of records, or its first fault. A record is a list of fields without its trailing empty
-- ones. Records are counted from 1, and one without a field is passed over
abbrev pub market_of : List (List Bytes) → Result Registered Fault
market_of rows = market_of_numbered (numbered_from 1 rows)
