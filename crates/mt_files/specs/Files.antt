-- What the bytes of two files are: a market and a match of its applicants, or a fault of one of the files. This
-- project's own format.
use Rattle.std.specs.Prelude.{ℕ, List, Result, Ok, Err}
use Rattle.mt_terms.specs.Market.{Registered}
use Rattle.mt_terms.specs.Registration.Faults.{Fault}
use Rattle.mt_match_file.specs.Submitted.{Submitted, submitted_by}
use Rattle.mt_input.specs.Files.{market_in, of_bytes}
use Rattle.mt_files.specs.declared.source.Source.{Source}
use Rattle.mt_files.specs.declared.source.Source.TheVariants.{Market, Match}

-- the match in the bytes of a file beside a market, or the file's first fault
abbrev pub submitted_in : Registered → List ℕ → Result Submitted Fault
submitted_in r bytes = of_bytes (submitted_by r) bytes

-- a market with its match, or the fault of the match
abbrev pub with_match : Registered → Result Submitted Fault → Result (Registered × Submitted) (Source × Fault)
with_match r (Ok s) = Ok (r, s)
with_match r (Err f) = Err (Match, f)

-- a market, or its fault, with the match in some bytes
abbrev pub files_by : Result Registered Fault → List ℕ → Result (Registered × Submitted) (Source × Fault)
files_by (Ok r) match_bytes = with_match r (submitted_in r match_bytes)
files_by (Err f) match_bytes = Err (Market, f)

-- The market and the match in the bytes of two files. If there is no market, its fault comes first.
abbrev pub files_in : List ℕ → List ℕ → Result (Registered × Submitted) (Source × Fault)
files_in market_bytes match_bytes = files_by (market_in market_bytes) match_bytes
