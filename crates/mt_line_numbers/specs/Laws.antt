-- What holds of the places where the records of a text begin.
use Rattle.std.specs.Prelude.{◌≡◌, ℕ, false, List, ◌++◌, take, drop}
use Rattle.csv.specs.Reading.{default_config, records}
use Rattle.mt_line_numbers.specs.LineEnds.{begins_with_line_end}
use Rattle.mt_line_numbers.specs.Records.{after_records, first_records}

-- A text splits where the record after the first n begins. Its first n records come before that place, and the others after it.
-- No line end comes there.
pub record SplitsAtRecord (text : List ℕ) (n : ℕ) : Type 0 where
  pub whole : text ≡ first_records n text ++ after_records n text
  pub before : records default_config (first_records n text) ≡ take n (records default_config text)
  pub after : records default_config (after_records n text) ≡ drop n (records default_config text)
  pub begins : begins_with_line_end (after_records n text) ≡ false

abbrev pub EachTextSplits : Type 0
EachTextSplits = (text : List ℕ) (n : ℕ) → SplitsAtRecord text n
