-- Where the records of a text begin, as the crate csv reads them, and on which lines. (This project's own rule.)
use Rattle.std.specs.Prelude.{ℕ, zero, suc, ◌+◌, ◌-◌, List, [], take, length, Option, Some, None}
use Rattle.csv.specs.declared.parser.State.TheVariants as st
use Rattle.csv.specs.Machine.{Read, next_record}
use Rattle.csv.specs.Reading.{default_config}
use Rattle.mt_line_numbers.specs.LineEnds.{line_ends, without_line_ends}

-- the text that a read leaves: nothing if there was no record
abbrev pub left_by : Option Read → List ℕ
left_by None = []
left_by (Some read) = read.2

-- what csv leaves of a text when it has read one record
abbrev pub after_record : List ℕ → List ℕ
after_record text = left_by (next_record default_config st.StartRecord [] [] text)

-- a text after its first n records, and after the line ends that come then
unfoldable pub after_records : ℕ → List ℕ → List ℕ
after_records zero text = without_line_ends text
after_records (suc n) text = without_line_ends (after_record (after_records n text))

-- a text up to there: its first n records, with the line ends around them
abbrev pub first_records : ℕ → List ℕ → List ℕ
first_records n text = take (length text - length (after_records n text)) text

-- The number of the line on which a record begins. Lines and records are counted from 1, so it is one more than there are line
-- ends before the record. The number is 0 if that of the record is, and a record too many would begin at the end of the text.
unfoldable pub line_of_record : List ℕ → ℕ → ℕ
line_of_record text zero = 0
line_of_record text (suc n) = line_ends (first_records n text) + 1
