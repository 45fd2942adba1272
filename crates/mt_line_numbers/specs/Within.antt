-- The states in which csv may be within a record.
use Rattle.csv.specs.declared.parser.State.{State}
use Rattle.csv.specs.declared.parser.State.TheVariants as st
use Rattle.mt_line_numbers.specs.declared.within.Within.{Within}
use Rattle.mt_line_numbers.specs.declared.within.Within.TheVariants as within

abbrev pub state_of : Within → State
state_of within.FieldStart = st.StartField
state_of within.Field = st.InField
state_of within.Quotes = st.InQuoted
state_of within.AfterQuote = st.AfterQuote
