-- What a clause sees of the places where rows lie.
use Rattle.std.specs.Prelude.{ℕ, List}
use Rattle.mt_lists.specs.declared.row.RowSource.{RowSource}
use Rattle.mt_lists.specs.declared.row.RowSource.TheVariants as row
use Rattle.mt_lists.specs.declared.rows.RowsSource.{RowsSource}
use Rattle.mt_lists.specs.declared.rows.RowsSource.TheVariants as rows
use Rattle.mt_lists.specs.Lines.{fields_of_trimmed}
use Rattle.mt_lists.specs.Records.{rows_of}

-- the fields of a row
abbrev pub row_fields : RowSource → List (List ℕ)
row_fields (row.Line line) = fields_of_trimmed line.now
row_fields (row.Read read) = read.now

-- the rows of an input
abbrev pub all_rows : RowsSource → List (List (List ℕ))
all_rows (rows.Lines lines) = rows_of lines.text.now
all_rows (rows.Read read) = read.items
