-- What a clause reads of the iterators over rows and fields.
use Rattle.std.specs.Prelude.{ℕ, List, [], drop, Option, None, Some}
use Rattle.std.specs.Borrow.{Bor}
use Rattle.mt_lists.specs.declared.lines.LineFields.{LineFields}
use Rattle.mt_lists.specs.declared.read_row.ReadFields.{ReadFields}
use Rattle.mt_lists.specs.declared.row.Fields.{Fields}
use Rattle.mt_lists.specs.declared.row.FieldsSource.{FieldsSource}
use Rattle.mt_lists.specs.declared.row.FieldsSource.TheVariants as fields
use Rattle.mt_lists.specs.declared.rows.RowsIter.{RowsIter}
use Rattle.mt_lists.specs.declared.rows.RowsRest.{RowsRest}
use Rattle.mt_lists.specs.declared.rows.RowsRest.TheVariants as rows
use Rattle.mt_lists.specs.Lines.{fields_of_line}
use Rattle.mt_lists.specs.Records.{rows_of}

-- the fields of what is left of a line
abbrev pub fields_in : Option (Bor (List ℕ)) → List (List ℕ)
fields_in None = []
fields_in (Some rest) = fields_of_line rest.now

-- the fields of a line that have yet to come
abbrev pub line_fields_left : LineFields → List (List ℕ)
line_fields_left fields = fields_in fields.rest

-- the fields of a record that have yet to come
abbrev pub read_fields_left : ReadFields → List (List ℕ)
read_fields_left fields = drop fields.at fields.row.now

-- the fields of either that have yet to come
abbrev pub fields_from : FieldsSource → List (List ℕ)
fields_from (fields.Line line) = line_fields_left line
fields_from (fields.Read read) = read_fields_left read

-- the fields of a row that have yet to come
abbrev pub fields_left : Fields → List (List ℕ)
fields_left fields = fields_from fields.source

-- the rows that are left of lines, or of those that were read
abbrev pub rows_from : RowsRest → List (List (List ℕ))
rows_from (rows.Lines lines) = rows_of lines.text.now
rows_from (rows.Read read) = read.now

-- the rows of an input that have yet to come
abbrev pub rows_left : RowsIter → List (List (List ℕ))
rows_left iter = rows_from iter.rest
