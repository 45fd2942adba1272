-- What an answer unfolds to compute the rows of a literal input.
use Rattle.std.specs.Prelude.{⊤}
use Rattle.csv.proofs.OnLiterals.{csv_on_literals}
use Rattle.mt_lists.specs.Records.{records_of, rows_of}

unfoldable pub records_on_literals : ⊤
unfolding csv_on_literals records_of rows_of
records_on_literals = tt
