use Rattle.std.proofs.Common.{refl}
use Rattle.csv.proofs.OnLiterals.{csv_on_literals}
use Rattle.mt_line_numbers.specs.LineEnds.{line_ends, without_line_ends}
use Rattle.mt_line_numbers.specs.Records.{after_records, line_of_record}
use Rattle.mt_line_numbers.proofs.laws.worked_lines.Goals as goal

pub returns : goal.returns
unfolding csv_on_literals line_ends without_line_ends after_records line_of_record
returns c = refl
