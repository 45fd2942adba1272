use Rattle.std.proofs.Common.{refl}
use Rattle.mt_lists.proofs.OnLiterals.{records_on_literals}
use Rattle.mt_lists.proofs.laws.worked_inputs.Goals as goal

pub returns : goal.returns
unfolding records_on_literals
returns c = record { spreadsheet = refl; second_mark = refl; doubled_quote = refl }
