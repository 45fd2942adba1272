use Rattle.std.proofs.Common.{arith}
use Rattle.mt_match_file.proofs.fields.four.Goals as goal

pub returns-in_err-fourth : goal.returns-in_err-fourth
returns-in_err-fourth c = grind arith
