use Rattle.std.proofs.Common.{arith}
use Rattle.mt_lists.proofs.rows.RowsIterIterator.next.Goals as goal

pub returns-in_err-line-in-Lines-clause-goes : goal.returns-in_err-line-in-Lines-clause-goes
returns-in_err-line-in-Lines-clause-goes c = grind arith
