use Rattle.std.proofs.Common.{arith}
use Rattle.mt_lists.proofs.splitting.read_record.Goals as goal

pub returns-after-kind-clause-reads : goal.returns-after-kind-clause-reads
returns-after-kind-clause-reads c = grind arith

pub returns-in-Ok-clause-reads : goal.returns-in-Ok-clause-reads
returns-in-Ok-clause-reads c = grind arith
