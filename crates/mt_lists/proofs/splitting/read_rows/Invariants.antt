use Rattle.mt_lists.proofs.SplitFacts.{SplitSoFar, bytes_unread}
use Rattle.mt_lists.proofs.splitting.read_rows.Given as goal

abbrev pub invariant-loop-rows : goal.invariant-loop-rows
invariant-loop-rows l = SplitSoFar l.fn.text l.reader l.rows.items

abbrev pub decreases-loop-rows : goal.decreases-loop-rows
decreases-loop-rows l = bytes_unread l.reader
