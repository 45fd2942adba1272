use Rattle.mt_hold.proofs.LastFlag.{IsWordBelow}
use Rattle.mt_hold.proofs.holding.last_flag_below.Given as goal

abbrev pub invariant-loop-word : goal.invariant-loop-word
invariant-loop-word l = IsWordBelow l.words l.end l.at l.word

abbrev pub decreases-loop-word : goal.decreases-loop-word
decreases-loop-word l = l.at
