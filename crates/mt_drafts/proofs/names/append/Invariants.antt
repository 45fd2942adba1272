use Rattle.mt_drafts.proofs.names.append.Given as goal
use Rattle.std.proofs.Common.{◌≡◌, ◌++◌, take}

abbrev pub invariant-loop-number : goal.invariant-loop-number
invariant-loop-number l = l.ids ≡ l.fn.ids ++ take l.number l.others
