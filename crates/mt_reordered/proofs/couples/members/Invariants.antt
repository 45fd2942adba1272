use Rattle.std.proofs.Common.{◌≡◌, map, take}
use Rattle.mt_reordered.specs.Copied.{members_at}
use Rattle.mt_reordered.proofs.couples.members.Given as goal

abbrev pub invariant-loop-couple : goal.invariant-loop-couple
invariant-loop-couple l = l.members.items ≡ map (members_at l.roster.market) (take l.couple-index l.order)
