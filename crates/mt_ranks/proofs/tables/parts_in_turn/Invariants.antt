use Rattle.mt_ranks.specs.Parts.{AreFirstParts}
use Rattle.mt_ranks.proofs.tables.parts_in_turn.Given as goal

abbrev pub invariant-loop-number : goal.invariant-loop-number
invariant-loop-number l = AreFirstParts l.fn.roster.market l.size l.number l.parts.items
