use Rattle.std.proofs.Common.{take}
use Rattle.mt_terms.specs.Lists.{has}
use Rattle.mt_fault_text.specs.Mutual.{sent_by}
use Rattle.mt_fault_text.specs.Wanted.{AreWanted}
use Rattle.mt_fault_text.proofs.mutual.wanted_programs.Given as goal

-- the programs of the pairs so far
abbrev pub invariant-loop-pair : goal.invariant-loop-pair
invariant-loop-pair l = AreWanted l.programs (has (sent_by l.is_first (take l.pair-index l.pairs))) l.wanted.items
