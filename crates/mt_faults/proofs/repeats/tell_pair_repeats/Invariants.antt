use Rattle.std.proofs.Common.{[]}
use Rattle.mt_fault_terms.specs.OfRecord.{pair_repeats_after}
use Rattle.mt_fault_sink.specs.Telling.{at_record}
use Rattle.mt_faults.specs.Seen.{pairs_left}
use Rattle.mt_faults.proofs.SearchFacts.{PairRepeats}
use Rattle.mt_faults.proofs.repeats.tell_pair_repeats.Given as goal

-- the faults of the pairs that have yet to come are left
abbrev pub invariant-loop-first : goal.invariant-loop-first
invariant-loop-first g l =
    PairRepeats g.S.FaultSink.takes g.S.FaultSink.told g.S.FaultSink.stopped l.fn.sink l.sink l.number l.rules l.entries (pairs_left l.first-iterator)
    (at_record l.number (pair_repeats_after l.rules [] (pairs_left l.fn.pairs)))
