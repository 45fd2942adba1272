use Rattle.std.specs.Prelude.{flat_map}
use Rattle.mt_terms.specs.declared.codes.TheConstants.{BAD_ID}
use Rattle.mt_fault_terms.specs.OfRecord.{alone_at, bad_of_pair}
use Rattle.mt_fault_sink.specs.Telling.{at_record}
use Rattle.mt_fault_sink.proofs.TellingFacts.{SoFar}
use Rattle.mt_faults.specs.Seen.{pairs_left}
use Rattle.mt_faults.proofs.tell.tell_bad_pairs.Given as goal

-- the faults of the pairs that have yet to come are left
abbrev pub invariant-loop-first : goal.invariant-loop-first
invariant-loop-first g l =
    SoFar g.S.FaultSink.takes g.S.FaultSink.told g.S.FaultSink.stopped l.fn.sink l.sink
    (at_record l.number (alone_at BAD_ID (flat_map (bad_of_pair l.rules) (pairs_left l.first-iterator))))
    (at_record l.number (alone_at BAD_ID (flat_map (bad_of_pair l.rules) (pairs_left l.fn.pairs))))
