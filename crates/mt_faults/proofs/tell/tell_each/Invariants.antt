use Rattle.std.specs.Prelude.{flat_map}
use Rattle.mt_fault_sink.specs.Telling.{at_record}
use Rattle.mt_fault_sink.proofs.TellingFacts.{SoFar}
use Rattle.mt_faults.specs.Seen.{placed_left, tested}
use Rattle.mt_faults.proofs.tell.tell_each.Given as goal

-- the faults of the fields that have yet to come are left
abbrev pub invariant-loop-field : goal.invariant-loop-field
invariant-loop-field g l =
    SoFar g.S.FaultSink.takes g.S.FaultSink.told g.S.FaultSink.stopped l.fn.sink l.sink
    (at_record l.number (flat_map (tested l.test.wrong l.rules) (placed_left l.field-iterator)))
    (at_record l.number (flat_map (tested l.test.wrong l.rules) (placed_left l.fn.test.fields)))
