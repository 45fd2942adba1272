use Rattle.std.proofs.Common.{[]}
use Rattle.mt_fault_terms.specs.OfRecord.{repeats_after}
use Rattle.mt_fault_sink.specs.Telling.{at_record}
use Rattle.mt_faults.specs.Seen.{placed_left}
use Rattle.mt_faults.proofs.SearchFacts.{Repeats}
use Rattle.mt_faults.proofs.repeats.tell_repeats.Given as goal

-- the faults of the entries that have yet to come are left
abbrev pub invariant-loop-field : goal.invariant-loop-field
invariant-loop-field g l =
    Repeats g.S.FaultSink.takes g.S.FaultSink.told g.S.FaultSink.stopped l.fn.sink l.sink l.number l.rules l.entries (placed_left l.field-iterator)
    (at_record l.number (repeats_after l.rules [] (placed_left l.fn.list)))
