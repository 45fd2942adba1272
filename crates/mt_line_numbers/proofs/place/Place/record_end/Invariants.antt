use Rattle.std.proofs.Common.{◌≡◌, ◌+◌, length}
use Rattle.mt_line_numbers.specs.LineEnds.{line_ends}
use Rattle.mt_line_numbers.specs.Records.{after_record}
use Rattle.mt_line_numbers.specs.Within.{state_of}
use Rattle.mt_line_numbers.proofs.ScanFacts.{left_from}
use Rattle.mt_line_numbers.proofs.place.Place.record_end.Given as goal

abbrev pub invariant-loop-byte : goal.invariant-loop-byte
invariant-loop-byte l = record {
  rest : left_from (state_of l.within) l.here.rest.now ≡ after_record l.fn.self.rest.now;
  lines : l.here.line + line_ends l.here.rest.now ≡ l.fn.self.line + line_ends l.fn.self.rest.now;
}

abbrev pub decreases-loop-byte : goal.decreases-loop-byte
decreases-loop-byte l = length l.here.rest.now
