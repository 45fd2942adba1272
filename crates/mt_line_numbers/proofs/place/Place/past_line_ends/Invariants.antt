use Rattle.std.proofs.Common.{◌≡◌, ◌+◌, length}
use Rattle.mt_line_numbers.specs.LineEnds.{line_ends, without_line_ends}
use Rattle.mt_line_numbers.proofs.place.Place.past_line_ends.Given as goal

abbrev pub invariant-loop-byte : goal.invariant-loop-byte
invariant-loop-byte l = record {
  rest : without_line_ends l.place.rest.now ≡ without_line_ends l.fn.self.rest.now;
  lines : l.place.line + line_ends l.place.rest.now ≡ l.fn.self.line + line_ends l.fn.self.rest.now;
}

abbrev pub decreases-loop-byte : goal.decreases-loop-byte
decreases-loop-byte l = length l.place.rest.now
