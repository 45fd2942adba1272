use Rattle.std.proofs.Common.{◌≡◌, take}
use Rattle.mt_terms.specs.Lists.{count}
use Rattle.mt_terms.specs.Market.{program_of}
use Rattle.mt_round_laws.proofs.SentCounts.{comes, leaves}
use Rattle.mt_assignment.proofs.assignment.Assignment.movers_ahead.Given as goal

abbrev pub invariant-loop-seat : goal.invariant-loop-seat
invariant-loop-seat l = record {
  leaving : l.leaving ≡ count (leaves l.self.places l.program (take l.rank (program_of l.self.market l.program).ranking)) (take l.seat-index l.sent);
  coming : l.coming ≡ count (comes l.program (take l.rank (program_of l.self.market l.program).ranking)) (take l.seat-index l.sent);
}
