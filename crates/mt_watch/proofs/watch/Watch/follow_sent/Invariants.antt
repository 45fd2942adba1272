use Rattle.std.proofs.Common.{◌≡◌, map, take}
use Rattle.mt_watch.specs.Watching.{CountsAll, FollowsAll}
use Rattle.mt_watch.proofs.watch.Watch.follow_sent.Given as goal

abbrev pub invariant-loop-seat : goal.invariant-loop-seat
invariant-loop-seat l = record {
  couples : l.self.couples ≡ l.initial.self.couples;
  singles : FollowsAll l.assignment l.initial.self.singles l.self.singles (map (λ s. s.0) (take l.seat-index l.sent));
  better : CountsAll l.assignment l.initial.self l.self (map (λ s. s.0) (take l.seat-index l.sent));
}
