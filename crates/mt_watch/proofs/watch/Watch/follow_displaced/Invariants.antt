use Rattle.std.proofs.Common.{◌≡◌, take}
use Rattle.mt_watch.specs.Watching.{CountsAll, FollowsAll}
use Rattle.mt_watch.proofs.watch.Watch.follow_displaced.Given as goal

abbrev pub invariant-loop-applicant : goal.invariant-loop-applicant
invariant-loop-applicant l = record {
  couples : l.self.couples ≡ l.initial.self.couples;
  singles : FollowsAll l.assignment l.initial.self.singles l.self.singles (take l.applicant-index l.applicants);
  better : CountsAll l.assignment l.initial.self l.self (take l.applicant-index l.applicants);
}
