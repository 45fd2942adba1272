use Rattle.std.proofs.Common.{drop}
use Rattle.mt_rounds.specs.Waiting.{agents_of}
use Rattle.mt_rounds.proofs.JoinFacts.{AreJoining}
use Rattle.mt_couples.proofs.recheck.Recheck.join_moved.Given as goal

abbrev pub invariant-loop-applicant : goal.invariant-loop-applicant
invariant-loop-applicant l =
    AreJoining l.fn.waiting l.waiting (agents_of l.fn.self.assignment.now (drop l.applicant-index l.displaced)) (agents_of l.fn.self.assignment.now l.displaced)
