use Rattle.std.proofs.Common.{◌&&◌, drop, filter}
use Rattle.mt_terms.specs.Stability.{blocks}
use Rattle.mt_terms.specs.Rounds.{has_entered}
use Rattle.mt_rounds.specs.Waiting.{agents_of, blockers}
use Rattle.mt_rounds.proofs.JoinFacts.{AreJoining}
use Rattle.mt_couples.proofs.recheck.Recheck.recheck_listed.Given as goal

abbrev pub invariant-loop-applicant : goal.invariant-loop-applicant
invariant-loop-applicant l =
    AreJoining l.initial.waiting l.waiting
    (filter (λ g. has_entered l.fn.self.last g && blocks l.fn.self.assignment.now.market l.fn.self.assignment.now.places g) (agents_of l.fn.self.assignment.now (drop l.applicant-index l.applicant-items)))
    (blockers l.fn.self.assignment.now l.fn.self.last l.fn.program)
