use Rattle.std.proofs.Common.{drop}
use Rattle.mt_rounds.specs.Waiting.{blockers_of}
use Rattle.mt_rounds.proofs.JoinFacts.{AreJoining}
use Rattle.mt_couples.proofs.recheck.Recheck.recheck_every_listed.Given as goal

abbrev pub invariant-loop-program : goal.invariant-loop-program
invariant-loop-program l =
    AreJoining l.initial.waiting l.waiting (blockers_of l.fn.self.assignment.now l.fn.self.last (drop l.program-index l.left)) (blockers_of l.fn.self.assignment.now l.fn.self.last l.left)
