use Rattle.mt_verify.proofs.BlockingFacts.{NoProgramYet}
use Rattle.mt_verify.proofs.EntryFacts.{AreLeft}
use Rattle.mt_verify.proofs.verifier.Verifier.first_program.Given as goal

abbrev pub invariant-loop-option : goal.invariant-loop-option
invariant-loop-option l = record {
  none : NoProgramYet l.self.roster.now.market l.self.matched.now.places l.fn.applicant l.option;
  left : AreLeft l.self.roster.now.market l.fn.applicant l.live l.next l.option;
}
