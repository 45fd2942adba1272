use Rattle.mt_verify.proofs.BlockingFacts.{NoProgramYet}
use Rattle.mt_verify.proofs.EntryFacts.{AreLeft}
use Rattle.mt_verify.proofs.verifier.Verifier.single_has_finding.Given as goal

abbrev pub invariant-loop-program : goal.invariant-loop-program
invariant-loop-program l = record {
  none : NoProgramYet l.self.roster.now.market l.self.matched.now.places l.fn.single l.program-index;
  left : AreLeft l.self.roster.now.market l.fn.single l.live l.next l.program-index;
}
