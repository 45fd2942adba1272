use Rattle.mt_verify.proofs.BlockingFacts.{NoPairYet}
use Rattle.mt_verify.proofs.verifier.Verifier.first_pair.Given as goal

abbrev pub invariant-loop-option : goal.invariant-loop-option
invariant-loop-option l = NoPairYet l.self.roster.now.market l.self.matched.now.places l.fn.couple l.option
