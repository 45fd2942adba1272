use Rattle.std.proofs.Common.{ℕ, ◌<◌, IsFalse}
use Rattle.mt_terms.specs.Verdict.{is_over}
use Rattle.mt_verify.proofs.verifier.Verifier.first_over.Given as goal

abbrev pub invariant-loop-number : goal.invariant-loop-number
invariant-loop-number l = (p : ℕ) → p < l.number → IsFalse (is_over l.self.roster.now.market l.self.matched.now.places p)
