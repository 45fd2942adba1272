use Rattle.mt_ranks.proofs.ListedFacts.{AreCounted}
use Rattle.mt_ranks.proofs.transpose.count_listed.Given as goal

abbrev pub invariant-loop-applicant : goal.invariant-loop-applicant
invariant-loop-applicant l = AreCounted l.counts l.initial.counts l.ranking l.applicant-index
