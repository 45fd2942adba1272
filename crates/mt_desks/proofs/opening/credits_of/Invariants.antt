use Rattle.std.proofs.Common.{◌≡◌}
use Rattle.mt_desks.proofs.Openings.{live_counts}
use Rattle.mt_desks.proofs.opening.credits_of.Given as goal

abbrev pub invariant-loop-applicant : goal.invariant-loop-applicant
invariant-loop-applicant l = l.credits.items ≡ live_counts l.ranks.market l.applicant
