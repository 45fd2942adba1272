use Rattle.std.proofs.Common.{◌≡◌, take, true}
use Rattle.std.specs.List.{list_all}
use Rattle.mt_terms.specs.Matching.{send}
use Rattle.mt_terms.specs.Stability.{is_chosen}
use Rattle.mt_assignment.proofs.assignment.Assignment.would_be_taken.Given as goal

abbrev pub invariant-loop-applicant : goal.invariant-loop-applicant
invariant-loop-applicant l = list_all (λ s. is_chosen l.self.market (send l.sent l.self.places) s.0 s.1) (take l.applicant-index l.sent) ≡ true
