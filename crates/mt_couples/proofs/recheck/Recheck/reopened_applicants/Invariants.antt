use Rattle.std.proofs.Common.{◌≡◌, ◌∷◌, [], ℕ, true, take}
use Rattle.mt_terms.specs.Lists.{has}
use Rattle.mt_assignment.specs.Assigned.{AreApplicantsOf}
use Rattle.mt_watch.specs.Found.{Covers}
use Rattle.mt_couples.proofs.recheck.Recheck.reopened_applicants.Given as goal

abbrev pub invariant-loop-program : goal.invariant-loop-program
invariant-loop-program g l = record {
  within : AreApplicantsOf l.fn.self.assignment.now.market l.found.items;
  covers : (p : ℕ) → has (take l.program-index l.left) p ≡ true → Covers l.fn.self.last l.fn.self.assignment.now (p ∷ []) l.waiting.agents l.found.items;
}
