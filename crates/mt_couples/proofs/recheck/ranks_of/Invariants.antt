use Rattle.std.proofs.Common.{◌≡◌, ◌<◌, ℕ, Some, true, length, take}
use Rattle.mt_terms.specs.Lists.{has}
use Rattle.mt_terms.specs.Market.{program_of}
use Rattle.mt_ranks.specs.Ranked.{rank_of}
use Rattle.mt_couples.proofs.recheck.ranks_of.Given as goal

abbrev pub invariant-loop-applicant : goal.invariant-loop-applicant
invariant-loop-applicant l = record {
  within : (r : ℕ) → has l.ranks.items r ≡ true → r < length (program_of l.assignment.market l.program).ranking;
  all : (x : ℕ) → has (take l.applicant-index l.applicants) x ≡ true → (r : ℕ) → rank_of l.assignment.market l.program x ≡ Some r → has l.ranks.items r ≡ true;
}
