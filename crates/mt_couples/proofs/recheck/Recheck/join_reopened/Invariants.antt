use Rattle.std.proofs.Common.{◌≡◌, ◌<◌, ◌≤◌, ℕ, true, drop, filter, length, get_or}
use Rattle.mt_terms.specs.Rounds.{is_on}
use Rattle.mt_rounds.specs.Waiting.{agents_of, blockers}
use Rattle.mt_rounds.proofs.QuietFacts.{blocking, IsLooking}
use Rattle.mt_terms.specs.declared.numbers.Agent.{Agent}
use Rattle.mt_couples.proofs.recheck.Recheck.join_reopened.Given as goal

abbrev pub invariant-loop-rank : goal.invariant-loop-rank
invariant-loop-rank l = record {
  looking : IsLooking l.fn.self.last l.fn.self.assignment.now l.left l.initial.waiting l.waiting (filter (blocking l.fn.self.last l.fn.self.assignment.now) (agents_of l.fn.self.assignment.now (drop l.next l.ranking)))
      (blockers l.fn.self.assignment.now l.fn.self.last l.fn.program);
  grows : (g : Agent) → is_on l.initial.waiting.agents g ≡ true → is_on l.waiting.agents g ≡ true;
  passed : (i : ℕ) → i < l.rank-index → get_or l.ranks i 0 < l.next;
  next_in : l.next ≤ length l.ranking;
}
