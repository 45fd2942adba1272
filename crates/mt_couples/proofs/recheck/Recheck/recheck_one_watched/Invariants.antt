use Rattle.std.proofs.Common.{◌≡◌, ◌∷◌, ◌-◌, ◌≤◌, [], true, drop, filter, length}
use Rattle.mt_terms.specs.Rounds.{is_on}
use Rattle.mt_terms.specs.declared.numbers.Agent.{Agent}
use Rattle.mt_rounds.specs.Waiting.{agents_of, blockers}
use Rattle.mt_rounds.proofs.QuietFacts.{blocking, IsLooking}
use Rattle.mt_couples.proofs.recheck.Recheck.recheck_one_watched.Given as goal

abbrev pub invariant-loop-rank : goal.invariant-loop-rank
invariant-loop-rank g l = record {
  looking : IsLooking l.fn.self.last l.fn.self.assignment.now (l.program ∷ []) l.initial.waiting l.waiting
      (filter (blocking l.fn.self.last l.fn.self.assignment.now) (agents_of l.fn.self.assignment.now (drop l.next l.ranking))) (blockers l.fn.self.assignment.now l.fn.self.last l.program);
  grows : (g : Agent) → is_on l.initial.waiting.agents g ≡ true → is_on l.waiting.agents g ≡ true;
  next_in : l.next ≤ length l.ranking;
}

abbrev pub decreases-loop-rank : goal.decreases-loop-rank
decreases-loop-rank g l = length l.ranking - l.next
