use Rattle.std.proofs.Common.{◌≡◌, true, drop}
use Rattle.mt_terms.specs.Rounds.{is_on}
use Rattle.mt_terms.specs.declared.numbers.Agent.{Agent}
use Rattle.mt_rounds.specs.Waiting.{blockers_of}
use Rattle.mt_rounds.proofs.QuietFacts.{IsLooking}
use Rattle.mt_couples.proofs.recheck.Recheck.recheck_several.Given as goal

abbrev pub invariant-loop-program : goal.invariant-loop-program
invariant-loop-program g l = record {
  looking : IsLooking l.fn.self.last l.fn.self.assignment.now l.left l.initial.waiting l.waiting (blockers_of l.fn.self.assignment.now l.fn.self.last (drop l.program-index l.left)) (blockers_of l.fn.self.assignment.now l.fn.self.last l.left);
  grows : (g : Agent) → is_on l.initial.waiting.agents g ≡ true → is_on l.waiting.agents g ≡ true;
}
