use Rattle.std.proofs.Common.{◌<◌, ℕ, get_or}
use Rattle.mt_rounds.specs.Looking.{Adds}
use Rattle.mt_rounds.proofs.LookFacts.{AreFound}
use Rattle.mt_couples.proofs.recheck.Recheck.add_reopened.Given as goal

abbrev pub invariant-loop-couple : goal.invariant-loop-couple
invariant-loop-couple g l = record {
  adds : Adds l.fn.self.assignment.now.market l.initial.found.items l.found.items;
  couples : (j : ℕ) → j < l.couple-index → AreFound l.fn.self.assignment.now l.found.items (get_or l.couple-items j 0);
}
