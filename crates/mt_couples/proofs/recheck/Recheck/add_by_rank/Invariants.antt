use Rattle.std.proofs.Common.{◌≡◌, ◌-◌, ◌<◌, ℕ, true, length}
use Rattle.mt_bits.specs.Members.{is_in}
use Rattle.mt_rounds.specs.Looking.{Adds}
use Rattle.mt_rounds.proofs.LookFacts.{IsFoundAt}
use Rattle.mt_couples.proofs.recheck.Recheck.add_by_rank.Given as goal

abbrev pub invariant-loop-rank : goal.invariant-loop-rank
invariant-loop-rank l = record {
  adds : Adds l.fn.self.assignment.now.market l.initial.found.items l.found.items;
  singles : (r : ℕ) → is_in l.ranks r ≡ true → r < l.next → IsFoundAt l.fn.self.assignment.now l.program l.found.items r;
}

abbrev pub decreases-loop-rank : goal.decreases-loop-rank
decreases-loop-rank l = length l.ranking - l.next
