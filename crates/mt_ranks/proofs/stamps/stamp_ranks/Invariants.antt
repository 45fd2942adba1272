use Rattle.std.proofs.Common.{◌≡◌, length}
use Rattle.mt_ranks.specs.Stamps.{AreShort}
use Rattle.mt_ranks.proofs.StampFacts.{AreStamped}
use Rattle.mt_ranks.proofs.stamps.stamp_ranks.Given as goal

abbrev pub invariant-loop-entry : goal.invariant-loop-entry
invariant-loop-entry l = record {
  len : length l.stamps ≡ length l.initial.stamps;
  short : AreShort l.stamps;
  noted : AreStamped l.stamps l.turn l.entries l.entry-index;
}
