use Rattle.std.proofs.Common.{◌-◌, ◌/◌, length}
use Rattle.mt_bits.proofs.BitFacts.{IsWordFrom}
use Rattle.mt_bits.proofs.rank_table.first_flag_from.Given as goal

abbrev pub invariant-loop-word : goal.invariant-loop-word
invariant-loop-word l = IsWordFrom l.words l.number l.start l.word

abbrev pub decreases-loop-word : goal.decreases-loop-word
decreases-loop-word l = length l.words - l.start / 64
