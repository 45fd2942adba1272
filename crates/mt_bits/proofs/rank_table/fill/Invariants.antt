use Rattle.std.proofs.Common.{◌-◌, ◌+◌, length}
use Rattle.mt_bits.specs.Tables.{words_of, AreFew, HaveSameFlags}
use Rattle.mt_bits.proofs.rank_table.fill.Given as goal

abbrev pub invariant-loop-rows : goal.invariant-loop-rows
invariant-loop-rows l = record {
  few : AreFew l.rows;
  same : HaveSameFlags l.initial.rows l.rows;
}

abbrev pub decreases-loop-rows : goal.decreases-loop-rows
decreases-loop-rows l = l.place + 1 - length (words_of l.rows l.list)
