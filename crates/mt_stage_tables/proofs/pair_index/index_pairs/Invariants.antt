use Rattle.mt_stage_tables.specs.Named.{IndexesPairs}
use Rattle.mt_stage_tables.proofs.pair_index.index_pairs.Given as goal

abbrev pub invariant-loop-index : goal.invariant-loop-index
invariant-loop-index l = IndexesPairs l.initial.rows l.rows l.couple l.pairs l.start l.index
