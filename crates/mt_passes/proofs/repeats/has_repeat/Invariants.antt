use Rattle.std.specs.Prelude.{bytes_eq}
use Rattle.mt_lists.specs.Rows.{fields_left}
use Rattle.mt_passes.proofs.RepeatFacts.{SeesEach}
use Rattle.mt_passes.proofs.repeats.has_repeat.Given as goal

abbrev pub invariant-loop-id : goal.invariant-loop-id
invariant-loop-id l = SeesEach bytes_eq l.seen (fields_left l.id-iterator) (fields_left l.fn.list)
