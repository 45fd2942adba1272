use Rattle.mt_terms.specs.Registration.Passes.{is_same_pair}
use Rattle.mt_records.specs.Fields.{pairs_left}
use Rattle.mt_passes.proofs.RepeatFacts.{SeesEach}
use Rattle.mt_passes.proofs.repeats.has_repeated_pair.Given as goal

abbrev pub invariant-loop-pair : goal.invariant-loop-pair
invariant-loop-pair l = SeesEach is_same_pair l.seen (pairs_left l.pair-iterator) (pairs_left l.fn.pairs)
