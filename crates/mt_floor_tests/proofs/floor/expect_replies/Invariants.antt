use Rattle.mt_terms.specs.Floor.{IsRecorded}
use Rattle.mt_core.specs.Floors.{floor_of, IsOpenedWith}
use Rattle.mt_floor_tests.proofs.floor.expect_replies.Given as goal

abbrev pub invariant-loop-number : goal.invariant-loop-number
invariant-loop-number g l = record { opened : IsOpenedWith l.ranks.market l.floor; recorded : IsRecorded l.ranks.market (floor_of l.ranks.market l.floor) }
