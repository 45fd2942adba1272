use Rattle.std.proofs.Common.{◌≡◌, map}
use Rattle.mt_core.specs.Floors.{floor_of}
use Rattle.mt_terms.specs.Floor.{Floor}
use Rattle.mt_terms.specs.Lists.{below, count_below}
use Rattle.mt_terms.specs.Market.{applicants}
use Rattle.mt_crew.proofs.singles.all_received.Given as goal

-- the counts of the programs so far
abbrev pub invariant-loop-program : goal.invariant-loop-program
invariant-loop-program l = l.counts.items ≡ map (λ p. count_below (Floor.received (floor_of l.ranks.market l.floor) p) (applicants l.ranks.market)) (below l.program)
