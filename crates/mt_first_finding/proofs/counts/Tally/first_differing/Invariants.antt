use Rattle.std.proofs.Common.{◌≡◌, drop}
use Rattle.mt_first_finding.specs.Findings.{first_differing_of}
use Rattle.mt_first_finding.specs.View.{market_of, places_of}
use Rattle.mt_first_finding.proofs.counts.Tally.first_differing.Given as goal

-- the records that are left decide
abbrev pub invariant-loop-counted : goal.invariant-loop-counted
invariant-loop-counted l =
    first_differing_of (market_of l.self) (places_of l.self) l.counts ≡ first_differing_of (market_of l.self) (places_of l.self) (drop l.counted-index l.counts)
