use Rattle.std.proofs.Common.{◌≡◌, map}
use Rattle.mt_terms.specs.Lists.{below}
use Rattle.mt_terms.specs.Floor.{place_on}
use Rattle.mt_core.specs.Floors.{floor_of}
use Rattle.mt_core.proofs.end.result.Given as goal

abbrev pub invariant-loop-applicant : goal.invariant-loop-applicant
invariant-loop-applicant l = l.places.items ≡ map (place_on l.ranks.market (floor_of l.ranks.market l.floor)) (below l.applicant)
