use Rattle.std.proofs.Common.{◌≡◌, length, take}
use Rattle.std.specs.List.{sum_by}
use Rattle.mt_terms.specs.Market.{Partners}
use Rattle.mt_fault_text.proofs.accepted.pairs.Given as goal

-- those so far
abbrev pub invariant-loop-number : goal.invariant-loop-number
invariant-loop-number l = l.count ≡ sum_by (λ c. length (Partners.pairs c)) (take l.number l.roster.market.couples)
