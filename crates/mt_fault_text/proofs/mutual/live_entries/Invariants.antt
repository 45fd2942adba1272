use Rattle.std.proofs.Common.{◌≡◌, length}
use Rattle.mt_terms.specs.Lists.{total_below}
use Rattle.mt_terms.specs.Market.{live}
use Rattle.mt_fault_text.proofs.mutual.live_entries.Given as goal

-- those of the applicants so far
abbrev pub invariant-loop-number : goal.invariant-loop-number
invariant-loop-number l = l.count ≡ total_below (λ a. length (live l.ranks.market a)) l.number
