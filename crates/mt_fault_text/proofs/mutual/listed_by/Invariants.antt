use Rattle.std.proofs.Common.{◌≡◌, ◌≤◌, ◌&&◌}
use Rattle.mt_terms.specs.Lists.{count_below, has}
use Rattle.mt_terms.specs.Market.{program_of}
use Rattle.mt_fault_text.specs.Wanted.{set_of}
use Rattle.mt_fault_text.proofs.mutual.listed_by.Given as goal

-- how many so far
abbrev pub invariant-loop-number : goal.invariant-loop-number
invariant-loop-number l = record {
  so_far : l.count ≡ count_below (λ p. set_of l.wanted p && has (program_of l.ranks.market p).ranking l.member) l.number;
  small : l.count ≤ l.number;
}
