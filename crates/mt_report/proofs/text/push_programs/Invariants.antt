use Rattle.std.proofs.Common.{◌≡◌, ◌++◌}
use Rattle.std.specs.List.{flat_map}
use Rattle.mt_terms.specs.Lists.{below}
use Rattle.mt_terms.specs.Text.{program_line}
use Rattle.mt_report.proofs.text.push_programs.Given as goal

-- the lines of the programs so far
abbrev pub invariant-loop-number : goal.invariant-loop-number
invariant-loop-number l =
    l.text.items ≡ l.fn.text.items ++ flat_map (program_line l.roster.market l.roster.names l.matched.places l.received) (below l.number)
