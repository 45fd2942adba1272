use Rattle.std.proofs.Common.{◌≡◌, ◌++◌}
use Rattle.std.specs.List.{flat_map}
use Rattle.mt_terms.specs.Lists.{below}
use Rattle.mt_statistics_text.specs.Text.{program_line}
use Rattle.mt_statistics_text.proofs.text.push_programs.Given as goal

-- the lines of the programs so far
abbrev pub invariant-loop-number : goal.invariant-loop-number
invariant-loop-number l =
    l.text.items ≡ l.fn.text.items ++ flat_map (program_line l.statistics.registered l.statistics.places) (below l.number)
