use Rattle.std.proofs.Common.{◌≡◌, ◌++◌}
use Rattle.std.specs.List.{flat_map}
use Rattle.mt_terms.specs.Lists.{below}
use Rattle.mt_statistics_page.specs.Page.{open_row}
use Rattle.mt_statistics_page.proofs.page.push_open_rows.Given as goal

-- the rows so far
abbrev pub invariant-loop-number : goal.invariant-loop-number
invariant-loop-number l =
    l.text.items ≡ l.fn.text.items ++ flat_map (open_row l.statistics.registered l.statistics.places) (below l.number)
