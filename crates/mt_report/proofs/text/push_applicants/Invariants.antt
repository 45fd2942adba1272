use Rattle.std.proofs.Common.{◌≡◌, ◌++◌}
use Rattle.std.specs.List.{flat_map}
use Rattle.mt_terms.specs.Lists.{below}
use Rattle.mt_terms.specs.Text.{applicant_line}
use Rattle.mt_report.proofs.text.push_applicants.Given as goal

-- the lines of the applicants so far
abbrev pub invariant-loop-number : goal.invariant-loop-number
invariant-loop-number l = l.text.items ≡ l.fn.text.items ++ flat_map (applicant_line l.roster.names l.matched.places) (below l.number)
