use Rattle.std.proofs.Common.{◌≡◌, ◌++◌, take}
use Rattle.mt_report.specs.Aside.{aside_lines}
use Rattle.mt_report.proofs.aside.push_couples.Given as goal

-- the lines of the couples so far
abbrev pub invariant-loop-couple : goal.invariant-loop-couple
invariant-loop-couple l = l.text.items ≡ l.fn.text.items ++ aside_lines l.roster.names (take l.couple-index l.aside)
