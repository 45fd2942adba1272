-- The exit status of a run or a check. This project's own table.
use Rattle.std.specs.Prelude.{ℕ, Bool, not, ◌==◌, nat_le, if◌then◌else◌}
use Rattle.mt_terms.specs.declared.codes.TheConstants.{BUDGET_SPENT, OUT_OF_MEMORY, READ_FAULT}
use Rattle.mt_report.specs.declared.ended.TheConstants.{SET_ASIDE}

-- The exit status: 0 for a published match or a stable one, 1 for a finding, and 2 for a refused file. A spent budget
-- gives 3, want of memory 4, a failed read or write 5, and a match with couples set aside 6. This project's own rule.
abbrev pub status_of : ℕ → Bool → ℕ
status_of code whole =
    if not whole then 5
    else if nat_le code 1 then code
    else if code == SET_ASIDE then 6
    else if code == OUT_OF_MEMORY then 4
    else if code == READ_FAULT then 5
    else if code == BUDGET_SPENT then 3
    else 2
