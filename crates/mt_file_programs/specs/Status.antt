-- How a program ends whose words can't be read.
use Rattle.std.specs.Prelude.{ℕ}
use Rattle.mt_program.specs.Unasked.{IsMisuseWith, IsStatusFor, not_utf8}
use Rattle.mt_program.specs.declared.unasked.Unasked.{Unasked}

-- the status of words that can't be read: that of misuse, or of want of memory
abbrev pub IsUnreadable : ℕ → Type 0
IsUnreadable status = (unasked : Unasked) × IsMisuseWith not_utf8 unasked × IsStatusFor unasked status
