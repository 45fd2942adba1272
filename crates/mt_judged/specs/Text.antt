-- The refusal line of a file that a match is judged by. This project's own format.
use Rattle.std.specs.Prelude.{ℕ, codes}
use Rattle.mt_terms.specs.Registration.Ids.{Bytes}
use Rattle.mt_files.specs.Text as files
use Rattle.mt_files.specs.declared.source.Source.{Source}

-- the one line of a refusal of a file
abbrev pub refused_line : Source → ℕ → ℕ → Bytes → Bytes
refused_line = files.refused_line (codes "check")
