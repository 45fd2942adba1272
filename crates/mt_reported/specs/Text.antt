-- The line of a refusal of one of the two files of a report.
use Rattle.std.specs.Prelude.{ℕ, codes}
use Rattle.mt_terms.specs.Registration.Ids.{Bytes}
use Rattle.mt_files.specs.Text as files
use Rattle.mt_files.specs.declared.source.Source.{Source}

-- the one line of a refusal
abbrev pub refused_line : Source → ℕ → ℕ → Bytes → Bytes
refused_line = files.refused_line (codes "report")
