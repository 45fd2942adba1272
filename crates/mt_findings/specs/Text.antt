-- The lines of all findings. This project's own format.
use Rattle.std.specs.Prelude.{ℕ, zero, suc, List, [], ◌∷◌, ◌++◌, length, codes, decimal}
use Rattle.std.specs.List.{flat_map}
use Rattle.mt_terms.specs.Market.{Registered}
use Rattle.mt_terms.specs.Registration.Ids.{Bytes}
use Rattle.mt_first_finding.specs.Text.{check_line, finding_line, stable_line_with}
use Rattle.mt_first_finding.specs.declared.finding.Finding.{Finding}

-- the line of how many findings there are
abbrev pub number_line : ℕ → Bytes
number_line n = check_line (codes "findings" ∷ decimal n ∷ [])

-- the last line: how many findings there are, or that of a stable match which sets this number of couples aside
abbrev pub last_line : ℕ → ℕ → Bytes
last_line aside zero = stable_line_with aside
last_line aside (suc n) = number_line (suc n)

-- The lines of some findings. The number of couples that are set aside is in the line of a stable match alone, and so it
-- is 0 here.
abbrev pub finding_lines : Registered → List Finding → Bytes
finding_lines r found = flat_map (finding_line r 0) found

-- the text of all findings on a match that sets this number of couples aside: a line each, and the last line
abbrev pub findings_text : Registered → ℕ → List Finding → Bytes
findings_text r aside found = finding_lines r found ++ last_line aside (length found)
