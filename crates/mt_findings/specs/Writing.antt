-- What became of the lines of some findings on their way to a writer.
use Rattle.std.specs.Prelude.{◌≡◌, ℕ, ◌+◌, ◌<◌, Bool, List, [], ◌∷◌, length, Option, if◌then◌else◌}
use Rattle.mt_terms.specs.Market.{Registered}
use Rattle.mt_report.specs.Drains.{contents_of, failures_of}
use Rattle.mt_report.specs.declared.drain.Drain.{Drain}
use Rattle.mt_first_finding.specs.declared.finding.Finding.{Finding}
use Rattle.mt_pages.specs.Sending.{Breaks, Sends}
use Rattle.mt_findings.specs.Text.{finding_lines}
use Rattle.mt_findings.specs.declared.lines.FindingLines.{FindingLines}

-- a finding if it is so, and else none
abbrev pub if_so : Bool → Finding → List Finding
if_so is_so finding = if is_so then finding ∷ [] else []

-- The lines of these findings came after those before, and were counted. The last of them may still be on the page.
pub record Wrote {W : Type 0} (contents : W → Option (List ℕ)) (r : Registered) (old new : Drain W) (before after : FindingLines) (found : List Finding) : Type 0 where
  pub sends : Sends (contents_of contents old) (contents_of contents new) before.page after.page (finding_lines r found)
  pub counted : after.count ≡ before.count + length found
  pub none_failed : failures_of new ≡ failures_of old

-- The writer failed within the lines of these findings, which aren't none. At least one was counted.
pub record Failed {W : Type 0} (contents : W → Option (List ℕ)) (r : Registered) (old new : Drain W) (before after : FindingLines) (found : List Finding) : Type 0 where
  pub breaks : Breaks (contents_of contents old) (contents_of contents new) before.page (finding_lines r found)
  pub some : 0 < length found
  pub counted : 0 < after.count
  pub one_failed : failures_of new ≡ failures_of old + 1
