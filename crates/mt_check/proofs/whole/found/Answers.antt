use Rattle.std.proofs.Common.{subst, sym}
use Rattle.mt_first_finding.specs.Findings.{IsThere}
use Rattle.mt_first_finding.specs.declared.finding.Finding.{Finding}
use Rattle.mt_first_finding.proofs.FindingFacts.{finding_there}
use Rattle.mt_check.proofs.whole.found.Goals as goal

pub finding_line-requires : goal.finding_line-requires
finding_line-requires g c =
    let m = c.args.roster.now.market in
    subst (λ (f : Finding). IsThere m f) (sym c.in_ok-finding.ensures)
    (finding_there m c.is_of_a_file.ensures.well_formed c.args.submitted.now c.requires.one_each)
