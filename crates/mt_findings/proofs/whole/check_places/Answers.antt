use Rattle.std.proofs.Common.{◌<◌, ◌^◌, length, subst, sym}
use Rattle.mt_terms.specs.Market.{Registered}
use Rattle.mt_findings.specs.Findings.{findings}
use Rattle.mt_findings.proofs.SizeFacts.{few_findings}
use Rattle.mt_findings.proofs.whole.check_places.Goals as goal

pub write_all-requires-clause-few : goal.write_all-requires-clause-few
write_all-requires-clause-few g c =
    let files = c.args.files.now in
    subst (λ (r : Registered). length (findings r.market files.submitted) < 2 ^ 64) (sym c.in_ok-tables.ensures.registered)
    (few_findings files.roster c.is_of_a_file.ensures files.submitted c.has_few_counts.ensures)
