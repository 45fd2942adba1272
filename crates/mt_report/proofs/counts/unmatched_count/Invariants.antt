use Rattle.std.proofs.Common.{◌≡◌, take}
use Rattle.mt_terms.specs.Text.{unmatched}
use Rattle.mt_report.proofs.counts.unmatched_count.Given as goal

abbrev pub invariant-loop-place : goal.invariant-loop-place
invariant-loop-place l = l.count ≡ unmatched (take l.place-index l.places)
