use Rattle.std.proofs.Common.{ℕ, List, append_assoc}
use Rattle.std.specs.List.{flat_map}
use Rattle.mt_terms.specs.Lists.{below}
use Rattle.mt_terms.proofs.BelowFacts.{flat_map-below_more}
use Rattle.mt_statistics_text.specs.Text.{counted_line}
use Rattle.mt_statistics_text.proofs.line.push_counts.Goals as goal

pub loop-at-preserved : goal.loop-at-preserved
loop-at-preserved c =
    let lines : ℕ → List ℕ = counted_line c.args.word.now c.args.counts.now in
    rw (flat_map-below_more lines c.loop-at.at, c.in_ok-push_line.ensures.ok, c.loop-at.invariant, c.from-count.ensures)
    (append_assoc c.args.text.now.items (flat_map lines (below c.loop-at.at)) (lines c.loop-at.at))
