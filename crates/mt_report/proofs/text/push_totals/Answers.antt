use Rattle.std.proofs.Common.{◌≡◌, ◌∙◌, arith, ap, length, get_or}
use Rattle.std.specs.Prelude.{slice_index}
use Rattle.mt_terms.specs.Lists.{total_below}
use Rattle.mt_terms.specs.Matching.{filled}
use Rattle.mt_terms.specs.Text.{all_filled}
use Rattle.mt_terms.proofs.BelowFacts.{length-map_below, map_below_at}
use Rattle.mt_terms.proofs.Totals.{total_below-same}
use Rattle.mt_report.proofs.text.push_totals.Goals as goal

pub unmatched_count-unmatched-requires : goal.unmatched_count-unmatched-requires
unmatched_count-unmatched-requires c = omega (arith, ap length c.as_slice.ensures, c.requires.places.one_each, c.applicants-applicants.ensures.registration.few_applicants)

-- there is a count for each program
counted : (c : goal.After-push_numbers) → length c.args.counts.now ≡ length c.args.roster.now.market.programs
counted c = ap length c.requires.counts ∙ length-map_below (filled c.args.matched.now.places) (length c.args.roster.now.market.programs)

pub filled_total-requires : goal.filled_total-requires
filled_total-requires c =
    omega (arith, ap length c.requires.counts, length-map_below (filled c.args.matched.now.places) (length c.args.roster.now.market.programs), c.applicants-applicants.ensures.registration.few_programs)

pub returns : goal.returns
returns c =
    let total : c.filled_total.result ≡ all_filled c.args.roster.now.market c.args.matched.now.places =
    c.filled_total.ensures ∙ ap (total_below (slice_index c.args.counts.now)) (counted c)
    ∙ total_below-same (slice_index c.args.counts.now) (filled c.args.matched.now.places) (length c.args.roster.now.market.programs)
    (λ p h. ap (λ xs. get_or xs p 0) c.requires.counts ∙ map_below_at (filled c.args.matched.now.places) (length c.args.roster.now.market.programs) p 0 h) in
    record {
      ok = rw (c.applicants-applicants.ensures.count, c.unmatched_count-unmatched.ensures, c.as_slice.ensures, c.saturating_sub-unfilled.ensures, c.position_count-positions.ensures, total)
          at c.push_numbers.ensures.ok;
    }
