use Rattle.std.proofs.Common.{◌≡◌, ◌∙◌, ◌-◌, ℕ, List, arith, ap, ap₂, length, map}
use Rattle.std.specs.Prelude.{slice_index}
use Rattle.mt_terms.specs.Lists.{below, total_below}
use Rattle.mt_terms.specs.Matching.{Places, filled}
use Rattle.mt_terms.specs.Text.{all_filled, unmatched}
use Rattle.mt_terms.proofs.BelowFacts.{length-map_below, map_below_at}
use Rattle.mt_terms.proofs.Totals.{total_below-same}
use Rattle.mt_first_finding.proofs.counts.Tally.of.Goals as goal

pub filled_total-requires : goal.filled_total-requires
filled_total-requires c =
    omega (
      arith,
      ap length c.deref.ensures.value,
      ap length c.in_ok-at_programs.ensures,
      length-map_below (filled c.as_slice-places.result.now) c.programs.result,
      c.programs.ensures.count,
      c.programs.ensures.registration.few_programs,
    )

pub invariant_of-result : goal.invariant_of-result
invariant_of-result c =
    let m = c.args.roster.now.market in
    let places = c.args.matched.now.places in
    let n = length m.programs in
    let counts = map (filled places) (below n) in
    let at : c.in_ok-at_programs.at_programs.items ≡ counts =
    c.in_ok-at_programs.ensures ∙ ap₂ (λ (ps : Places) (k : ℕ). map (filled ps) (below k)) c.as_slice-places.ensures c.programs.ensures.count in
    let total : c.filled_total.result ≡ all_filled m places =
    c.filled_total.ensures ∙ ap (λ (xs : List ℕ). total_below (slice_index xs) (length xs)) (c.deref.ensures.value ∙ at)
    ∙ ap (total_below (slice_index counts)) (length-map_below (filled places) n)
    ∙ total_below-same (slice_index counts) (filled places) n (λ p h. map_below_at (filled places) n p 0 h) in
    record {
      of_a_file = c.programs.ensures.registration;
      are_at_programs = at;
      are_unplaced = c.unmatched_count.ensures ∙ ap unmatched c.as_slice-places.ensures;
      are_posts = c.position_count-posts.ensures;
      are_free = c.saturating_sub-free.ensures ∙ ap₂ (λ (a b : ℕ). a - b) c.position_count-posts.ensures total;
    }
