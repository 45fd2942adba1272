use Rattle.std.proofs.Common.{◌∙◌, ℕ, List, arith, ap, length, map}
use Rattle.std.specs.Prelude.{slice_index}
use Rattle.mt_terms.specs.Lists.{below, total_below}
use Rattle.mt_terms.specs.Matching.{filled}
use Rattle.mt_terms.specs.Text.{all_filled}
use Rattle.mt_terms.proofs.BelowFacts.{length-map_below, map_below_at}
use Rattle.mt_terms.proofs.Totals.{total_below-same}
use Rattle.mt_verify.specs.Judged.{Judged}
use Rattle.mt_statistics.proofs.statistics.Statistics.filled_posts.Goals as goal

pub filled_total-requires : goal.filled_total-requires
filled_total-requires c =
    let s = c.self.inside in
    omega (
      arith,
      ap length c.deref.ensures.value,
      ap length c.self.invariant.filled,
      length-map_below (filled s.tables.places) (length s.tables.registered.market.programs),
      c.self.invariant.registration.few_programs,
    )

pub returns : goal.returns
returns c =
    let s = c.self.inside in
    let n = length s.tables.registered.market.programs in
    let at = filled s.tables.places in
    let counts = map at (below n) in
    c.filled_total.ensures ∙ ap (λ (xs : List ℕ). total_below (slice_index xs) (length xs)) (c.deref.ensures.value ∙ c.self.invariant.filled)
    ∙ ap (total_below (slice_index counts)) (length-map_below at n)
    ∙ total_below-same (slice_index counts) at n (λ p h. map_below_at at n p 0 h)
    ∙ ap (λ (d : Judged). all_filled d.registered.market d.places) c.self.view_is
