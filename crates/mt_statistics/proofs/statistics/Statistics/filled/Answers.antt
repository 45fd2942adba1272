use Rattle.std.proofs.Common.{◌<◌, arith, ap, refl, sym, subst, ◌∙◌, length, get_or}
use Rattle.std.proofs.lemmas.List.{get_or_read_under}
use Rattle.mt_terms.specs.Matching.{filled}
use Rattle.mt_terms.proofs.BelowFacts.{length-map_below, map_below_at}
use Rattle.mt_verify.specs.Judged.{Judged}
use Rattle.mt_statistics.proofs.statistics.Statistics.filled.Goals as goal

pub index-requires-2 : goal.index-requires-2
index-requires-2 c =
    let s = c.self.inside in
    let within : c.args.program < length s.tables.registered.market.programs =
    subst (λ (d : Judged). c.args.program < length d.registered.market.programs) (sym c.self.view_is) c.requires in
    omega (
      arith,
      within,
      ap length c.self.invariant.filled,
      length-map_below (filled s.tables.places) (length s.tables.registered.market.programs),
      c.index.ensures,
      s.filled.ok,
    )

pub returns : goal.returns
returns c =
    let s = c.self.inside in
    let n = length s.tables.registered.market.programs in
    let at = filled s.tables.places in
    let within : c.args.program < n = subst (λ (d : Judged). c.args.program < length d.registered.market.programs) (sym c.self.view_is) c.requires in
    let there : c.args.program < length s.filled.items = omega (arith, within, ap length c.self.invariant.filled, length-map_below at n) in
    let read = get_or_read_under s.filled.items c.args.program (length s.filled.items) c.index-2.result.now 0 (rw c.index.ensures at c.index-2.ensures) there refl in
    read ∙ ap (λ xs. get_or xs c.args.program 0) c.self.invariant.filled ∙ map_below_at at n c.args.program 0 within
    ∙ ap (λ (d : Judged). filled d.places c.args.program) c.self.view_is
