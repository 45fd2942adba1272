use Rattle.std.proofs.Common.{◌<◌, ◌∙◌, length, arith, ap, nat_lt, take}
use Rattle.mt_terms.specs.Lists.{count}
use Rattle.mt_terms.specs.Market.{program_of}
use Rattle.mt_terms.specs.Matching.{at}
use Rattle.mt_assignment.specs.Assigned.{Assigned}
use Rattle.mt_assignment.proofs.TableFacts.{row_index, row_at, row_sorted}
use Rattle.mt_terms.proofs.ListFacts.{ranks_above}
use Rattle.mt_assignment.proofs.assignment.Assignment.has_fewer_ahead.Goals as goal

pub index-row-requires : goal.index-row-requires
index-row-requires c =
    let within : c.args.program < length c.self.inside.roster.now.market.programs = omega (arith, ap (λ (s : Assigned). length s.market.programs) c.self.view_is) in
    omega (arith, row_index c.self.inside c.self.invariant c.args.program c.index.result c.index.ensures within, c.self.inside.rows.ok.0)

pub has_fewer_below-requires : goal.has_fewer_below-requires
has_fewer_below-requires c =
    let within : c.args.program < length c.self.inside.roster.now.market.programs = omega (arith, ap (λ (s : Assigned). length s.market.programs) c.self.view_is) in
    row_sorted c.self.inside c.self.invariant c.args.program c.index.result c.index-row.result.now c.index.ensures within c.index-row.ensures

pub returns-clause-fewer : goal.returns-clause-fewer
returns-clause-fewer c =
    let within : c.args.program < length c.self.inside.roster.now.market.programs = omega (arith, ap (λ (s : Assigned). length s.market.programs) c.self.view_is) in
    let p = c.args.program in
    let k = c.args.rank in
    c.has_fewer_below.ensures
    ∙ ap (λ n. nat_lt n c.args.most)
    (ap (count (λ r. nat_lt r k)) (row_at c.self.inside c.self.invariant p c.index.result c.index-row.result.now c.index.ensures within c.index-row.ensures)
    ∙ ranks_above 0 k (at c.self.inside.places.items p) (program_of c.self.inside.roster.now.market p).ranking k (omega arith)
    ∙ ap (λ (s : Assigned). count (at s.places p) (take k (program_of s.market p).ranking)) c.self.view_is)
