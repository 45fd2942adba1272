use Rattle.std.proofs.Common.{◌∙◌, ◌++◌, get_or, length, drop, filter, map, arith, ap, ap₂, sym}
use Rattle.std.proofs.lemmas.Result.{on_ok_weaker}
use Rattle.mt_terms.specs.Lists.{has}
use Rattle.mt_terms.specs.Market.{program_of, Program}
use Rattle.mt_terms.specs.Matching.{at}
use Rattle.mt_assignment.specs.Assigned.{Assigned}
use Rattle.mt_stage_tables.proofs.RefusedFacts.{is_refused}
use Rattle.mt_assignment.proofs.MarketFacts.{ranked_ranking}
use Rattle.mt_stage_tables.proofs.PlaceFacts.{has-drop}
use Rattle.mt_stage_tables.proofs.OrderFacts.{has_at}
use Rattle.mt_stage_tables.proofs.RanksFacts.{ranks_are, refused_ranks}
use Rattle.mt_assignment.proofs.TableFacts.{program_known, row_index, row_at}
use Rattle.mt_assignment.proofs.assignment.Assignment.add_displaced.Goals as goal
use Rattle.mt_ranks.proofs.LiveMarket.{ranked_program}

pub index-row-requires : goal.index-row-requires
index-row-requires c =
    let t = c.self.inside in
    omega (arith, row_index t c.self.invariant c.args.program c.index.result c.index.ensures (program_known t _ c.args.program c.self.view_is c.requires), t.rows.ok.0)

pub add_ranked-requires : goal.add_ranked-requires
add_ranked-requires c = λ i within.
    let t = c.self.inside in
    let m = t.roster.now.market in
    let p = c.args.program in
    let row_is = row_at t c.self.invariant p c.index.result c.index-row.result.now c.index.ensures (program_known t _ p c.self.view_is c.requires) c.index-row.ensures in
    let r = get_or c.beyond.result.now i 0 in
    let on = has-drop c.index-row.result.now c.quota-quota.result r (ap (λ xs. has xs r) (sym c.beyond.ensures) ∙ has_at c.beyond.result.now i 0 within) in
    let high = (ranks_are 0 (at t.places.items p) (program_of m p).ranking r (ap (λ xs. has xs r) (sym row_is) ∙ on)).high in
    omega (arith, high, ap length c.by_rank.ensures, ap length (ranked_ranking t.ranks.now m p c.self.invariant.one_market))

pub returns : goal.returns
returns c =
    let t = c.self.inside in
    let m = t.roster.now.market in
    let p = c.args.program in
    let row_is = row_at t c.self.invariant p c.index.result c.index-row.result.now c.index.ensures (program_known t _ p c.self.view_is c.requires) c.index-row.ensures in
    let quota_is = c.quota-quota.ensures ∙ ap (λ (q : Program). q.quota) (ranked_program t.ranks.now m p c.self.invariant.one_market) in
    let list_is = c.by_rank.ensures ∙ ranked_ranking t.ranks.now m p c.self.invariant.one_market in
    let once = c.self.invariant.is_registration.well_formed.rankings_distinct p in
    let beyond_is = c.beyond.ensures ∙ ap₂ drop quota_is row_is in
    on_ok_weaker c.add_ranked.result (λ done.
    done ∙ ap (λ xs. c.args.out.now.items ++ xs)
    (ap₂ (λ xs rs. map (λ r. get_or xs r 0) rs) list_is beyond_is ∙ sym (refused_ranks (at t.places.items p) (program_of m p).quota (program_of m p).ranking once))
    ∙ ap (λ (s : Assigned). c.args.out.now.items ++ filter (is_refused (program_of s.market p) (at s.places p)) (program_of s.market p).ranking) c.self.view_is) c.add_ranked.ensures
