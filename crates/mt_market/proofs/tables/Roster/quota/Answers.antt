use Rattle.std.proofs.Common.{◌<◌, arith, ap, ◌∙◌, length, refl}
use Rattle.std.proofs.lemmas.List.{get_or_read_under}
use Rattle.mt_terms.specs.Market.{Registered, program_of}
use Rattle.mt_market.proofs.TablesFacts.{count_of_programs, quota_at}
use Rattle.mt_market.proofs.tables.Roster.quota.Goals as goal

pub index-requires-2 : goal.index-requires-2
index-requires-2 c = omega (arith, count_of_programs c.self.inside.tables c.self.invariant, ap (λ (r : Registered). length r.market.programs) c.self.view_is)

pub returns : goal.returns
returns c =
    let within : c.args.program < length c.self.inside.tables.quotas.items = omega (arith, count_of_programs c.self.inside.tables c.self.invariant, ap (λ (r : Registered). length r.market.programs) c.self.view_is) in
    get_or_read_under c.self.inside.tables.quotas.items c.args.program _ c.index-2.result.now 0 (rw c.index.ensures at c.index-2.ensures) within refl
    ∙ quota_at c.self.inside.tables c.args.program c.self.invariant
    ∙ ap (λ (r : Registered). (program_of r.market c.args.program).quota) c.self.view_is
