use Rattle.std.proofs.Common.{arith, ap, ◌∙◌, length, get_or, []}
use Rattle.mt_terms.specs.Market.{Registered, program_of}
use Rattle.mt_market.proofs.TablesFacts.{count_of_programs, ranking_at}
use Rattle.mt_market.proofs.tables.Roster.program_list.Goals as goal

pub list-requires : goal.list-requires
list-requires c = omega (arith, count_of_programs c.self.inside.tables c.self.invariant, c.self.invariant.rankings, ap (λ (r : Registered). length r.market.programs) c.self.view_is)

pub returns : goal.returns
returns c =
    c.list.ensures ∙ ap (λ i. get_or c.self.inside.tables.by_applicants.rankings i []) c.index.ensures
    ∙ ranking_at c.self.inside.tables c.args.program c.self.invariant
    ∙ ap (λ (r : Registered). (program_of r.market c.args.program).ranking) c.self.view_is
