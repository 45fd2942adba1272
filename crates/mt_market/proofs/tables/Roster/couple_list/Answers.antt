use Rattle.std.proofs.Common.{arith, ap, ◌∙◌, length, get_or, []}
use Rattle.mt_terms.specs.Market.{Registered, couple_of}
use Rattle.mt_market.proofs.TablesFacts.{count_of_couples, pairs_at}
use Rattle.mt_market.proofs.tables.Roster.couple_list.Goals as goal

pub list-requires : goal.list-requires
list-requires c = omega (arith, count_of_couples c.self.inside.tables c.self.invariant, c.self.invariant.pairs, ap (λ (r : Registered). length r.market.couples) c.self.view_is)

pub returns : goal.returns
returns c =
    c.list.ensures ∙ ap (λ i. get_or c.self.inside.tables.by_programs.pairs i []) c.index.ensures
    ∙ pairs_at c.self.inside.tables c.args.couple c.self.invariant
    ∙ ap (λ (r : Registered). (couple_of r.market c.args.couple).pairs) c.self.view_is
