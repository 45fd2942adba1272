use Rattle.std.proofs.Common.{◌∙◌, None, Some, get_or, refl, ap, arith}
use Rattle.std.proofs.lemmas.List.{get_or_default}
use Rattle.mt_numbered.proofs.NumberFacts.{in_table, few_places, at_place}
use Rattle.mt_numbered.proofs.numbered.Numbered.new_number.Goals as goal

pub index-requires : goal.index-requires
index-requires g c =
    let table = in_table g.T.Number.at _ c.args.self.now _ _ refl c.self.view_is c.self.invariant c.in-Some.numbers c.in-Some.is in
    omega (arith, c.requires, table.0, c.in-Some.numbers.ok.0)

pub returns-in-Some : goal.returns-in-Some
returns-in-Some g c =
    let table = in_table g.T.Number.at _ c.args.self.now _ _ refl c.self.view_is c.self.invariant c.in-Some.numbers c.in-Some.is in
    c.index.ensures ∙ get_or_default c.in-Some.numbers.items c.args.place _ None (omega (arith, c.requires, table.0)) ∙ ap (λ xs. get_or xs c.args.place None) table.1

pub at-requires : goal.at-requires
at-requires g c = few_places g.T.Number.at _ c.args.self.now _ _ refl c.self.view_is c.self.invariant c.in-None.is c.args.place c.requires

pub returns-in-None : goal.returns-in-None
returns-in-None g c = ap Some c.at.ensures ∙ at_place g.T.Number.at _ c.args.self.now _ _ refl c.self.view_is c.self.invariant c.in-None.is c.args.place c.requires
