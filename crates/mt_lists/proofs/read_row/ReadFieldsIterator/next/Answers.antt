use Rattle.std.proofs.Common.{◌<◌, ◌+◌, ◌∙◌, ◌∷◌, drop, ap, sym, length, arith, []}
use Rattle.std.proofs.lemmas.Grind.{elements}
use Rattle.std.proofs.lemmas.List.{drop_more}
use Rattle.mt_lists.proofs.read_row.ReadFieldsIterator.next.Goals as goal

pub returns-clause-steps : goal.returns-clause-steps
returns-clause-steps c =
    let lt : c.args.self.now.at < length c.args.self.now.row.now = omega arith in
    drop_more c.args.self.now.row.now c.args.self.now.at [] lt ∙ ap (λ f. f ∷ drop (c.args.self.now.at + 1) c.args.self.now.row.now) (sym c.list-field.ensures)

pub returns-clause-goes : goal.returns-clause-goes
returns-clause-goes c = grind (arith, elements)
