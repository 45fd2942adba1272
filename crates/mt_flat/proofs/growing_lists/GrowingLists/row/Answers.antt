use Rattle.std.proofs.Common.{◌∙◌, [], get_or, ap, ap₂, sym, arith}
use Rattle.mt_flat.specs.GrowingLists.{row_in, span_at}
use Rattle.mt_flat.proofs.RowFacts.{row_at, row_count}
use Rattle.mt_flat.proofs.growing_lists.GrowingLists.row.Goals as goal

pub span_items-requires-clause-within : goal.span_items-requires-clause-within
span_items-requires-clause-within g c = omega (arith, row_count c.self.inside.items.items c.self.inside.spans.items c.args.self.now c.self.view_is)

pub returns : goal.returns
returns g c =
    c.span_items.ensures
    ∙ ap₂ (λ xs spans. row_in xs (span_at spans c.args.number)) c.deref.ensures.value c.deref-2.ensures.value
    ∙ sym (row_at c.self.inside.items.items c.self.inside.spans.items c.args.number (omega (arith, row_count c.self.inside.items.items c.self.inside.spans.items c.args.self.now c.self.view_is)))
    ∙ ap (λ rows. get_or rows c.args.number []) c.self.view_is
