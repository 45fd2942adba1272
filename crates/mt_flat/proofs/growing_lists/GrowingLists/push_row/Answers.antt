use Rattle.std.proofs.Common.{◌≡◌, refl, ◌∙◌, ◌++◌, length, map, replicate, ap, subst, sym, arith}
use Rattle.std.specs.Vec.{vec_len}
use Rattle.mt_flat.specs.GrowingLists.{row_in, AreSpans}
use Rattle.mt_flat.proofs.RowFacts.{on_err, resized, row_pushed, rows_as_before, spans_as_before, spans_pushed}
use Rattle.mt_flat.proofs.growing_lists.GrowingLists.push_row.Goals as goal

-- the elements if the row was not pushed, and if it was
with_copies : (g : _) (c : goal.After-from_residual-in_err-push g) → c.resize.new.self.items ≡ c.self.inside.items.items ++ replicate c.args.count c.args.item
with_copies g c =
    resized c.self.inside.items.items c.resize.new.self.items c.args.item (vec_len c.self.inside.items) c.in-Some.end c.args.count c.in_ok-resize.ensures.items c.self.inside.items.ok.0 (omega (arith, c.in-Some.ensures))

with_row : (g : _) (c : goal.In_ok-push g) → c.resize.new.self.items ≡ c.self.inside.items.items ++ replicate c.args.count c.args.item
with_row g c =
    resized c.self.inside.items.items c.resize.new.self.items c.args.item (vec_len c.self.inside.items) c.in-Some.end c.args.count c.in_ok-resize.ensures.items c.self.inside.items.ok.0 (omega (arith, c.in-Some.ensures))

pub returns-in_err-push-clause-err : goal.returns-in_err-push-clause-err
returns-in_err-push-clause-err g c =
    on_err c.from_residual-in_err-push.result
    (rows_as_before c.self.inside.items.items _ c.resize.new.self.items c.self.inside.spans.items c.self.invariant (with_copies g c) c.push.new.self.items c.args.self.now c.self.view_is c.in_err-push.ensures.items)

pub invariant_of-self : goal.invariant_of-self
invariant_of-self g c = subst (λ ys. AreSpans (length ys) c.self.inside.spans.items) (sym c.in_err-resize.ensures.items) c.self.invariant

pub invariant_of-self-in_err-push : goal.invariant_of-self-in_err-push
invariant_of-self-in_err-push g c =
    spans_as_before c.self.inside.items.items _ c.resize.new.self.items c.self.inside.spans.items c.self.invariant (with_copies g c) c.push.new.self.items c.in_err-push.ensures.items

-- where the row begins and ends
start : (g : _) (c : goal.In_ok-push g) → c.in_ok-first.first ≡ length c.self.inside.items.items
start g c = c.in_ok-first.ensures.ok ∙ c.len-start.ensures ∙ c.self.inside.items.ok.0

end : (g : _) (c : goal.In_ok-push g) → c.in_ok-last.last ≡ length c.resize.new.self.items
end g c = c.in_ok-last.ensures.ok ∙ sym c.in_ok-resize.ensures.len ∙ c.resize.new.self.ok.0

pub invariant_of-self-2 : goal.invariant_of-self-2
invariant_of-self-2 g c =
    spans_pushed c.self.inside.items.items _ c.resize.new.self.items c.self.inside.spans.items c.self.invariant (with_row g c) (record { start = c.in_ok-first.first; end = c.in_ok-last.last; limit = c.in_ok-last.last })
    c.push.new.self.items c.in_ok-push.ensures.items (start g c) (end g c) refl

pub returns-clause-ok : goal.returns-clause-ok
returns-clause-ok g c =
    row_pushed c.self.inside.items.items _ c.resize.new.self.items c.self.inside.spans.items c.self.invariant (with_row g c)
    (record { start = c.in_ok-first.first; end = c.in_ok-last.last; limit = c.in_ok-last.last }) c.push.new.self.items c.args.self.now c.self.view_is c.in_ok-push.ensures.items (start g c) (end g c)

pub returns-in_err-resize-clause-err : goal.returns-in_err-resize-clause-err
returns-in_err-resize-clause-err g c = on_err c.from_residual-in_err-resize.result (ap (λ ys. map (row_in ys) c.self.inside.spans.items) c.in_err-resize.ensures.items ∙ c.self.view_is)
