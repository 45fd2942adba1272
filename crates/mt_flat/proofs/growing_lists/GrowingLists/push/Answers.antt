use Rattle.std.proofs.Common.{◌≡◌, ◌∙◌, ℕ, ◌<◌, List, ◌++◌, ◌∷◌, [], inl, length, get_or, set, map, ap, refl, sym, subst, arith, length-append}
use Rattle.std.proofs.lemmas.List.{get_or_read, length-set}
use Rattle.mt_flat.specs.GrowingLists.{row_in, span_at, AreApart, AreSpans, IsSpan}
use Rattle.mt_flat.specs.declared.growing_lists.Span.{Span}
use Rattle.mt_flat.proofs.RowFacts.{on_err, row_at, row_count, row_grown, row_more, rows_changed, rows_as_before, spans_changed, spans_grown}
use Rattle.mt_flat.proofs.growing_lists.GrowingLists.push.Goals as goal

-- the span that was read
span_read : {X : Type 0} → (xs : List X) (spans : List Span) (rows : List (List X)) (k : ℕ) (w : Span) → map (row_in xs) spans ≡ rows → k < length rows → w ≡ get_or spans k w → w ≡ span_at spans k
span_read xs spans rows k w are within is = get_or_read spans k w (omega (arith, row_count xs spans rows are)) is _

is_read : {X : Type 0} → (xs : List X) (spans : List Span) (rows : List (List X)) (k : ℕ) (w : Span) → map (row_in xs) spans ≡ rows → k < length rows → AreSpans (length xs) spans → w ≡ get_or spans k w
    → IsSpan (length xs) w
is_read xs spans rows k w are within each is =
    subst (IsSpan (length xs)) (sym (span_read xs spans rows k w are within is)) (each.each k (omega (arith, row_count xs spans rows are)))

pub returns-in_err-self-inside-clause-err : goal.returns-in_err-self-inside-clause-err
returns-in_err-self-inside-clause-err g c =
    let keeps = c.moved.ensures.keeps in
    on_err c.from_residual.result
    (rows_as_before c.self.inside.items.items keeps.rest c.moved.new.items.items c.self.inside.spans.items c.self.invariant keeps.is c.self.inside.spans.items c.args.self.now c.self.view_is refl)

pub returns-then-span-clause-ok : goal.returns-then-span-clause-ok
returns-then-span-clause-ok g c =
    let xs = c.self.inside.items.items in
    let spans = c.self.inside.spans.items in
    let rows = c.args.self.now in
    let k = c.args.number in
    let old = c.index-span.result.now in
    let w = c.index_mut-then-span.result.now in
    row_grown xs spans rows k c.args.item old w c.next_end.result c.self.view_is c.self.invariant (omega (arith, row_count xs spans rows c.self.view_is))
    (span_read xs spans rows k old c.self.view_is c.requires c.index-span.ensures) (span_read xs spans rows k w c.self.view_is c.requires c.index_mut-then-span.ensures.value)
    c.if-span.true c.next_end.ensures

pub returns-in_ok-self-inside-clause-ok : goal.returns-in_ok-self-inside-clause-ok
returns-in_ok-self-inside-clause-ok g c =
    let xs = c.self.inside.items.items in
    let spans = c.self.inside.spans.items in
    let rows = c.args.self.now in
    let k = c.args.number in
    let old = c.index-span.result.now in
    let many : k < length spans = omega (arith, row_count xs spans rows c.self.view_is) in
    let read : old ≡ span_at spans k = span_read xs spans rows k old c.self.view_is c.requires c.index-span.ensures in
    let row_is : get_or rows k [] ≡ row_in xs old = sym (ap (λ rs. get_or rs k []) c.self.view_is) ∙ row_at xs spans k many ∙ ap (row_in xs) (sym read) in
    let row = get_or rows k [] ++ c.args.item ∷ [] in
    rows_changed xs c.moved.new.items.items spans k c.in_ok-self-inside.field-0 row many
    (c.in_ok-self-inside.ensures.moved.row ∙ ap (λ r. r ++ c.args.item ∷ []) (sym row_is))
    (λ j h ne. row_more xs c.moved.ensures.keeps.rest c.moved.new.items.items spans c.self.invariant c.moved.ensures.keeps.is j h)
    ∙ ap (λ rs. set rs k row) c.self.view_is

pub index-span-requires : goal.index-span-requires
index-span-requires g c = omega (arith, row_count c.self.inside.items.items c.self.inside.spans.items c.args.self.now c.self.view_is)

pub overflow_cast-span : goal.overflow_cast-span
overflow_cast-span g c =
    let is = is_read c.self.inside.items.items c.self.inside.spans.items c.args.self.now c.args.number c.index-span.result.now c.self.view_is c.requires c.self.invariant c.index-span.ensures in
    omega (arith, is.within)

pub index_mut-requires : goal.index_mut-requires
index_mut-requires g c =
    let is = is_read c.self.inside.items.items c.self.inside.spans.items c.args.self.now c.args.number c.index-span.result.now c.self.view_is c.requires c.self.invariant c.index-span.ensures in
    omega (arith, is.within, c.if-span.true)

pub index_mut-requires-then-span : goal.index_mut-requires-then-span
index_mut-requires-then-span g c = omega (arith, row_count c.self.inside.items.items c.self.inside.spans.items c.args.self.now c.self.view_is)

pub invariant_of-self : goal.invariant_of-self
invariant_of-self g c =
    let xs = c.self.inside.items.items in
    let spans = c.self.inside.spans.items in
    let k = c.args.number in
    let old = c.index-span.result.now in
    let w = c.index_mut-then-span.result.now in
    let many : k < length spans = omega (arith, row_count xs spans c.args.self.now c.self.view_is) in
    let is = is_read xs spans c.args.self.now k old c.self.view_is c.requires c.self.invariant c.index-span.ensures in
    let again : w ≡ span_at spans k = span_read xs spans c.args.self.now k w c.self.view_is c.requires c.index_mut-then-span.ensures.value in
    let same : w ≡ old = again ∙ sym (span_read xs spans c.args.self.now k old c.self.view_is c.requires c.index-span.ensures) in
    let size : length (set xs old.end c.args.item) ≡ length xs = length-set xs old.end c.args.item in
    spans_changed (length xs) (length (set xs old.end c.args.item)) spans k (record { start = w.start; end = c.next_end.result; limit = w.limit }) c.self.invariant (omega arith) many
    (record { ordered = omega (arith, is.ordered, ap Span.start same, c.next_end.ensures); roomy = omega (arith, c.if-span.true, ap Span.limit same, c.next_end.ensures); within = omega (arith, is.within, ap Span.limit same, size) })
    (λ j h ne. subst (AreApart (span_at spans j)) (sym again) (c.self.invariant.apart j k h many ne))

pub moved-requires : goal.moved-requires
moved-requires g c =
    is_read c.self.inside.items.items c.self.inside.spans.items c.args.self.now c.args.number c.index-span.result.now c.self.view_is c.requires c.self.invariant c.index-span.ensures

pub invariant_of-self-in_err-self-inside : goal.invariant_of-self-in_err-self-inside
invariant_of-self-in_err-self-inside g c =
    let xs = c.self.inside.items.items in
    spans_grown (length xs) (length c.moved.new.items.items) c.self.inside.spans.items c.self.invariant
    (omega (arith, ap length c.moved.ensures.keeps.is, length-append xs c.moved.ensures.keeps.rest))

pub index_mut-requires-else-span : goal.index_mut-requires-else-span
index_mut-requires-else-span g c = omega (arith, row_count c.self.inside.items.items c.self.inside.spans.items c.args.self.now c.self.view_is)

pub invariant_of-self-else-span : goal.invariant_of-self-else-span
invariant_of-self-else-span g c =
    let xs = c.self.inside.items.items in
    let spans = c.self.inside.spans.items in
    let w = c.in_ok-self-inside.field-0 in
    let is = c.in_ok-self-inside.ensures.moved in
    spans_changed (length xs) (length c.moved.new.items.items) spans c.args.number w c.self.invariant
    (omega (arith, ap length c.moved.ensures.keeps.is, length-append xs c.moved.ensures.keeps.rest))
    (omega (arith, row_count xs spans c.args.self.now c.self.view_is)) is.is_span
    (λ j h ne. inl (let here = (c.self.invariant.each j h).within in let behind = is.behind in omega arith))
