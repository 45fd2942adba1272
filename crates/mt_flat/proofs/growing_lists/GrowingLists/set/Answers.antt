use Rattle.std.proofs.Common.{◌≡◌, ◌∙◌, ℕ, ◌+◌, ◌-◌, ◌<◌, ◌≤◌, List, [], length, get_or, set, map, ap, sym, arith}
use Rattle.std.proofs.lemmas.List.{get_or_read, set-get_or}
use Rattle.std.proofs.lemmas.List.Edits.{length-between}
use Rattle.mt_flat.specs.GrowingLists.{row_in, span_at, AreSpans}
use Rattle.mt_flat.specs.declared.growing_lists.Span.{Span}
use Rattle.mt_flat.proofs.RowFacts.{clear_of, range_set_here, range_set_other, row_at, row_count, rows_changed}
use Rattle.mt_flat.proofs.growing_lists.GrowingLists.set.Goals as goal

-- an index within the row of a span that was read
low : {X : Type 0} → (xs : List X) (spans : List Span) (rows : List (List X)) (k i : ℕ) (w : Span) → map (row_in xs) spans ≡ rows → k < length rows → AreSpans (length xs) spans → w ≡ get_or spans k w
    → i < length (get_or rows k []) → w.start + i < w.end
low xs spans rows k i w are within each is inside =
    let many : k < length spans = omega (arith, row_count xs spans rows are) in
    let read : w ≡ span_at spans k = get_or_read spans k w many is _ in
    let here = each.each k many in
    omega (arith, ap length (sym (ap (λ (rs : List (List _)). get_or rs k []) are) ∙ row_at xs spans k many), length-between xs (span_at spans k).start (span_at spans k).end (omega (arith, here.roomy, here.within)), ap Span.start read, ap Span.end read)

ends : {X : Type 0} → (xs : List X) (spans : List Span) (rows : List (List X)) (k : ℕ) (w : Span) → map (row_in xs) spans ≡ rows → k < length rows → AreSpans (length xs) spans → w ≡ get_or spans k w → w.end ≤ length xs
ends xs spans rows k w are within each is =
    let many : k < length spans = omega (arith, row_count xs spans rows are) in
    let read : w ≡ span_at spans k = get_or_read spans k w many is _ in
    let here = each.each k many in
    omega (arith, here.roomy, here.within, ap Span.end read)

pub index-span-requires : goal.index-span-requires
index-span-requires g c = omega (arith, row_count c.self.inside.items.items c.self.inside.spans.items c.args.self.now c.self.view_is)

pub overflow_add-span : goal.overflow_add-span
overflow_add-span g c =
    let xs = c.self.inside.items.items in
    let spans = c.self.inside.spans.items in
    let w = c.index-span.result.now in
    let a = low xs spans c.args.self.now c.args.number c.args.index w c.self.view_is c.requires.row c.self.invariant c.index-span.ensures c.requires.index in
    let b = ends xs spans c.args.self.now c.args.number w c.self.view_is c.requires.row c.self.invariant c.index-span.ensures in
    omega (arith, a, b)

pub index_mut-requires : goal.index_mut-requires
index_mut-requires g c =
    let xs = c.self.inside.items.items in
    let spans = c.self.inside.spans.items in
    let w = c.index-span.result.now in
    let a = low xs spans c.args.self.now c.args.number c.args.index w c.self.view_is c.requires.row c.self.invariant c.index-span.ensures c.requires.index in
    let b = ends xs spans c.args.self.now c.args.number w c.self.view_is c.requires.row c.self.invariant c.index-span.ensures in
    omega (arith, a, b)

pub returns : goal.returns
returns g c =
    let xs = c.self.inside.items.items in
    let spans = c.self.inside.spans.items in
    let k = c.args.number in
    let w = c.index-span.result.now in
    let i = c.args.index in
    let x = c.args.item in
    let none : Span = record { start = 0; end = 0; limit = 0 } in
    let many : k < length spans = omega (arith, row_count xs spans c.args.self.now c.self.view_is) in
    let read : w ≡ span_at spans k = get_or_read spans k w many c.index-span.ensures none in
    let row_is : get_or c.args.self.now k [] ≡ row_in xs w =
    sym (ap (λ rows. get_or rows k []) c.self.view_is) ∙ row_at xs spans k many ∙ ap (row_in xs) (sym read) in
    let is = c.self.invariant.each k many in
    let size : length (row_in xs w) ≡ w.end - w.start = length-between xs w.start w.end (omega (arith, is.roomy, is.within, ap Span.end read, ap Span.limit read)) in
    let low : w.start + i < w.end = omega (arith, ap length row_is) in
    let row = set (get_or c.args.self.now k []) i x in
    let here : row_in (set xs (w.start + i) x) w ≡ row = range_set_here xs i x w.start w.end low ∙ ap (λ r. set r i x) (sym row_is) in
    ap (λ ws. map (row_in (set xs (w.start + i) x)) ws) (sym (set-get_or spans k w) ∙ ap (set spans k) (sym c.index-span.ensures))
    ∙ rows_changed xs (set xs (w.start + i) x) spans k w row many here (λ j h ne.
    range_set_other xs (w.start + i) x (span_at spans j).start (span_at spans j).end (c.self.invariant.each j h).ordered
    (clear_of (length xs) spans j k (w.start + i) c.self.invariant h many ne (omega (arith, ap Span.start read)) (omega (arith, is.roomy, ap Span.end read))))
    ∙ ap (λ rows. set rows k row) c.self.view_is
