use Rattle.std.proofs.Common.{◌≡◌, ◌∙◌, ℕ, ◌+◌, ◌<◌, ◌≤◌, min, List, ◌∷◌, [], ◌++◌, append_assoc, ap, arith, length, length-append, sym, take}
use Rattle.std.proofs.lemmas.List.{append-nil, take_all}
use Rattle.mt_flat.specs.GrowingLists.{row_in, Extends, IsMoved}
use Rattle.mt_flat.specs.declared.growing_lists.Span.{Span}
use Rattle.mt_flat.proofs.RowFacts.{range_end}
use Rattle.mt_flat.proofs.growing_lists.moved.Goals as goal

-- a row was added, and an element
added : {X : Type 0} → (xs row ys zs : List X) (x : X) → ys ≡ xs ++ row → zs ≡ ys ++ x ∷ [] → zs ≡ xs ++ (row ++ x ∷ [])
added xs row ys zs x copied pushed = pushed ∙ ap (λ vs. vs ++ x ∷ []) copied ∙ append_assoc xs row (x ∷ [])

-- and room behind it
roomy : {X : Type 0} → (xs row zs vs more : List X) (limit : ℕ) → zs ≡ xs ++ row → vs ≡ take limit zs ++ more → length zs ≤ limit → vs ≡ (xs ++ row) ++ more
roomy xs row zs vs more limit is resized fits = resized ∙ ap (λ ls. ls ++ more) (take_all limit zs fits ∙ is)

extended : {X : Type 0} → (xs row zs vs more : List X) (limit : ℕ) → zs ≡ xs ++ row → vs ≡ take limit zs ++ more → length zs ≤ limit → Extends xs vs
extended xs row zs vs more limit is resized fits = record { rest = row ++ more; is = roomy xs row zs vs more limit is resized fits ∙ append_assoc xs row more }

is_moved : {X : Type 0} → (xs zs vs more : List X) (x : X) (limit : ℕ) (from w : Span) → zs ≡ xs ++ (row_in xs from ++ x ∷ []) → vs ≡ take limit zs ++ more → length vs ≡ limit → length zs ≤ limit
    → w.start ≡ length xs → w.end ≡ length zs → w.limit ≡ limit → IsMoved xs vs from x w
is_moved xs zs vs more x limit from w is resized size fits start end room =
    let row = row_in xs from ++ x ∷ [] in
    record {
      behind = omega arith;
      is_span = record { ordered = omega (arith, ap length is, length-append xs row); roomy = omega arith; within = omega arith };
      row = ap (λ ls. row_in ls w) (roomy xs row zs vs more limit is resized fits) ∙ range_end xs row more w.start w.end start (end ∙ ap length is);
    }

pub returns-in_err-short_place-clause-keeps : goal.returns-in_err-short_place-clause-keeps
returns-in_err-short_place-clause-keeps g c = record {
  rest = row_in c.args.items.now.items c.args.span ++ c.args.item ∷ [];
  is = added c.args.items.now.items (row_in c.args.items.now.items c.args.span) c.extend_from_within.new.self.items c.push.new.self.items c.args.item c.in_ok-extend_from_within.ensures.items c.in_ok-push.ensures.items;
}

pub returns-in_err-short_place-2-clause-keeps : goal.returns-in_err-short_place-2-clause-keeps
returns-in_err-short_place-2-clause-keeps g c = record {
  rest = row_in c.args.items.now.items c.args.span ++ c.args.item ∷ [];
  is = added c.args.items.now.items (row_in c.args.items.now.items c.args.span) c.extend_from_within.new.self.items c.push.new.self.items c.args.item c.in_ok-extend_from_within.ensures.items c.in_ok-push.ensures.items;
}

pub returns-in_err-short_place-3-clause-keeps : goal.returns-in_err-short_place-3-clause-keeps
returns-in_err-short_place-3-clause-keeps g c = record {
  rest = row_in c.args.items.now.items c.args.span ++ c.args.item ∷ [];
  is = added c.args.items.now.items (row_in c.args.items.now.items c.args.span) c.extend_from_within.new.self.items c.push.new.self.items c.args.item c.in_ok-extend_from_within.ensures.items c.in_ok-push.ensures.items;
}

pub returns-in_err-resize-clause-keeps : goal.returns-in_err-resize-clause-keeps
returns-in_err-resize-clause-keeps g c = record {
  rest = row_in c.args.items.now.items c.args.span ++ c.args.item ∷ [];
  is = c.in_err-resize.ensures.items
      ∙ added c.args.items.now.items (row_in c.args.items.now.items c.args.span) c.extend_from_within.new.self.items c.push.new.self.items c.args.item c.in_ok-extend_from_within.ensures.items c.in_ok-push.ensures.items;
}

-- the limit is no less than what is there
enough : {X : Type 0} → (zs : List X) (size end room limit : ℕ) → size ≡ length zs → end ≡ size → end < 18446744073709551616 → limit ≡ min (end + room) 18446744073709551615 → length zs ≤ limit
enough zs size end room limit size_is end_is low limit_is = omega arith

with_row : (g : _) (c : goal.In_ok-resize g) → c.push.new.self.items ≡ c.args.items.now.items ++ (row_in c.args.items.now.items c.args.span ++ c.args.item ∷ [])
with_row g c =
    added c.args.items.now.items (row_in c.args.items.now.items c.args.span) c.extend_from_within.new.self.items c.push.new.self.items c.args.item c.in_ok-extend_from_within.ensures.items c.in_ok-push.ensures.items

fits : (g : _) (c : goal.In_ok-resize g) → length c.push.new.self.items ≤ c.saturating_add-limit.result
fits g c =
    enough c.push.new.self.items c.push.new.self.len c.len-end.result c.max.result c.saturating_add-limit.result c.push.new.self.ok.0 c.len-end.ensures c.len-end.type_inv c.saturating_add-limit.ensures

pub returns-clause-keeps : goal.returns-clause-keeps
returns-clause-keeps g c =
    extended c.args.items.now.items _ c.push.new.self.items c.resize.new.self.items _ c.saturating_add-limit.result (with_row g c) c.in_ok-resize.ensures.items (fits g c)

pub returns-clause-moved : goal.returns-clause-moved
returns-clause-moved g c =
    is_moved c.args.items.now.items c.push.new.self.items c.resize.new.self.items _ c.args.item c.saturating_add-limit.result c.args.span
    (record { start = c.in_ok-short_place.field-0; end = c.in_ok-short_place-2.field-0; limit = c.in_ok-short_place-3.field-0 }) (with_row g c)
    c.in_ok-resize.ensures.items (sym c.resize.new.self.ok.0 ∙ c.in_ok-resize.ensures.len) (fits g c) (c.in_ok-short_place.ensures.ok ∙ c.len-start.ensures ∙ c.args.items.now.ok.0)
    (c.in_ok-short_place-2.ensures.ok ∙ c.len-end.ensures ∙ c.push.new.self.ok.0) c.in_ok-short_place-3.ensures.ok

pub returns-in_err-extend_from_within-clause-keeps : goal.returns-in_err-extend_from_within-clause-keeps
returns-in_err-extend_from_within-clause-keeps g c = record { rest = []; is = c.in_err-extend_from_within.ensures.items ∙ sym (append-nil c.args.items.now.items) }

pub returns-in_err-push-clause-keeps : goal.returns-in_err-push-clause-keeps
returns-in_err-push-clause-keeps g c = record { rest = row_in c.args.items.now.items c.args.span; is = c.in_err-push.ensures.items ∙ c.in_ok-extend_from_within.ensures.items }

pub overflow_sub-end : goal.overflow_sub-end
overflow_sub-end g c = omega (arith, c.len-start.ensures, c.len-end.ensures, c.in_ok-extend_from_within.ensures.len, c.in_ok-push.ensures.len)

pub extend_from_within-requires : goal.extend_from_within-requires
extend_from_within-requires g c = record { start_le_end = c.requires.ordered; in_bounds = omega (arith, c.requires.roomy, c.requires.within); not_exhausted = tt }
