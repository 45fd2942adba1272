use Rattle.std.proofs.Common.{◌≡◌, ◌∙◌, ◌-◌, ◌++◌, ◌∷◌, [], List, ℕ, refl, ap, sym, length, arith}
use Rattle.std.specs.Prelude.{flat_map}
use Rattle.std.proofs.lemmas.List.{append-nil, length-drop, nil_from_length}
use Rattle.mt_lists.specs.Rows.{fields_left}
use Rattle.mt_terms.specs.Registration.Ids.{Bytes}
use Rattle.mt_numbered.specs.declared.pieces.Piece.{Piece}
use Rattle.mt_numbered.specs.Pieces.{piece_ids}
use Rattle.mt_numbered.proofs.PieceFacts.{one_piece-more}
use Rattle.mt_numbered.proofs.pieces.pieces_of.Goals as goal

pub loop-left-init : goal.loop-left-init
loop-left-init c = record {
  left = c.len-left.ensures;
  whole = ap (λ (l : List Piece). flat_map piece_ids l ++ fields_left c.args.list) c.new-pieces.ensures.items;
}

pub loop-left-preserved : goal.loop-left-preserved
loop-left-preserved c =
    let pieces = c.loop-left.pieces.items in
    let piece : Piece = record { fields = c.loop-left.rest; count = c.min-count.result } in
    let left = fields_left c.loop-left.rest in
    record {
      left = ap (λ (k : ℕ). k - piece.count) c.loop-left.invariant.left ∙ sym (ap length c.advance_by.ensures ∙ length-drop piece.count left);
      whole = ap (λ (l : List Piece). flat_map piece_ids l ++ fields_left c.advance_by.new.self) c.in_ok-push.ensures.items
          ∙ ap (λ (l : List Bytes). flat_map piece_ids (pieces ++ piece ∷ []) ++ l) c.advance_by.ensures
          ∙ one_piece-more pieces piece left (fields_left c.args.list) refl c.loop-left.invariant.whole;
    }

pub returns : goal.returns
returns c =
    let pieces = flat_map piece_ids c.loop-left.pieces.items in
    let none : fields_left c.loop-left.rest ≡ [] = nil_from_length (fields_left c.loop-left.rest) (omega (arith, c.loop-left.invariant.left, c.loop-left-test.false)) in
    sym (append-nil pieces) ∙ ap (λ (l : List Bytes). pieces ++ l) (sym none) ∙ c.loop-left.invariant.whole
