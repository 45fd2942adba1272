use Rattle.std.proofs.Common.{◌≡◌, ◌∙◌, List, ℕ, map, ap, sym, length, arith}
use Rattle.std.specs.Prelude.{flat_map}
use Rattle.std.specs.List.{list_all}
use Rattle.mt_terms.specs.Registration.Ids.{has_id, number_of}
use Rattle.mt_numbered.specs.IdLists.{ids_in}
use Rattle.mt_numbered.specs.Pieces.{piece_ids}
use Rattle.mt_numbered.proofs.PieceFacts.{pieces_stand, pieces_read, length-pieces_read}
use Rattle.mt_numbered.proofs.pieces.PlaceReader.places.Goals as goal

pub returns-in_default-2 : goal.returns-in_default-2
returns-in_default-2 g c =
    let ids = c.args.self.now in
    let pieces = c.in_ok-pieces.pieces.items in
    let whole : flat_map piece_ids pieces ≡ ids_in c.args.ids = c.in_ok-pieces.ensures ∙ sym (ap ids_in c.in-Some.is) in
    let reads = rw c.in_default-2.is at c.in_ok-places.ensures in
    sym (ap (list_all (has_id ids)) whole) ∙ sym (pieces_stand ids pieces) ∙ reads

pub joined-requires : goal.joined-requires
joined-requires g c =
    let reads = rw c.in-Some-2.is at c.in_ok-places.ensures in
    let long = ap length reads.1 ∙ length-pieces_read c.args.self.now c.in_ok-pieces.pieces.items in
    omega (arith, long, c.len-count.ensures, c.in_ok-pieces.pieces.ok.0)

pub returns : goal.returns
returns g c =
    let ids = c.args.self.now in
    let pieces = c.in_ok-pieces.pieces.items in
    let whole : flat_map piece_ids pieces ≡ ids_in c.args.ids = c.in_ok-pieces.ensures ∙ sym (ap ids_in c.in-Some.is) in
    let reads = rw c.in-Some-2.is at c.in_ok-places.ensures in (
      sym (ap (list_all (has_id ids)) whole) ∙ sym (pieces_stand ids pieces) ∙ reads.0,
      c.in_ok-joined.ensures ∙ ap (flat_map (λ (l : List ℕ). l)) reads.1 ∙ pieces_read ids pieces ∙ ap (map (number_of ids)) whole,
    )
