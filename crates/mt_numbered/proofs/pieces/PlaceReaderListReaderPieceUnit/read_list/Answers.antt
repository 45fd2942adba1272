use Rattle.std.proofs.Common.{◌≡◌, ℕ, ◌∙◌, ◌∷◌, ◌-◌, [], List, true, false, refl, ap, sym, length, length-append, map, take, arith}
use Rattle.std.specs.List.{list_all}
use Rattle.mt_lists.specs.Rows.{fields_left}
use Rattle.mt_terms.specs.Registration.Ids.{Bytes, has_id, number_of}
use Rattle.mt_ids.proofs.IdFacts.{found_id, found_below, missing_id}
use Rattle.mt_id_lists.specs.Reading.{with_more}
use Rattle.mt_id_lists.proofs.ListFacts.{length-with_last, with_more-begun}
use Rattle.mt_numbered.proofs.BatchFacts.{first_left, next_field}
use Rattle.mt_numbered.proofs.PieceFacts.{piece_unknown, piece_known, piece_more}
use Rattle.mt_numbered.proofs.pieces.PlaceReaderListReaderPieceUnit.read_list.Goals as goal

pub loop-left-init : goal.loop-left-init
loop-left-init g c =
    let piece = c.args.piece.now in
    let lists = c.args.lists.now in
    let numbers = map (number_of c.args.self.now) (take piece.count (fields_left piece.fields)) in
    let begun = c.in_ok-begin.ensures.ok in
    record {
      begun = omega (arith, ap length begun, length-append lists ([] ∷ []));
      stands = refl;
      rest = ap (λ (l : List (List ℕ)). with_more l numbers) begun ∙ with_more-begun lists numbers;
    }

pub loop-i-init : goal.loop-i-init
loop-i-init g c =
    let ids = c.args.self.now in
    let some = c.take_fields-count in
    let same = first_left some.new.fields some.result c.loop-left.left (fields_left c.loop-left.rest) (fields_left some.new.rest) some.ensures.most
    (omega (arith, some.ensures.few, c.if-count-eq0.array_long)) some.ensures.taken in
    record {
      begun = c.loop-left.invariant.begun;
      stands = ap (list_all (has_id ids)) (sym same) ∙ c.loop-left.invariant.stands;
      rest = ap (λ (l : List Bytes). with_more c.loop-left.lists (map (number_of ids) l)) (sym same) ∙ c.loop-left.invariant.rest;
    }

pub returns-in_default-clause-reads : goal.returns-in_default-clause-reads
returns-in_default-clause-reads g c =
    let table = c.self.inside.numbered.now.ids in
    let some = c.take_fields-count in
    let next = next_field (take (c.loop-left.left - some.result) (fields_left some.new.rest)) c.loop-i-test.true some.ensures.few c.if-count-eq0.array_long c.find_places.ensures in
    let missing : has_id c.args.self.now next.field ≡ false = ap (λ (l : List Bytes). has_id l next.field) (sym c.self.view_is) ∙ missing_id table next.field (sym c.in_default.is ∙ next.found) in
    piece_unknown c.args.self.now _ next.field _ next.steps _ missing c.loop-i.invariant.stands

pub overflow_cast-place : goal.overflow_cast-place
overflow_cast-place g c =
    let table = c.self.inside.numbered.now.ids in
    let some = c.take_fields-count in
    let next = next_field (take (c.loop-left.left - some.result) (fields_left some.new.rest)) c.loop-i-test.true some.ensures.few c.if-count-eq0.array_long c.find_places.ensures in
    omega (arith, found_below table next.field c.in-Some.place (sym c.in-Some.is ∙ next.found), c.self.invariant)

pub loop-i-preserved : goal.loop-i-preserved
loop-i-preserved g c =
    let ids = c.args.self.now in
    let table = c.self.inside.numbered.now.ids in
    let place = c.in-Some.place in
    let some = c.take_fields-count in
    let next = next_field (take (c.loop-left.left - some.result) (fields_left some.new.rest)) c.loop-i-test.true some.ensures.few c.if-count-eq0.array_long c.find_places.ensures in
    let at = found_id table next.field place (sym c.in-Some.is ∙ next.found) in
    let known : has_id ids next.field ≡ true = ap (λ (l : List Bytes). has_id l next.field) (sym c.self.view_is) ∙ at.0 in
    let number : number_of ids next.field ≡ place = ap (λ (l : List Bytes). number_of l next.field) (sym c.self.view_is) ∙ at.1 in
    let grown = c.in_ok-push.ensures.ok in
    record {
      begun = omega (arith, ap length grown, length-with_last c.loop-i.lists place, c.loop-i.invariant.begun);
      stands = piece_known ids _ next.field _ next.steps _ known c.loop-i.invariant.stands;
      rest = piece_more ids _ next.field _ next.steps place c.loop-i.lists c.push.new.self _ number grown c.loop-i.invariant.rest;
    }
