use Rattle.std.proofs.Common.{◌∙◌, ◌++◌, ◌+◌, ◌<◌, ◌∷◌, Bool, List, Option, true, refl, ap, sym, subst, drop, length}
use Rattle.std.specs.Prelude.{All, flat_map}
use Rattle.std.proofs.lemmas.List.{drop_more, drop_all}
use Rattle.mt_id_lists.specs.Reading.{ids_read, ids_stand}
use Rattle.mt_id_lists.proofs.ReadingSteps.{read_all, read_one}
use Rattle.std.specs.Borrow.{Bor}
use Rattle.mt_lists.specs.declared.row.Fields.{Fields}
use Rattle.mt_numbered.specs.IdLists.{ids_in, list_seen}
use Rattle.mt_numbered.proofs.PieceFacts.{places_within, list_is_read}
use Rattle.mt_numbered.proofs.pieces.read_in_pieces.Goals as goal

pub loop-list-init : goal.loop-list-init
loop-list-init g c =
    let n = c.args.ids.now in
    record {
      long = c.in_ok-met.ensures ∙ c.len.ensures;
      lists = record {
        stand = refl;
        rest = ap (λ (l : List (List g.row.T.Denot)). l ++ flat_map (λ list. ids_read n (list_seen list)) c.args.lists.now) c.in_ok-read.ensures;
      };
    }

pub push_places-requires-clause-len : goal.push_places-requires-clause-len
push_places-requires-clause-len g c = c.in_ok-begin.ensures.len ∙ c.loop-list.invariant.long

pub push_places-requires-clause-within : goal.push_places-requires-clause-within
push_places-requires-clause-within g c =
    let ids = c.args.ids.now.ids in
    let are = rw c.in-Some.is at c.in_ok-places.ensures in
    subst (All (λ place. place < length ids)) (sym c.deref.ensures.value) (places_within ids (ids_in c.list-item.result.0) c.in-Some.places.items are)

pub loop-list-preserved : goal.loop-list-preserved
loop-list-preserved g c =
    let n = c.args.ids.now in
    let lists = c.args.lists.now in
    let i = c.loop-list.list-index in
    let stands : Option (Bor Fields) × Bool → Bool = λ l. ids_stand n (list_seen l) in
    let read : Option (Bor Fields) × Bool → List (List g.row.T.Denot) = λ l. ids_read n (list_seen l) in
    let list = c.list-item.result in
    let is = drop_more lists i list c.loop-list-test.true ∙ ap (λ (l : Option (Bor Fields) × Bool). l ∷ drop (i + 1) lists) (sym c.list-item.is) in
    let are = rw c.in-Some.is at c.in_ok-places.ensures in
    let reads = rw (c.deref.ensures.value, c.if-not-branch.false) at c.in_ok-push_places.ensures.reads in
    record {
      long = c.in_ok-push_places.ensures.len ∙ c.in_ok-begin.ensures.len ∙ c.loop-list.invariant.long;
      lists = read_one stands read lists c.loop-list.read (drop i lists) c.loop-list.invariant.lists list (drop (i + 1) lists) is c.push_places.new.lists
          (list_is_read n list c.in-Some.places.items c.loop-list.read c.begin_list.new.lists c.push_places.new.lists true are c.in_ok-begin_list.ensures reads);
    }

pub returns : goal.returns
returns g c =
    let n = c.args.ids.now in
    let lists = c.args.lists.now in
    let i = c.loop-list.list-index in
    let stands : Option (Bor Fields) × Bool → Bool = λ l. ids_stand n (list_seen l) in
    let read : Option (Bor Fields) × Bool → List (List g.row.T.Denot) = λ l. ids_read n (list_seen l) in
    let all = read_all stands read lists c.loop-list.read (drop i lists) c.loop-list.invariant.lists (drop_all i lists c.loop-list-test.false) in
    (all.0, c.in_ok-of.ensures ∙ all.1)
