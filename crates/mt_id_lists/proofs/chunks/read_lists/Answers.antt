use Rattle.std.proofs.Common.{List, subst}
use Rattle.std.proofs.lemmas.Result.{IfOk-weaker}
use Rattle.mt_id_lists.specs.Reading.{AreReadInChunks}
use Rattle.mt_id_lists.proofs.ChunkFacts.{lists_read}
use Rattle.mt_id_lists.proofs.chunks.read_lists.Goals as goal

pub returns : goal.returns
returns g c =
    let stands = g.S.ListReader.stands c.args.reader.now in
    let read = g.S.ListReader.read c.args.reader.now in
    let done = c.in_ok-chunks.chunks.items in
    let are = subst (λ (l : List g.row.L.Denot). AreReadInChunks stands read l done) c.deref-2.ensures.value c.in_ok-chunks.ensures in
    IfOk-weaker c.join.result _ _ (λ new joins. lists_read stands read c.args.lists.items are.chunks done new are.each are.whole joins) c.join.ensures
