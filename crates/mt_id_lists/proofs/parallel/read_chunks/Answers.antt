use Rattle.std.proofs.Common.{◌≡◌, ap, ◌∙◌, refl, subst}
use Rattle.std.specs.Prelude.{IfOk}
use Rattle.std.proofs.lemmas.Result.{IfOk-weaker}
use Rattle.rayon.proofs.ToStd.{chunks_of-concat}
use Rattle.rayon.specs.Lists.{chunks_of, chunks_size, chunks_slice, min_len_base}
use Rattle.mt_id_lists.specs.Reading.{AreReadInChunks, ReadsAll}
use Rattle.mt_id_lists.proofs.ChunkFacts.{chunks_by_threads}
use Rattle.mt_id_lists.proofs.parallel.read_chunks.Goals as goal

pub returns : goal.returns
returns g c =
    let made = c.in_ok-collect.ensures in
    let chunks = c.map.result.base.base in
    let lists = c.args.lists.now in
    let size = c.args.size in
    let reader : c.map.result.f.1.now ≡ c.args.reader.now = rw c.map.ensures.f refl in
    let stands = g.S.ListReader.stands c.map.result.f.1.now in
    let read = g.S.ListReader.read c.map.result.f.1.now in
    let each = chunks_by_threads (ReadsAll stands read) lists chunks.slice.now size chunks.size made.1.0 made.0 c.in_ok-collect.field-0 c.requires
    (ap (λ m. chunks_size (min_len_base m)) c.map.ensures.base ∙ ap chunks_size c.with_min_len.ensures.base ∙ c.par_chunks.ensures.size)
    (ap (λ m. chunks_slice (min_len_base m)) c.map.ensures.base ∙ ap chunks_slice c.with_min_len.ensures.base ∙ c.par_chunks.ensures.slice)
    made.1.1 made.1.2 made.2 in
    subst (λ (s : g.row.S.Denot). IfOk c.in_ok-collect.field-0 (λ v. AreReadInChunks (g.S.ListReader.stands s) (g.S.ListReader.read s) lists v.items)) reader
    (IfOk-weaker c.in_ok-collect.field-0 _ _ (λ v each. record { chunks = chunks_of size lists; whole = chunks_of-concat size lists c.requires; each = each }) each)
