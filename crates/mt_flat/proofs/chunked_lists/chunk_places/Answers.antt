use Rattle.std.proofs.Common.{◌≡◌, ◌∙◌, ap, arith}
use Rattle.std.proofs.lemmas.Grind.{common_steps}
use Rattle.mt_flat.specs.ChunkedLists.{chunk_places}
use Rattle.mt_flat.proofs.ChunkFacts.{chunk_places-more}
use Rattle.mt_flat.proofs.chunked_lists.chunk_places.Goals as goal

pub loop-number-preserved : goal.loop-number-preserved
loop-number-preserved c = grind (arith, common_steps, chunk_places-more)

pub loop-number-init : goal.loop-number-init
loop-number-init c = c.in_ok-places.ensures.items

pub returns : goal.returns
returns c =
    let all : c.loop-number.number ≡ c.args.count = omega (arith, c.loop-number-test.false, c.loop-number.auto.number-end) in
    c.loop-number.invariant ∙ ap (chunk_places c.args.chunk) all
