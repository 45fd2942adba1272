use Rattle.std.specs.Vec.Iter.{into_iter_items}
use Rattle.mt_id_lists.proofs.ChunkFacts.{AreJoinedTo}
use Rattle.mt_id_lists.proofs.chunks.join.Given as goal

abbrev pub invariant-loop-chunk : goal.invariant-loop-chunk
invariant-loop-chunk g l = AreJoinedTo l.fn.chunks.items l.joined (into_iter_items l.chunk-iterator)
