use Rattle.std.proofs.Common.{◌≡◌}
use Rattle.mt_flat.specs.ChunkedLists.{chunk_places}
use Rattle.mt_flat.proofs.chunked_lists.chunk_places.Given as goal

abbrev pub invariant-loop-number : goal.invariant-loop-number
invariant-loop-number l = l.places.items ≡ chunk_places l.chunk l.number
