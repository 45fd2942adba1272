use Rattle.std.proofs.Common.{drop}
use Rattle.mt_id_lists.proofs.ReadingSteps.{AreReadTo}
use Rattle.mt_id_lists.proofs.parallel.read_chunk.Given as goal

abbrev pub invariant-loop-list : goal.invariant-loop-list
invariant-loop-list g l = record {
  fits : g.S.ListReader.fits l.reader l.met;
  lists : AreReadTo (g.S.ListReader.stands l.reader) (g.S.ListReader.read l.reader) l.lists l.read (drop l.list-index l.lists);
}
