use Rattle.std.proofs.lemmas.Result.{IfOk-weaker}
use Rattle.mt_id_lists.proofs.ReadingSteps.{all_seen}
use Rattle.mt_id_lists.specs.Reading.{ids_stand, ids_read}
use Rattle.mt_numbered.specs.IdLists.{list_seen}
use Rattle.mt_numbering.proofs.entries.rankings.Goals as goal

pub returns : goal.returns
returns g c = IfOk-weaker c.read_id_lists.result _ _ (λ o reads. all_seen list_seen (ids_stand c.args.applicants.now) (ids_read c.args.applicants.now) _ _ o c.in_ok-lists.ensures reads) c.read_id_lists.ensures
