use Rattle.std.proofs.lemmas.Result.{IfOk-weaker}
use Rattle.mt_id_lists.proofs.ReadingSteps.{all_seen}
use Rattle.mt_pair_lists.specs.Pairs.{pair_list_seen, pairs_stand_in, pairs_read}
use Rattle.mt_numbering.proofs.entries.pairs.Goals as goal

pub returns : goal.returns
returns g c = IfOk-weaker c.read_lists.result _ _ (λ o reads. all_seen pair_list_seen (pairs_stand_in c.args.reader.now.half_pairs c.args.reader.now.programs.now) (pairs_read c.args.reader.now.programs.now) _ _ o c.in_ok-lists.ensures reads) c.read_lists.ensures
