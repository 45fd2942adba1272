use Rattle.std.proofs.Common.{refl}
use Rattle.std.proofs.lemmas.Result.{IfOk-weaker}
use Rattle.mt_records.specs.Fields.{pairs_left}
use Rattle.mt_id_lists.proofs.ReadingSteps.{one_seen}
use Rattle.mt_pair_lists.specs.Pairs.{pair_list_seen, pairs_read, pairs_stand_in}
use Rattle.mt_pair_lists.proofs.PairSteps.{pairs_are_added}
use Rattle.mt_pair_lists.proofs.pairs.PairReaderListReaderTuple2PairsBoolFoundPairs.read_list.Goals as goal

pub returns-clause-reads : goal.returns-clause-reads
returns-clause-reads c =
    let n = c.args.self.now.programs.now in
    let half_pairs = c.args.self.now.half_pairs in
    let list = c.args.list.now in
    IfOk-weaker c.push_pairs.result _ _
    (λ found reads.
    one_seen pair_list_seen (pairs_stand_in half_pairs n) (pairs_read n) list (list.1, pairs_left list.0) c.args.lists.now c.push_pairs.new.lists found refl
    (pairs_are_added n half_pairs list.1 (pairs_left list.0) c.args.lists.now c.begin_list.new.lists c.push_pairs.new.lists found c.in_ok-begin_list.ensures reads))
    c.push_pairs.ensures
