use Rattle.std.proofs.Common.{ap}
use Rattle.std.proofs.lemmas.Result.{IfOk-weaker}
use Rattle.mt_lists.specs.Rows.{fields_left}
use Rattle.mt_id_lists.specs.Reading.{ids_stand, ids_read}
use Rattle.mt_numbered.specs.IdLists.{ids_in, list_seen}
use Rattle.mt_id_lists.proofs.ReadingSteps.{ids_are_read, one_seen}
use Rattle.mt_numbered.proofs.numbered.NumberedListReaderTuple2OptionRefFieldsBoolMet.read_list.Goals as goal

pub returns-in_ok-begin-in-Some-clause-reads : goal.returns-in_ok-begin-in-Some-clause-reads
returns-in_ok-begin-in-Some-clause-reads g c =
    let n = c.args.self.now in
    let list = c.args.list.now in
    let ids = fields_left c.in-Some.fields.now in
    IfOk-weaker c.push_ids.result _ _
    (λ found reads.
    one_seen list_seen (ids_stand n) (ids_read n) list (list.1, ids) c.args.lists.now c.push_ids.new.lists found (ap (λ f. (list.1, ids_in f)) c.in-Some.is)
    (ids_are_read n list.1 ids c.args.lists.now c.begin_list.new.lists c.push_ids.new.lists found c.in_ok-begin_list.ensures reads))
    c.push_ids.ensures.reads
