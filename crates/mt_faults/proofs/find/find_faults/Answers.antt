use Rattle.std.proofs.Common.{ap, sym, ◌∙◌}
use Rattle.mt_lists.specs.Rows.{rows_left}
use Rattle.mt_terms.specs.Registration.Passes.{numbered_from}
use Rattle.mt_fault_sink.specs.Telling.{at_record}
use Rattle.mt_fault_sink.proofs.TellingFacts.{told_as}
use Rattle.mt_faults.proofs.SearchFacts.{faults_there, only_fault}
use Rattle.mt_faults.proofs.find.find_faults.Goals as goal

pub returns-in-Ok : goal.returns-in-Ok
returns-in-Ok g c =
    let body = c.in-Ok.body in
    told_as g.S.FaultSink.takes g.S.FaultSink.told g.S.FaultSink.stopped c.args.sink.now c.tell_rows.new.sink _ _ c.tell_rows.result
    (sym (faults_there body.rules (numbered_from body.first (rows_left body.rows)) (numbered_from 1 c.args.rows.now) c.in-Ok.ensures.body)) c.tell_rows.ensures

pub returns-in-Err : goal.returns-in-Err
returns-in-Err g c =
    told_as g.S.FaultSink.takes g.S.FaultSink.told g.S.FaultSink.stopped c.args.sink.now c.tell.new.sink _ _ c.tell.result
    (ap (at_record c.in-Err.number) c.fault_alone.ensures ∙ sym (only_fault (numbered_from 1 c.args.rows.now) c.in-Err.number c.in-Err.ensures)) c.tell.ensures
