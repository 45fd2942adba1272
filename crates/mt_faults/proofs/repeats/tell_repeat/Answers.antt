use Rattle.std.proofs.Common.{ap, sym, ◌∙◌, Err}
use Rattle.std.proofs.lemmas.Result.{err_from_is_err_and}
use Rattle.mt_fault_sink.specs.Seen.{faults_seen}
use Rattle.mt_fault_sink.specs.Telling.{at_record}
use Rattle.mt_fault_sink.proofs.TellingFacts.{Laws, all_told, memory_ends, starts, told_as}
use Rattle.mt_faults.specs.Repeated.{repeated}
use Rattle.mt_faults.specs.Seen.{field_seen}
use Rattle.mt_faults.proofs.SearchFacts.{repeated_id, repeated_none}
use Rattle.mt_faults.proofs.repeats.tell_repeat.Goals as goal

pub returns-then-not-is_id_field-clause-tells : goal.returns-then-not-is_id_field-clause-tells
returns-then-not-is_id_field-clause-tells g c =
    let laws : Laws g.S.FaultSink.takes g.S.FaultSink.told g.S.FaultSink.stopped = record { none = g.met.S.FaultSink.told_none; more = g.met.S.FaultSink.told_more; stops = g.met.S.FaultSink.stopped_after } in
    let field = field_seen c.args.field.now in
    let none = repeated_none c.args.rules.now c.args.entries.now field (sym c.is_id_field.ensures ∙ c.if-not-is_id_field.true) in
    all_told _ (starts laws c.args.sink.now (at_record c.args.number (repeated c.args.rules.now c.args.entries.now field)) c.requires) (ap (at_record c.args.number) none)

pub returns-in_err-fault-clause-tells : goal.returns-in_err-fault-clause-tells
returns-in_err-fault-clause-tells g c =
    let laws : Laws g.S.FaultSink.takes g.S.FaultSink.told g.S.FaultSink.stopped = record { none = g.met.S.FaultSink.told_none; more = g.met.S.FaultSink.told_more; stops = g.met.S.FaultSink.stopped_after } in
    let faults = at_record c.args.number (repeated c.args.rules.now c.args.entries.now (field_seen c.args.field.now)) in
    let q = err_from_is_err_and c.from_residual.result c.from_residual.ensures.1 in
    memory_ends c.from_residual.result (starts laws c.args.sink.now faults c.requires) (q.1 ∙ ap Err q.2)

pub returns-clause-tells : goal.returns-clause-tells
returns-clause-tells g c =
    let field = field_seen c.args.field.now in
    let some = repeated_id c.args.rules.now c.args.entries.now field (sym c.is_id_field.ensures ∙ c.if-not-is_id_field.false) in
    told_as g.S.FaultSink.takes g.S.FaultSink.told g.S.FaultSink.stopped c.args.sink.now c.tell.new.sink (at_record c.args.number (faults_seen c.in_ok-fault.fault)) _ c.tell.result
    (ap (at_record c.args.number) (c.in_ok-fault.ensures.fault ∙ sym some)) c.tell.ensures
