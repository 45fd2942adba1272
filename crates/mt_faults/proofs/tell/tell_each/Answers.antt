use Rattle.std.proofs.Common.{ap, sym, ◌∙◌, Err}
use Rattle.std.specs.Prelude.{flat_map}
use Rattle.std.proofs.lemmas.Result.{err_from_is_err_and}
use Rattle.mt_fault_sink.specs.Seen.{faults_seen}
use Rattle.mt_fault_sink.specs.Telling.{at_record}
use Rattle.mt_fault_sink.proofs.TellingFacts.{Laws, all_told, ends_early, goes, starts_as}
use Rattle.mt_faults.specs.Seen.{field_seen, placed_left, tested}
use Rattle.mt_faults.proofs.SearchFacts.{next_of}
use Rattle.mt_faults.proofs.tell.tell_each.Goals as goal

pub loop-field-init : goal.loop-field-init
loop-field-init g c =
    let laws : Laws g.S.FaultSink.takes g.S.FaultSink.told g.S.FaultSink.stopped = record { none = g.met.S.FaultSink.told_none; more = g.met.S.FaultSink.told_more; stops = g.met.S.FaultSink.stopped_after } in
    starts_as laws c.args.sink.now _ _ (ap (λ fields. at_record c.args.number (flat_map (tested c.args.test.wrong c.args.rules.now) (placed_left fields))) (sym c.into_iter-field-iterator.ensures.into_iter_gives)) c.requires

pub loop-field-preserved : goal.loop-field-preserved
loop-field-preserved g c =
    let wrong = tested c.args.test.wrong c.args.rules.now in
    goes c.tell.new.sink _ _ c.loop-field.invariant c.in_ok-tell.ensures
    (next_of c.args.number wrong _ (placed_left c.next.new.self) (field_seen c.in-Some.field) (faults_seen c.fault.result) c.in-Some.ensures.steps c.fault.ensures)

pub returns-in_err-tell : goal.returns-in_err-tell
returns-in_err-tell g c =
    let wrong = tested c.args.test.wrong c.args.rules.now in
    let p = err_from_is_err_and c.from_residual.result c.from_residual.ensures.1 in
    ends_early c.tell.new.sink _ _ c.in_err-tell.field-0.0 c.from_residual.result c.loop-field.invariant c.in_err-tell.ensures
    (next_of c.args.number wrong _ (placed_left c.next.new.self) (field_seen c.in-Some.field) (faults_seen c.fault.result) c.in-Some.ensures.steps c.fault.ensures)
    (p.1 ∙ ap Err p.2)

pub returns : goal.returns
returns g c = all_told _ c.loop-field.invariant (ap (λ fields. at_record c.args.number (flat_map (tested c.args.test.wrong c.args.rules.now) fields)) c.in-None.ensures.steps.0)
