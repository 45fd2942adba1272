use Rattle.std.proofs.Common.{ap, sym, ◌∙◌, Err, ◌++◌, ◌∷◌, [], refl}
use Rattle.std.proofs.lemmas.Result.{err_from_is_err_and}
use Rattle.mt_terms.specs.Registration.Ids.{has_id}
use Rattle.mt_fault_terms.specs.OfRecord.{repeats_after}
use Rattle.mt_fault_sink.specs.Telling.{at_record}
use Rattle.mt_fault_sink.proofs.TellingFacts.{Laws, all_told, ends_early, goes, starts_as}
use Rattle.mt_faults.specs.Repeated.{repeated}
use Rattle.mt_faults.specs.Seen.{field_seen, placed_left}
use Rattle.mt_faults.proofs.RecordFacts.{alike_by}
use Rattle.mt_faults.proofs.SearchFacts.{in_two, repeated_is}
use Rattle.mt_faults.proofs.repeats.tell_repeats.Goals as goal

pub loop-field-init : goal.loop-field-init
loop-field-init g c =
    let laws : Laws g.S.FaultSink.takes g.S.FaultSink.told g.S.FaultSink.stopped = record { none = g.met.S.FaultSink.told_none; more = g.met.S.FaultSink.told_more; stops = g.met.S.FaultSink.stopped_after } in
    record {
      before = [];
      alike = λ id is. ap (λ xs. has_id xs id) c.new-entries.ensures;
      so_far = starts_as laws c.args.sink.now _ _ (ap (λ list. at_record c.args.number (repeats_after c.args.rules.now [] (placed_left list))) (sym c.into_iter-field-iterator.ensures.into_iter_gives)) c.requires;
    }

pub returns-in_err-tell_repeat : goal.returns-in_err-tell_repeat
returns-in_err-tell_repeat g c =
    let rules = c.args.rules.now in
    let n = c.args.number in
    let before = c.loop-field.invariant.before in
    let field = field_seen c.in-Some.field in
    let told = repeated rules c.loop-field.entries field in
    let rest = repeats_after rules (before ++ field.1 ∷ []) (placed_left c.next.new.self) in
    let next = repeated_is rules c.loop-field.entries before field c.loop-field.invariant.alike (placed_left c.next.new.self) in
    let q = err_from_is_err_and c.from_residual.result c.from_residual.ensures.1 in
    ends_early c.tell_repeat.new.sink (at_record n told) (at_record n rest) c.in_err-tell_repeat.field-0.0 c.from_residual.result c.loop-field.invariant.so_far c.in_err-tell_repeat.ensures.tells
    (ap (λ fields. at_record n (repeats_after rules before fields)) c.in-Some.ensures.steps ∙ in_two n _ told rest told next refl) (q.1 ∙ ap Err q.2)

pub loop-field-preserved : goal.loop-field-preserved
loop-field-preserved g c =
    let rules = c.args.rules.now in
    let n = c.args.number in
    let before = c.loop-field.invariant.before in
    let field = field_seen c.in-Some.field in
    let told = repeated rules c.loop-field.entries field in
    let rest = repeats_after rules (before ++ field.1 ∷ []) (placed_left c.next.new.self) in
    let next = repeated_is rules c.loop-field.entries before field c.loop-field.invariant.alike (placed_left c.next.new.self) in
    record {
      before = before ++ field.1 ∷ [];
      alike = alike_by rules c.loop-field.entries c.tell_repeat.new.entries before field (c.in_ok-tell_repeat.ensures.entries) c.loop-field.invariant.alike;
      so_far = goes c.tell_repeat.new.sink (at_record n told) (at_record n rest) c.loop-field.invariant.so_far c.in_ok-tell_repeat.ensures.tells (ap (λ fields. at_record n (repeats_after rules before fields)) c.in-Some.ensures.steps ∙ in_two n _ told rest told next refl);
    }

pub returns : goal.returns
returns g c = all_told _ c.loop-field.invariant.so_far (ap (λ fields. at_record c.args.number (repeats_after c.args.rules.now c.loop-field.invariant.before fields)) c.in-None.ensures.steps.0)
