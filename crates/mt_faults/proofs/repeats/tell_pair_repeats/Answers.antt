use Rattle.std.proofs.Common.{ap, sym, ◌∙◌, Err, ◌++◌, ◌∷◌, [], refl, if◌then◌else◌}
use Rattle.std.specs.Prelude.{is_some}
use Rattle.std.specs.List.{list_any}
use Rattle.std.proofs.lemmas.Result.{err_from_is_err_and}
use Rattle.mt_terms.specs.Registration.Passes.{is_same_pair}
use Rattle.mt_fault_terms.specs.OfRecord.{pair_repeats_after}
use Rattle.mt_fault_terms.specs.Parts.{PlacedPair}
use Rattle.mt_fault_sink.specs.Seen.{faults_seen}
use Rattle.mt_fault_sink.specs.Telling.{at_record}
use Rattle.mt_fault_sink.proofs.TellingFacts.{Laws, all_told, ends_early, goes, memory_ends, starts_as}
use Rattle.mt_faults.specs.Seen.{field_seen, pairs_left}
use Rattle.mt_faults.proofs.RecordFacts.{fields_of, pairs_alike_more}
use Rattle.mt_faults.proofs.SearchFacts.{in_two, repeated_pair_is}
use Rattle.mt_faults.proofs.repeats.tell_pair_repeats.Goals as goal

pub loop-first-init : goal.loop-first-init
loop-first-init g c =
    let laws : Laws g.S.FaultSink.takes g.S.FaultSink.told g.S.FaultSink.stopped = record { none = g.met.S.FaultSink.told_none; more = g.met.S.FaultSink.told_more; stops = g.met.S.FaultSink.stopped_after } in
    record {
      before = [];
      alike = λ p. ap (list_any (is_same_pair p)) c.new-entries.ensures;
      so_far = starts_as laws c.args.sink.now _ _ (ap (λ pairs. at_record c.args.number (pair_repeats_after c.args.rules.now [] (pairs_left pairs))) (sym c.into_iter-first-iterator.ensures.into_iter_gives)) c.requires;
    }

pub returns-in_err-place : goal.returns-in_err-place
returns-in_err-place g c =
    let q = err_from_is_err_and c.from_residual.result c.from_residual.ensures.1 in
    memory_ends c.from_residual.result c.loop-first.invariant.so_far (q.1 ∙ ap Err q.2)

pub returns-in_err-tell : goal.returns-in_err-tell
returns-in_err-tell g c =
    let rules = c.args.rules.now in
    let n = c.args.number in
    let before = c.loop-first.invariant.before in
    let pair : PlacedPair = (field_seen c.in-Some.first, field_seen c.in-Some.second) in
    let fields = fields_of pair in
    let told = faults_seen c.repeated_pair.result in
    let rest = pair_repeats_after rules (before ++ fields ∷ []) (pairs_left c.next.new.self) in
    let found = c.in_ok-place.ensures.found ∙ ap (λ p. list_any (is_same_pair p) c.loop-first.entries) c.pair_of.ensures in
    let next = repeated_pair_is rules c.loop-first.entries before pair (is_some c.in_ok-place.place) told c.loop-first.invariant.alike found c.repeated_pair.ensures (pairs_left c.next.new.self) in
    let q = err_from_is_err_and c.from_residual-in_err-tell.result c.from_residual-in_err-tell.ensures.1 in
    ends_early c.tell.new.sink (at_record n told) (at_record n rest) c.in_err-tell.field-0.0 c.from_residual-in_err-tell.result c.loop-first.invariant.so_far c.in_err-tell.ensures
    (ap (λ pairs. at_record n (pair_repeats_after rules before pairs)) c.in-Some.ensures.steps ∙ in_two n _ told rest told next refl) (q.1 ∙ ap Err q.2)

pub loop-first-preserved : goal.loop-first-preserved
loop-first-preserved g c =
    let rules = c.args.rules.now in
    let n = c.args.number in
    let before = c.loop-first.invariant.before in
    let pair : PlacedPair = (field_seen c.in-Some.first, field_seen c.in-Some.second) in
    let fields = fields_of pair in
    let told = faults_seen c.repeated_pair.result in
    let rest = pair_repeats_after rules (before ++ fields ∷ []) (pairs_left c.next.new.self) in
    let found = c.in_ok-place.ensures.found ∙ ap (λ p. list_any (is_same_pair p) c.loop-first.entries) c.pair_of.ensures in
    let next = repeated_pair_is rules c.loop-first.entries before pair (is_some c.in_ok-place.place) told c.loop-first.invariant.alike found c.repeated_pair.ensures (pairs_left c.next.new.self) in
    record {
      before = before ++ fields ∷ [];
      alike = pairs_alike_more c.loop-first.entries c.add.new.self before fields c.loop-first.invariant.alike
          (c.in_ok-place.ensures.pairs ∙ ap (λ p. if list_any (is_same_pair p) c.loop-first.entries then c.loop-first.entries else c.loop-first.entries ++ p ∷ []) c.pair_of.ensures);
      so_far = goes c.tell.new.sink (at_record n told) (at_record n rest) c.loop-first.invariant.so_far c.in_ok-tell.ensures (ap (λ pairs. at_record n (pair_repeats_after rules before pairs)) c.in-Some.ensures.steps ∙ in_two n _ told rest told next refl);
    }

pub returns : goal.returns
returns g c = all_told _ c.loop-first.invariant.so_far (ap (λ pairs. at_record c.args.number (pair_repeats_after c.args.rules.now c.loop-first.invariant.before pairs)) c.in-None.ensures.steps.0)
