use Rattle.std.proofs.Common.{ap, sym, ◌∙◌, Err, ◌++◌, refl, if◌then◌else◌, [], ◌∷◌}
use Rattle.std.specs.Prelude.{flat_map}
use Rattle.std.proofs.lemmas.Result.{err_from_is_err_and}
use Rattle.mt_terms.specs.declared.codes.TheConstants.{BAD_ID}
use Rattle.mt_fault_terms.specs.Faults.{fault_alone}
use Rattle.mt_fault_terms.specs.OfRecord.{alone_at, bad_of_pair, is_place_field}
use Rattle.mt_fault_sink.specs.Seen.{faults_seen}
use Rattle.mt_fault_sink.specs.Telling.{at_record}
use Rattle.mt_fault_sink.proofs.TellingFacts.{Laws, all_told, ends_early, goes, starts_as}
use Rattle.mt_faults.specs.Seen.{field_seen, pairs_left}
use Rattle.mt_faults.proofs.SearchFacts.{bad_pair_next, in_two}
use Rattle.mt_faults.proofs.tell.tell_bad_pairs.Goals as goal

pub loop-first-init : goal.loop-first-init
loop-first-init g c =
    let laws : Laws g.S.FaultSink.takes g.S.FaultSink.told g.S.FaultSink.stopped = record { none = g.met.S.FaultSink.told_none; more = g.met.S.FaultSink.told_more; stops = g.met.S.FaultSink.stopped_after } in
    starts_as laws c.args.sink.now _ _ (ap (λ pairs. at_record c.args.number (alone_at BAD_ID (flat_map (bad_of_pair c.args.rules.now) (pairs_left pairs)))) (sym c.into_iter-first-iterator.ensures.into_iter_gives)) c.requires

pub returns-in_err-tell : goal.returns-in_err-tell
returns-in_err-tell g c =
    let n = c.args.number in
    let rules = c.args.rules.now in
    let rest = alone_at BAD_ID (flat_map (bad_of_pair rules) (pairs_left c.next.new.self)) in
    let one = faults_seen c.bad_place.result in
    let two = if is_place_field rules (field_seen c.in-Some.second) (field_seen c.in-Some.first) then [] else fault_alone BAD_ID (field_seen c.in-Some.second).0 ∷ [] in
    let next = bad_pair_next rules _ (pairs_left c.next.new.self) (field_seen c.in-Some.first, field_seen c.in-Some.second) one two c.in-Some.ensures.steps c.bad_place.ensures refl in
    let q = err_from_is_err_and c.from_residual.result c.from_residual.ensures.1 in
    ends_early c.tell.new.sink (at_record n one) (at_record n (two ++ rest)) c.in_err-tell.field-0.0 c.from_residual.result c.loop-first.invariant c.in_err-tell.ensures
    (in_two n _ one (two ++ rest) one next refl) (q.1 ∙ ap Err q.2)

pub returns-in_err-tell-2 : goal.returns-in_err-tell-2
returns-in_err-tell-2 g c =
    let n = c.args.number in
    let rules = c.args.rules.now in
    let rest = alone_at BAD_ID (flat_map (bad_of_pair rules) (pairs_left c.next.new.self)) in
    let one = faults_seen c.bad_place.result in
    let two = faults_seen c.bad_place-in-loop-first.result in
    let next = bad_pair_next rules _ (pairs_left c.next.new.self) (field_seen c.in-Some.first, field_seen c.in-Some.second) one two c.in-Some.ensures.steps c.bad_place.ensures c.bad_place-in-loop-first.ensures in
    let q = err_from_is_err_and c.from_residual-in_err-tell-2.result c.from_residual-in_err-tell-2.ensures.1 in
    ends_early c.tell-in-loop-first.new.sink (at_record n two) (at_record n rest) c.in_err-tell-2.field-0.0 c.from_residual-in_err-tell-2.result
    (goes c.tell.new.sink (at_record n one) (at_record n (two ++ rest)) c.loop-first.invariant c.in_ok-tell.ensures (in_two n _ one (two ++ rest) one next refl))
    c.in_err-tell-2.ensures (in_two n (two ++ rest) two rest two refl refl) (q.1 ∙ ap Err q.2)

pub loop-first-preserved : goal.loop-first-preserved
loop-first-preserved g c =
    let n = c.args.number in
    let rules = c.args.rules.now in
    let rest = alone_at BAD_ID (flat_map (bad_of_pair rules) (pairs_left c.next.new.self)) in
    let one = faults_seen c.bad_place.result in
    let two = faults_seen c.bad_place-in-loop-first.result in
    let next = bad_pair_next rules _ (pairs_left c.next.new.self) (field_seen c.in-Some.first, field_seen c.in-Some.second) one two c.in-Some.ensures.steps c.bad_place.ensures c.bad_place-in-loop-first.ensures in
    goes c.tell-in-loop-first.new.sink (at_record n two) (at_record n rest)
    (goes c.tell.new.sink (at_record n one) (at_record n (two ++ rest)) c.loop-first.invariant c.in_ok-tell.ensures (in_two n _ one (two ++ rest) one next refl))
    c.in_ok-tell-2.ensures (in_two n (two ++ rest) two rest two refl refl)

pub returns : goal.returns
returns g c = all_told _ c.loop-first.invariant (ap (λ pairs. at_record c.args.number (alone_at BAD_ID (flat_map (bad_of_pair c.args.rules.now) pairs))) c.in-None.ensures.steps.0)
