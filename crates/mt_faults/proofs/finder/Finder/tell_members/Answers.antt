use Rattle.std.proofs.Common.{ap, ◌∙◌, ◌++◌, take, refl, Err}
use Rattle.std.proofs.lemmas.Result.{err_from_is_err_and}
use Rattle.mt_terms.specs.declared.codes.TheConstants.{DUPLICATE_ID}
use Rattle.mt_terms.specs.Lists.{head}
use Rattle.mt_fault_terms.specs.OfRecord.{found_among, members_before}
use Rattle.mt_fault_sink.specs.Seen.{faults_seen}
use Rattle.mt_fault_sink.specs.Telling.{at_record}
use Rattle.mt_fault_sink.proofs.TellingFacts.{Laws, finishes, goes, starts, starts_as}
use Rattle.mt_faults.specs.Seen.{faults_by_test, field_seen, placed_left}
use Rattle.mt_faults.proofs.SearchFacts.{ends_at, in_two}
use Rattle.mt_faults.proofs.RecordFacts.{members_in_turn, members_next, members_two, two_fields}
use Rattle.mt_faults.proofs.finder.Finder.tell_members.Goals as goal

pub returns-in_err-tell_each : goal.returns-in_err-tell_each
returns-in_err-tell_each g c =
    let laws : Laws g.S.FaultSink.takes g.S.FaultSink.told g.S.FaultSink.stopped = record { none = g.met.S.FaultSink.told_none; more = g.met.S.FaultSink.told_more; stops = g.met.S.FaultSink.stopped_after } in
    let n = c.args.number in
    let f = c.args.self.now in
    let fields = placed_left c.args.members in
    let ids = take f.before.applicants.seen f.registry.applicants in
    let one = found_among f.rules DUPLICATE_ID ids (placed_left c.first.result) in
    let rest = members_next f.rules ids fields in
    let split = members_in_turn f.rules ids fields (placed_left c.first.result) c.first.ensures in
    let s0 = starts_as laws c.args.sink.now (at_record n (one ++ rest)) (at_record n (members_before f.rules ids fields)) (ap (at_record n) split) c.requires.takes in
    let q = err_from_is_err_and c.from_residual.result c.from_residual.ensures.1 in
    ends_at n c.tell_each.new.sink one rest (faults_by_test f.rules c.found-test.result) c.in_err-tell_each.field-0.0 c.from_residual.result s0 c.in_err-tell_each.ensures (c.found-test.ensures f.rules) (q.1 ∙ ap Err q.2)

pub returns-in-Some-head : goal.returns-in-Some-head
returns-in-Some-head g c =
    let laws : Laws g.S.FaultSink.takes g.S.FaultSink.told g.S.FaultSink.stopped = record { none = g.met.S.FaultSink.told_none; more = g.met.S.FaultSink.told_more; stops = g.met.S.FaultSink.stopped_after } in
    let n = c.args.number in
    let f = c.args.self.now in
    let fields = placed_left c.args.members in
    let ids = take f.before.applicants.seen f.registry.applicants in
    let both = two_fields fields (field_seen c.in-Some.first) (field_seen c.in-Some-head.second) c.in-Some.ensures (c.in-Some-head.ensures ∙ ap head c.tail.ensures) c.requires.few in
    let one = found_among f.rules DUPLICATE_ID ids (placed_left c.first.result) in
    let two = faults_seen c.second_found.result in
    let split = members_two f.rules ids fields (field_seen c.in-Some.first) (field_seen c.in-Some-head.second) one two both (ap (found_among f.rules DUPLICATE_ID ids) c.first.ensures) c.second_found.ensures in
    let s0 = starts laws c.args.sink.now (at_record n (members_before f.rules ids fields)) c.requires.takes in
    let told = faults_by_test f.rules c.found-test.result in
    let s1 = goes c.tell_each.new.sink (at_record n told) (at_record n two) s0 c.in_ok-tell_each.ensures (in_two n (members_before f.rules ids fields) one two told split (c.found-test.ensures f.rules)) in
    finishes c.tell.new.sink (at_record n two) c.tell.result s1 refl c.tell.ensures
