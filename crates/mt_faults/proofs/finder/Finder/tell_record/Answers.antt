use Rattle.std.proofs.Common.{◌++◌, Err, ap, ◌∙◌, refl, take}
use Rattle.std.proofs.lemmas.Result.{err_from_is_err_and}
use Rattle.mt_fault_terms.specs.OfRecord.{limit_faults, members_before, own_faults, record_faults, unknown_faults}
use Rattle.mt_fault_terms.specs.Parts.{all_applicants}
use Rattle.mt_fault_sink.specs.Telling.{at_record}
use Rattle.mt_fault_sink.proofs.TellingFacts.{Laws, finishes, starts_as}
use Rattle.mt_faults.specs.Names.{members_of}
use Rattle.mt_faults.specs.Repeated.{repeats_in_list}
use Rattle.mt_faults.specs.Seen.{faults_by_test, parts_seen, placed_left}
use Rattle.mt_faults.specs.Standing.{own_again, withdrawn_again}
use Rattle.mt_faults.proofs.RecordFacts.{from_limits, from_members, from_own, from_repeats, from_withdrawn, members_few, members_told, record_in_turn}
use Rattle.mt_faults.proofs.SearchFacts.{ends_at, tells_next}
use Rattle.mt_faults.proofs.StandingFacts.{is_applicant_before}
use Rattle.mt_faults.proofs.finder.Finder.tell_record.Goals as goal

pub tell_members-requires-clause-few : goal.tell_members-requires-clause-few
tell_members-requires-clause-few g c = members_few (parts_seen c.args.parts.now) (placed_left c.members.result) c.members.ensures c.requires.few

pub returns-in_err-tell_own-clause-tells : goal.returns-in_err-tell_own-clause-tells
returns-in_err-tell_own-clause-tells g c = λ all before s.
    let laws : Laws g.S.FaultSink.takes g.S.FaultSink.told g.S.FaultSink.stopped = record { none = g.met.S.FaultSink.told_none; more = g.met.S.FaultSink.told_more; stops = g.met.S.FaultSink.stopped_after } in
    let n = c.args.number in
    let f = c.args.self.now in
    let rules = f.rules in
    let p = parts_seen c.args.parts.now in
    let s0 = starts_as laws c.args.sink.now (at_record n (own_faults rules p ++ from_own rules all before p)) (at_record n (record_faults rules all before p)) (ap (at_record n) (record_in_turn rules all before p)) c.requires.takes in
    let q = err_from_is_err_and c.from_residual.result c.from_residual.ensures.1 in
    ends_at n c.tell_own.new.sink (own_faults rules p) (from_own rules all before p) (own_faults rules p) c.in_err-tell_own.field-0.0 c.from_residual.result s0 c.in_err-tell_own.ensures refl (q.1 ∙ ap Err q.2)

pub returns-in_err-tell_each-clause-tells : goal.returns-in_err-tell_each-clause-tells
returns-in_err-tell_each-clause-tells g c = λ all before s.
    let laws : Laws g.S.FaultSink.takes g.S.FaultSink.told g.S.FaultSink.stopped = record { none = g.met.S.FaultSink.told_none; more = g.met.S.FaultSink.told_more; stops = g.met.S.FaultSink.stopped_after } in
    let n = c.args.number in
    let f = c.args.self.now in
    let rules = f.rules in
    let p = parts_seen c.args.parts.now in
    let s0 = starts_as laws c.args.sink.now (at_record n (own_faults rules p ++ from_own rules all before p)) (at_record n (record_faults rules all before p)) (ap (at_record n) (record_in_turn rules all before p)) c.requires.takes in
    let s1 = tells_next n c.tell_own.new.sink (own_faults rules p) (from_own rules all before p) (own_faults rules p) s0 c.in_ok-tell_own.ensures refl in
    let q = err_from_is_err_and c.from_residual-in_err-tell_each.result c.from_residual-in_err-tell_each.ensures.1 in
    ends_at n c.tell_each.new.sink (own_again rules before p) (from_members rules all before p) (faults_by_test rules c.own_again.result) c.in_err-tell_each.field-0.0 c.from_residual-in_err-tell_each.result s1 c.in_err-tell_each.ensures (c.own_again.ensures all before s) (q.1 ∙ ap Err q.2)

pub returns-in_err-tell_members-clause-tells : goal.returns-in_err-tell_members-clause-tells
returns-in_err-tell_members-clause-tells g c = λ all before s.
    let laws : Laws g.S.FaultSink.takes g.S.FaultSink.told g.S.FaultSink.stopped = record { none = g.met.S.FaultSink.told_none; more = g.met.S.FaultSink.told_more; stops = g.met.S.FaultSink.stopped_after } in
    let n = c.args.number in
    let f = c.args.self.now in
    let rules = f.rules in
    let p = parts_seen c.args.parts.now in
    let known = take f.before.applicants.seen f.registry.applicants in
    let s0 = starts_as laws c.args.sink.now (at_record n (own_faults rules p ++ from_own rules all before p)) (at_record n (record_faults rules all before p)) (ap (at_record n) (record_in_turn rules all before p)) c.requires.takes in
    let s1 = tells_next n c.tell_own.new.sink (own_faults rules p) (from_own rules all before p) (own_faults rules p) s0 c.in_ok-tell_own.ensures refl in
    let s2 = tells_next n c.tell_each.new.sink (own_again rules before p) (from_members rules all before p) (faults_by_test rules c.own_again.result) s1 c.in_ok-tell_each.ensures (c.own_again.ensures all before s) in
    let q = err_from_is_err_and c.from_residual-in_err-tell_members.result c.from_residual-in_err-tell_members.ensures.1 in
    ends_at n c.tell_members.new.sink (members_before rules (all_applicants rules before) (members_of p)) (from_repeats rules all before p) (members_before rules known (placed_left c.members.result)) c.in_err-tell_members.field-0.0 c.from_residual-in_err-tell_members.result s2 c.in_err-tell_members.ensures (members_told known rules before p (placed_left c.members.result) c.members.ensures (is_applicant_before f all before s)) (q.1 ∙ ap Err q.2)

pub returns-in_err-tell_repeated-clause-tells : goal.returns-in_err-tell_repeated-clause-tells
returns-in_err-tell_repeated-clause-tells g c = λ all before s.
    let laws : Laws g.S.FaultSink.takes g.S.FaultSink.told g.S.FaultSink.stopped = record { none = g.met.S.FaultSink.told_none; more = g.met.S.FaultSink.told_more; stops = g.met.S.FaultSink.stopped_after } in
    let n = c.args.number in
    let f = c.args.self.now in
    let rules = f.rules in
    let p = parts_seen c.args.parts.now in
    let known = take f.before.applicants.seen f.registry.applicants in
    let s0 = starts_as laws c.args.sink.now (at_record n (own_faults rules p ++ from_own rules all before p)) (at_record n (record_faults rules all before p)) (ap (at_record n) (record_in_turn rules all before p)) c.requires.takes in
    let s1 = tells_next n c.tell_own.new.sink (own_faults rules p) (from_own rules all before p) (own_faults rules p) s0 c.in_ok-tell_own.ensures refl in
    let s2 = tells_next n c.tell_each.new.sink (own_again rules before p) (from_members rules all before p) (faults_by_test rules c.own_again.result) s1 c.in_ok-tell_each.ensures (c.own_again.ensures all before s) in
    let s3 = tells_next n c.tell_members.new.sink (members_before rules (all_applicants rules before) (members_of p)) (from_repeats rules all before p) (members_before rules known (placed_left c.members.result)) s2 c.in_ok-tell_members.ensures (members_told known rules before p (placed_left c.members.result) c.members.ensures (is_applicant_before f all before s)) in
    let q = err_from_is_err_and c.from_residual-in_err-tell_repeated.result c.from_residual-in_err-tell_repeated.ensures.1 in
    ends_at n c.tell_repeated.new.sink (repeats_in_list rules p) (from_withdrawn rules all before p) (repeats_in_list rules p) c.in_err-tell_repeated.field-0.0 c.from_residual-in_err-tell_repeated.result s3 c.in_err-tell_repeated.ensures refl (q.1 ∙ ap Err q.2)

pub returns-in_err-tell_each-2-clause-tells : goal.returns-in_err-tell_each-2-clause-tells
returns-in_err-tell_each-2-clause-tells g c = λ all before s.
    let laws : Laws g.S.FaultSink.takes g.S.FaultSink.told g.S.FaultSink.stopped = record { none = g.met.S.FaultSink.told_none; more = g.met.S.FaultSink.told_more; stops = g.met.S.FaultSink.stopped_after } in
    let n = c.args.number in
    let f = c.args.self.now in
    let rules = f.rules in
    let p = parts_seen c.args.parts.now in
    let known = take f.before.applicants.seen f.registry.applicants in
    let s0 = starts_as laws c.args.sink.now (at_record n (own_faults rules p ++ from_own rules all before p)) (at_record n (record_faults rules all before p)) (ap (at_record n) (record_in_turn rules all before p)) c.requires.takes in
    let s1 = tells_next n c.tell_own.new.sink (own_faults rules p) (from_own rules all before p) (own_faults rules p) s0 c.in_ok-tell_own.ensures refl in
    let s2 = tells_next n c.tell_each.new.sink (own_again rules before p) (from_members rules all before p) (faults_by_test rules c.own_again.result) s1 c.in_ok-tell_each.ensures (c.own_again.ensures all before s) in
    let s3 = tells_next n c.tell_members.new.sink (members_before rules (all_applicants rules before) (members_of p)) (from_repeats rules all before p) (members_before rules known (placed_left c.members.result)) s2 c.in_ok-tell_members.ensures (members_told known rules before p (placed_left c.members.result) c.members.ensures (is_applicant_before f all before s)) in
    let s4 = tells_next n c.tell_repeated.new.sink (repeats_in_list rules p) (from_withdrawn rules all before p) (repeats_in_list rules p) s3 c.in_ok-tell_repeated.ensures refl in
    let q = err_from_is_err_and c.from_residual-in_err-tell_each-2.result c.from_residual-in_err-tell_each-2.ensures.1 in
    ends_at n c.tell_each-2.new.sink (withdrawn_again rules before p) (from_limits rules all before p) (faults_by_test rules c.withdrawn_again.result) c.in_err-tell_each-2.field-0.0 c.from_residual-in_err-tell_each-2.result s4 c.in_err-tell_each-2.ensures (c.withdrawn_again.ensures all before s) (q.1 ∙ ap Err q.2)

pub returns-in_err-tell_limits-clause-tells : goal.returns-in_err-tell_limits-clause-tells
returns-in_err-tell_limits-clause-tells g c = λ all before s.
    let laws : Laws g.S.FaultSink.takes g.S.FaultSink.told g.S.FaultSink.stopped = record { none = g.met.S.FaultSink.told_none; more = g.met.S.FaultSink.told_more; stops = g.met.S.FaultSink.stopped_after } in
    let n = c.args.number in
    let f = c.args.self.now in
    let rules = f.rules in
    let p = parts_seen c.args.parts.now in
    let known = take f.before.applicants.seen f.registry.applicants in
    let s0 = starts_as laws c.args.sink.now (at_record n (own_faults rules p ++ from_own rules all before p)) (at_record n (record_faults rules all before p)) (ap (at_record n) (record_in_turn rules all before p)) c.requires.takes in
    let s1 = tells_next n c.tell_own.new.sink (own_faults rules p) (from_own rules all before p) (own_faults rules p) s0 c.in_ok-tell_own.ensures refl in
    let s2 = tells_next n c.tell_each.new.sink (own_again rules before p) (from_members rules all before p) (faults_by_test rules c.own_again.result) s1 c.in_ok-tell_each.ensures (c.own_again.ensures all before s) in
    let s3 = tells_next n c.tell_members.new.sink (members_before rules (all_applicants rules before) (members_of p)) (from_repeats rules all before p) (members_before rules known (placed_left c.members.result)) s2 c.in_ok-tell_members.ensures (members_told known rules before p (placed_left c.members.result) c.members.ensures (is_applicant_before f all before s)) in
    let s4 = tells_next n c.tell_repeated.new.sink (repeats_in_list rules p) (from_withdrawn rules all before p) (repeats_in_list rules p) s3 c.in_ok-tell_repeated.ensures refl in
    let s5 = tells_next n c.tell_each-2.new.sink (withdrawn_again rules before p) (from_limits rules all before p) (faults_by_test rules c.withdrawn_again.result) s4 c.in_ok-tell_each-2.ensures (c.withdrawn_again.ensures all before s) in
    let q = err_from_is_err_and c.from_residual-in_err-tell_limits.result c.from_residual-in_err-tell_limits.ensures.1 in
    ends_at n c.tell_limits.new.sink (limit_faults rules before p) (unknown_faults rules all p) (limit_faults rules before p) c.in_err-tell_limits.field-0.0 c.from_residual-in_err-tell_limits.result s5 (c.in_err-tell_limits.ensures.tells all before s) refl (q.1 ∙ ap Err q.2)

pub returns-clause-tells : goal.returns-clause-tells
returns-clause-tells g c = λ all before s.
    let laws : Laws g.S.FaultSink.takes g.S.FaultSink.told g.S.FaultSink.stopped = record { none = g.met.S.FaultSink.told_none; more = g.met.S.FaultSink.told_more; stops = g.met.S.FaultSink.stopped_after } in
    let n = c.args.number in
    let f = c.args.self.now in
    let rules = f.rules in
    let p = parts_seen c.args.parts.now in
    let known = take f.before.applicants.seen f.registry.applicants in
    let s0 = starts_as laws c.args.sink.now (at_record n (own_faults rules p ++ from_own rules all before p)) (at_record n (record_faults rules all before p)) (ap (at_record n) (record_in_turn rules all before p)) c.requires.takes in
    let s1 = tells_next n c.tell_own.new.sink (own_faults rules p) (from_own rules all before p) (own_faults rules p) s0 c.in_ok-tell_own.ensures refl in
    let s2 = tells_next n c.tell_each.new.sink (own_again rules before p) (from_members rules all before p) (faults_by_test rules c.own_again.result) s1 c.in_ok-tell_each.ensures (c.own_again.ensures all before s) in
    let s3 = tells_next n c.tell_members.new.sink (members_before rules (all_applicants rules before) (members_of p)) (from_repeats rules all before p) (members_before rules known (placed_left c.members.result)) s2 c.in_ok-tell_members.ensures (members_told known rules before p (placed_left c.members.result) c.members.ensures (is_applicant_before f all before s)) in
    let s4 = tells_next n c.tell_repeated.new.sink (repeats_in_list rules p) (from_withdrawn rules all before p) (repeats_in_list rules p) s3 c.in_ok-tell_repeated.ensures refl in
    let s5 = tells_next n c.tell_each-2.new.sink (withdrawn_again rules before p) (from_limits rules all before p) (faults_by_test rules c.withdrawn_again.result) s4 c.in_ok-tell_each-2.ensures (c.withdrawn_again.ensures all before s) in
    let s6 = tells_next n c.tell_limits.new.sink (limit_faults rules before p) (unknown_faults rules all p) (limit_faults rules before p) s5 (c.in_ok-tell_limits.ensures.tells all before s) refl in
    finishes c.tell_each-3.new.sink (at_record n (faults_by_test rules c.unknown.result)) c.tell_each-3.result s6 (ap (at_record n) (c.unknown.ensures all before s)) c.tell_each-3.ensures
