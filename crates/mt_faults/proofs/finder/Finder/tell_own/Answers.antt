use Rattle.std.proofs.Common.{List, ap, ◌∙◌, Err, ◌++◌, refl}
use Rattle.std.proofs.lemmas.Result.{err_from_is_err_and}
use Rattle.mt_fault_terms.specs.Faults.{FieldFault}
use Rattle.mt_fault_sink.specs.Telling.{at_record}
use Rattle.mt_fault_sink.proofs.TellingFacts.{Laws, ends_early, finishes, goes, starts}
use Rattle.mt_faults.proofs.SearchFacts.{in_two}
use Rattle.std.specs.Prelude.{flat_map}
use Rattle.mt_terms.specs.declared.codes.TheConstants.{BAD_ID}
use Rattle.mt_fault_terms.specs.OfRecord.{alone_at, bad_of_pair, own_faults, quota_faults}
use Rattle.mt_fault_sink.specs.Seen.{faults_seen}
use Rattle.mt_faults.specs.declared.tell.Wrong.TheVariants as wrongs
use Rattle.mt_faults.specs.Seen.{faults_by_test, parts_seen, tested}
use Rattle.mt_faults.proofs.RecordFacts.{own_in_turn}
use Rattle.mt_faults.proofs.finder.Finder.tell_own.Goals as goal

pub returns-in_err-tell : goal.returns-in_err-tell
returns-in_err-tell g c =
    let laws : Laws g.S.FaultSink.takes g.S.FaultSink.told g.S.FaultSink.stopped = record { none = g.met.S.FaultSink.told_none; more = g.met.S.FaultSink.told_more; stops = g.met.S.FaultSink.stopped_after } in
    let n = c.args.number in
    let rules = c.args.self.now.rules in
    let p = parts_seen c.args.parts.now in
    let f1 : List FieldFault = p.faults in
    let f2 : List FieldFault = flat_map (tested wrongs.NoId rules) p.names in
    let f3 : List FieldFault = flat_map (tested wrongs.NoId rules) p.list in
    let f4 : List FieldFault = alone_at BAD_ID (flat_map (bad_of_pair rules) p.pairs) in
    let f5 : List FieldFault = quota_faults rules p in
    let s0 = starts laws c.args.sink.now (at_record n (own_faults rules p)) c.requires in
    let q = err_from_is_err_and c.from_residual.result c.from_residual.ensures.1 in
    ends_early c.tell.new.sink (at_record n (faults_seen c.form_fault.result)) (at_record n (f2 ++ (f3 ++ (f4 ++ f5)))) c.in_err-tell.field-0.0 c.from_residual.result s0 c.in_err-tell.ensures
    (in_two n (own_faults rules p) f1 (f2 ++ (f3 ++ (f4 ++ f5))) (faults_seen c.form_fault.result) (own_in_turn rules p) c.form_fault.ensures) (q.1 ∙ ap Err q.2)

pub returns-in_err-tell_each : goal.returns-in_err-tell_each
returns-in_err-tell_each g c =
    let laws : Laws g.S.FaultSink.takes g.S.FaultSink.told g.S.FaultSink.stopped = record { none = g.met.S.FaultSink.told_none; more = g.met.S.FaultSink.told_more; stops = g.met.S.FaultSink.stopped_after } in
    let n = c.args.number in
    let rules = c.args.self.now.rules in
    let p = parts_seen c.args.parts.now in
    let f1 : List FieldFault = p.faults in
    let f2 : List FieldFault = flat_map (tested wrongs.NoId rules) p.names in
    let f3 : List FieldFault = flat_map (tested wrongs.NoId rules) p.list in
    let f4 : List FieldFault = alone_at BAD_ID (flat_map (bad_of_pair rules) p.pairs) in
    let f5 : List FieldFault = quota_faults rules p in
    let s0 = starts laws c.args.sink.now (at_record n (own_faults rules p)) c.requires in
    let s1 = goes c.tell.new.sink (at_record n (faults_seen c.form_fault.result)) (at_record n (f2 ++ (f3 ++ (f4 ++ f5)))) s0 c.in_ok-tell.ensures (in_two n (own_faults rules p) f1 (f2 ++ (f3 ++ (f4 ++ f5))) (faults_seen c.form_fault.result) (own_in_turn rules p) c.form_fault.ensures) in
    let q = err_from_is_err_and c.from_residual-in_err-tell_each.result c.from_residual-in_err-tell_each.ensures.1 in
    ends_early c.tell_each.new.sink (at_record n (faults_by_test rules c.of_ids.result)) (at_record n (f3 ++ (f4 ++ f5))) c.in_err-tell_each.field-0.0 c.from_residual-in_err-tell_each.result s1 c.in_err-tell_each.ensures
    (in_two n (f2 ++ (f3 ++ (f4 ++ f5))) f2 (f3 ++ (f4 ++ f5)) (faults_by_test rules c.of_ids.result) refl (c.of_ids.ensures rules)) (q.1 ∙ ap Err q.2)

pub returns-in_err-tell_each-2 : goal.returns-in_err-tell_each-2
returns-in_err-tell_each-2 g c =
    let laws : Laws g.S.FaultSink.takes g.S.FaultSink.told g.S.FaultSink.stopped = record { none = g.met.S.FaultSink.told_none; more = g.met.S.FaultSink.told_more; stops = g.met.S.FaultSink.stopped_after } in
    let n = c.args.number in
    let rules = c.args.self.now.rules in
    let p = parts_seen c.args.parts.now in
    let f1 : List FieldFault = p.faults in
    let f2 : List FieldFault = flat_map (tested wrongs.NoId rules) p.names in
    let f3 : List FieldFault = flat_map (tested wrongs.NoId rules) p.list in
    let f4 : List FieldFault = alone_at BAD_ID (flat_map (bad_of_pair rules) p.pairs) in
    let f5 : List FieldFault = quota_faults rules p in
    let s0 = starts laws c.args.sink.now (at_record n (own_faults rules p)) c.requires in
    let s1 = goes c.tell.new.sink (at_record n (faults_seen c.form_fault.result)) (at_record n (f2 ++ (f3 ++ (f4 ++ f5)))) s0 c.in_ok-tell.ensures (in_two n (own_faults rules p) f1 (f2 ++ (f3 ++ (f4 ++ f5))) (faults_seen c.form_fault.result) (own_in_turn rules p) c.form_fault.ensures) in
    let s2 = goes c.tell_each.new.sink (at_record n (faults_by_test rules c.of_ids.result)) (at_record n (f3 ++ (f4 ++ f5))) s1 c.in_ok-tell_each.ensures (in_two n (f2 ++ (f3 ++ (f4 ++ f5))) f2 (f3 ++ (f4 ++ f5)) (faults_by_test rules c.of_ids.result) refl (c.of_ids.ensures rules)) in
    let q = err_from_is_err_and c.from_residual-in_err-tell_each-2.result c.from_residual-in_err-tell_each-2.ensures.1 in
    ends_early c.tell_each-2.new.sink (at_record n (faults_by_test rules c.of_ids-2.result)) (at_record n (f4 ++ f5)) c.in_err-tell_each-2.field-0.0 c.from_residual-in_err-tell_each-2.result s2 c.in_err-tell_each-2.ensures
    (in_two n (f3 ++ (f4 ++ f5)) f3 (f4 ++ f5) (faults_by_test rules c.of_ids-2.result) refl (c.of_ids-2.ensures rules)) (q.1 ∙ ap Err q.2)

pub returns-in_err-tell_bad_pairs : goal.returns-in_err-tell_bad_pairs
returns-in_err-tell_bad_pairs g c =
    let laws : Laws g.S.FaultSink.takes g.S.FaultSink.told g.S.FaultSink.stopped = record { none = g.met.S.FaultSink.told_none; more = g.met.S.FaultSink.told_more; stops = g.met.S.FaultSink.stopped_after } in
    let n = c.args.number in
    let rules = c.args.self.now.rules in
    let p = parts_seen c.args.parts.now in
    let f1 : List FieldFault = p.faults in
    let f2 : List FieldFault = flat_map (tested wrongs.NoId rules) p.names in
    let f3 : List FieldFault = flat_map (tested wrongs.NoId rules) p.list in
    let f4 : List FieldFault = alone_at BAD_ID (flat_map (bad_of_pair rules) p.pairs) in
    let f5 : List FieldFault = quota_faults rules p in
    let s0 = starts laws c.args.sink.now (at_record n (own_faults rules p)) c.requires in
    let s1 = goes c.tell.new.sink (at_record n (faults_seen c.form_fault.result)) (at_record n (f2 ++ (f3 ++ (f4 ++ f5)))) s0 c.in_ok-tell.ensures (in_two n (own_faults rules p) f1 (f2 ++ (f3 ++ (f4 ++ f5))) (faults_seen c.form_fault.result) (own_in_turn rules p) c.form_fault.ensures) in
    let s2 = goes c.tell_each.new.sink (at_record n (faults_by_test rules c.of_ids.result)) (at_record n (f3 ++ (f4 ++ f5))) s1 c.in_ok-tell_each.ensures (in_two n (f2 ++ (f3 ++ (f4 ++ f5))) f2 (f3 ++ (f4 ++ f5)) (faults_by_test rules c.of_ids.result) refl (c.of_ids.ensures rules)) in
    let s3 = goes c.tell_each-2.new.sink (at_record n (faults_by_test rules c.of_ids-2.result)) (at_record n (f4 ++ f5)) s2 c.in_ok-tell_each-2.ensures (in_two n (f3 ++ (f4 ++ f5)) f3 (f4 ++ f5) (faults_by_test rules c.of_ids-2.result) refl (c.of_ids-2.ensures rules)) in
    let q = err_from_is_err_and c.from_residual-in_err-tell_bad_pairs.result c.from_residual-in_err-tell_bad_pairs.ensures.1 in
    ends_early c.tell_bad_pairs.new.sink (at_record n f4) (at_record n f5) c.in_err-tell_bad_pairs.field-0.0 c.from_residual-in_err-tell_bad_pairs.result s3 c.in_err-tell_bad_pairs.ensures
    (in_two n (f4 ++ f5) f4 f5 f4 refl refl) (q.1 ∙ ap Err q.2)

pub returns : goal.returns
returns g c =
    let laws : Laws g.S.FaultSink.takes g.S.FaultSink.told g.S.FaultSink.stopped = record { none = g.met.S.FaultSink.told_none; more = g.met.S.FaultSink.told_more; stops = g.met.S.FaultSink.stopped_after } in
    let n = c.args.number in
    let rules = c.args.self.now.rules in
    let p = parts_seen c.args.parts.now in
    let f1 : List FieldFault = p.faults in
    let f2 : List FieldFault = flat_map (tested wrongs.NoId rules) p.names in
    let f3 : List FieldFault = flat_map (tested wrongs.NoId rules) p.list in
    let f4 : List FieldFault = alone_at BAD_ID (flat_map (bad_of_pair rules) p.pairs) in
    let f5 : List FieldFault = quota_faults rules p in
    let s0 = starts laws c.args.sink.now (at_record n (own_faults rules p)) c.requires in
    let s1 = goes c.tell.new.sink (at_record n (faults_seen c.form_fault.result)) (at_record n (f2 ++ (f3 ++ (f4 ++ f5)))) s0 c.in_ok-tell.ensures (in_two n (own_faults rules p) f1 (f2 ++ (f3 ++ (f4 ++ f5))) (faults_seen c.form_fault.result) (own_in_turn rules p) c.form_fault.ensures) in
    let s2 = goes c.tell_each.new.sink (at_record n (faults_by_test rules c.of_ids.result)) (at_record n (f3 ++ (f4 ++ f5))) s1 c.in_ok-tell_each.ensures (in_two n (f2 ++ (f3 ++ (f4 ++ f5))) f2 (f3 ++ (f4 ++ f5)) (faults_by_test rules c.of_ids.result) refl (c.of_ids.ensures rules)) in
    let s3 = goes c.tell_each-2.new.sink (at_record n (faults_by_test rules c.of_ids-2.result)) (at_record n (f4 ++ f5)) s2 c.in_ok-tell_each-2.ensures (in_two n (f3 ++ (f4 ++ f5)) f3 (f4 ++ f5) (faults_by_test rules c.of_ids-2.result) refl (c.of_ids-2.ensures rules)) in
    let s4 = goes c.tell_bad_pairs.new.sink (at_record n f4) (at_record n f5) s3 c.in_ok-tell_bad_pairs.ensures (in_two n (f4 ++ f5) f4 f5 f4 refl refl) in
    finishes c.tell-2.new.sink (at_record n (faults_seen c.bad_quota.result)) c.tell-2.result s4 (ap (at_record n) c.bad_quota.ensures) c.tell-2.ensures
