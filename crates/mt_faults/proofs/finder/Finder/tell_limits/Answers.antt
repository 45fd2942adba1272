use Rattle.std.proofs.Common.{List, ap, sym, ◌∙◌, Err, ◌++◌, refl}
use Rattle.std.proofs.lemmas.Result.{err_from_is_err_and}
use Rattle.mt_fault_terms.specs.Faults.{FieldFault}
use Rattle.mt_fault_sink.specs.Telling.{at_record}
use Rattle.mt_fault_sink.proofs.TellingFacts.{Laws, ends_early, finishes, goes, starts}
use Rattle.mt_faults.proofs.SearchFacts.{in_two}
use Rattle.std.proofs.Common.{length, [], ◌∷◌, min}
use Rattle.std.proofs.lemmas.List.{append-nil}
use Rattle.mt_terms.specs.declared.limits.Limits.{Limits}
use Rattle.mt_terms.specs.Registration.Records.{OfProgram, OfCouple}
use Rattle.mt_fault_terms.specs.OfRecord.{id_among, limit_faults, passes}
use Rattle.mt_fault_terms.specs.Parts.{all_applicants, all_entries, all_own_ids, applicants_among, entries_among, own_ids}
use Rattle.mt_fault_sink.specs.Seen.{faults_seen}
use Rattle.mt_faults.specs.Registered.{most}
use Rattle.mt_faults.specs.Seen.{parts_seen}
use Rattle.mt_faults.proofs.RecordFacts.{limit_told, limits_in_turn, over}
use Rattle.mt_faults.proofs.finder.Finder.tell_limits.Goals as goal

pub returns-in_err-tell-clause-tells : goal.returns-in_err-tell-clause-tells
returns-in_err-tell-clause-tells g c = λ all before s.
    let laws : Laws g.S.FaultSink.takes g.S.FaultSink.told g.S.FaultSink.stopped = record { none = g.met.S.FaultSink.told_none; more = g.met.S.FaultSink.told_more; stops = g.met.S.FaultSink.stopped_after } in
    let n = c.args.number in
    let rules = c.args.self.now.rules in
    let p = parts_seen c.args.parts.now in
    let counts = c.registers-applicants.ensures in
    let f1 : List FieldFault = over (passes rules.limits.applicants (length (all_applicants rules before)) (length (applicants_among rules p))) (id_among rules p.names) in
    let f2 : List FieldFault = over (passes rules.limits.programs (length (all_own_ids rules OfProgram before)) (length (all_own_ids rules OfProgram (p ∷ [])))) (id_among rules p.names) in
    let f3 : List FieldFault = over (passes rules.limits.couples (length (all_own_ids rules OfCouple before)) (length (all_own_ids rules OfCouple (p ∷ [])))) (id_among rules p.names) in
    let f4 : List FieldFault = over (passes rules.limits.entries (all_entries before) (entries_among p)) (id_among rules p.names) in
    let s0 = starts laws c.args.sink.now (at_record n (limit_faults rules before p)) c.requires in
    let q = err_from_is_err_and c.from_residual.result c.from_residual.ensures.1 in
    ends_early c.tell.new.sink (at_record n (faults_seen c.passed.result)) (at_record n (f2 ++ (f3 ++ f4))) c.in_err-tell.field-0.0 c.from_residual.result s0 c.in_err-tell.ensures
    (in_two n (limit_faults rules before p) f1 (f2 ++ (f3 ++ f4)) (faults_seen c.passed.result) (limits_in_turn f1 f2 f3 f4) (limit_told c.passes-many_applicants.result (passes rules.limits.applicants (length (all_applicants rules before)) (length (applicants_among rules p))) c.first_id-id.result.now (id_among rules p.names) (faults_seen c.passed.result) c.passed.ensures (c.passes-many_applicants.ensures (length (all_applicants rules before)) (length (applicants_among rules p)) s.before_is.applicants.count counts.applicants_are ∙ ap (λ (l : Limits). passes l.applicants (length (all_applicants rules before)) (length (applicants_among rules p))) c.limits_of-limits.ensures) c.first_id-id.ensures)) (q.1 ∙ ap Err q.2)

pub returns-in_err-tell-2-clause-tells : goal.returns-in_err-tell-2-clause-tells
returns-in_err-tell-2-clause-tells g c = λ all before s.
    let laws : Laws g.S.FaultSink.takes g.S.FaultSink.told g.S.FaultSink.stopped = record { none = g.met.S.FaultSink.told_none; more = g.met.S.FaultSink.told_more; stops = g.met.S.FaultSink.stopped_after } in
    let n = c.args.number in
    let rules = c.args.self.now.rules in
    let p = parts_seen c.args.parts.now in
    let counts = c.registers-applicants.ensures in
    let f1 : List FieldFault = over (passes rules.limits.applicants (length (all_applicants rules before)) (length (applicants_among rules p))) (id_among rules p.names) in
    let f2 : List FieldFault = over (passes rules.limits.programs (length (all_own_ids rules OfProgram before)) (length (all_own_ids rules OfProgram (p ∷ [])))) (id_among rules p.names) in
    let f3 : List FieldFault = over (passes rules.limits.couples (length (all_own_ids rules OfCouple before)) (length (all_own_ids rules OfCouple (p ∷ [])))) (id_among rules p.names) in
    let f4 : List FieldFault = over (passes rules.limits.entries (all_entries before) (entries_among p)) (id_among rules p.names) in
    let s0 = starts laws c.args.sink.now (at_record n (limit_faults rules before p)) c.requires in
    let s1 = goes c.tell.new.sink (at_record n (faults_seen c.passed.result)) (at_record n (f2 ++ (f3 ++ f4))) s0 c.in_ok-tell.ensures (in_two n (limit_faults rules before p) f1 (f2 ++ (f3 ++ f4)) (faults_seen c.passed.result) (limits_in_turn f1 f2 f3 f4) (limit_told c.passes-many_applicants.result (passes rules.limits.applicants (length (all_applicants rules before)) (length (applicants_among rules p))) c.first_id-id.result.now (id_among rules p.names) (faults_seen c.passed.result) c.passed.ensures (c.passes-many_applicants.ensures (length (all_applicants rules before)) (length (applicants_among rules p)) s.before_is.applicants.count counts.applicants_are ∙ ap (λ (l : Limits). passes l.applicants (length (all_applicants rules before)) (length (applicants_among rules p))) c.limits_of-limits.ensures) c.first_id-id.ensures)) in
    let q = err_from_is_err_and c.from_residual-in_err-tell-2.result c.from_residual-in_err-tell-2.ensures.1 in
    ends_early c.tell-2.new.sink (at_record n (faults_seen c.passed-2.result)) (at_record n (f3 ++ f4)) c.in_err-tell-2.field-0.0 c.from_residual-in_err-tell-2.result s1 c.in_err-tell-2.ensures
    (in_two n (f2 ++ (f3 ++ f4)) f2 (f3 ++ f4) (faults_seen c.passed-2.result) refl (limit_told c.passes-many_programs.result (passes rules.limits.programs (length (all_own_ids rules OfProgram before)) (length (all_own_ids rules OfProgram (p ∷ [])))) c.first_id-id.result.now (id_among rules p.names) (faults_seen c.passed-2.result) c.passed-2.ensures (c.passes-many_programs.ensures (length (all_own_ids rules OfProgram before)) (length (all_own_ids rules OfProgram (p ∷ []))) s.before_is.programs.count (counts.programs_are ∙ ap (λ ids. min (length ids) most) (sym (append-nil (own_ids rules OfProgram p)))) ∙ ap (λ (l : Limits). passes l.programs (length (all_own_ids rules OfProgram before)) (length (all_own_ids rules OfProgram (p ∷ [])))) c.limits_of-limits.ensures) c.first_id-id.ensures)) (q.1 ∙ ap Err q.2)

pub returns-in_err-tell-3-clause-tells : goal.returns-in_err-tell-3-clause-tells
returns-in_err-tell-3-clause-tells g c = λ all before s.
    let laws : Laws g.S.FaultSink.takes g.S.FaultSink.told g.S.FaultSink.stopped = record { none = g.met.S.FaultSink.told_none; more = g.met.S.FaultSink.told_more; stops = g.met.S.FaultSink.stopped_after } in
    let n = c.args.number in
    let rules = c.args.self.now.rules in
    let p = parts_seen c.args.parts.now in
    let counts = c.registers-applicants.ensures in
    let f1 : List FieldFault = over (passes rules.limits.applicants (length (all_applicants rules before)) (length (applicants_among rules p))) (id_among rules p.names) in
    let f2 : List FieldFault = over (passes rules.limits.programs (length (all_own_ids rules OfProgram before)) (length (all_own_ids rules OfProgram (p ∷ [])))) (id_among rules p.names) in
    let f3 : List FieldFault = over (passes rules.limits.couples (length (all_own_ids rules OfCouple before)) (length (all_own_ids rules OfCouple (p ∷ [])))) (id_among rules p.names) in
    let f4 : List FieldFault = over (passes rules.limits.entries (all_entries before) (entries_among p)) (id_among rules p.names) in
    let s0 = starts laws c.args.sink.now (at_record n (limit_faults rules before p)) c.requires in
    let s1 = goes c.tell.new.sink (at_record n (faults_seen c.passed.result)) (at_record n (f2 ++ (f3 ++ f4))) s0 c.in_ok-tell.ensures (in_two n (limit_faults rules before p) f1 (f2 ++ (f3 ++ f4)) (faults_seen c.passed.result) (limits_in_turn f1 f2 f3 f4) (limit_told c.passes-many_applicants.result (passes rules.limits.applicants (length (all_applicants rules before)) (length (applicants_among rules p))) c.first_id-id.result.now (id_among rules p.names) (faults_seen c.passed.result) c.passed.ensures (c.passes-many_applicants.ensures (length (all_applicants rules before)) (length (applicants_among rules p)) s.before_is.applicants.count counts.applicants_are ∙ ap (λ (l : Limits). passes l.applicants (length (all_applicants rules before)) (length (applicants_among rules p))) c.limits_of-limits.ensures) c.first_id-id.ensures)) in
    let s2 = goes c.tell-2.new.sink (at_record n (faults_seen c.passed-2.result)) (at_record n (f3 ++ f4)) s1 c.in_ok-tell-2.ensures (in_two n (f2 ++ (f3 ++ f4)) f2 (f3 ++ f4) (faults_seen c.passed-2.result) refl (limit_told c.passes-many_programs.result (passes rules.limits.programs (length (all_own_ids rules OfProgram before)) (length (all_own_ids rules OfProgram (p ∷ [])))) c.first_id-id.result.now (id_among rules p.names) (faults_seen c.passed-2.result) c.passed-2.ensures (c.passes-many_programs.ensures (length (all_own_ids rules OfProgram before)) (length (all_own_ids rules OfProgram (p ∷ []))) s.before_is.programs.count (counts.programs_are ∙ ap (λ ids. min (length ids) most) (sym (append-nil (own_ids rules OfProgram p)))) ∙ ap (λ (l : Limits). passes l.programs (length (all_own_ids rules OfProgram before)) (length (all_own_ids rules OfProgram (p ∷ [])))) c.limits_of-limits.ensures) c.first_id-id.ensures)) in
    let q = err_from_is_err_and c.from_residual-in_err-tell-3.result c.from_residual-in_err-tell-3.ensures.1 in
    ends_early c.tell-3.new.sink (at_record n (faults_seen c.passed-3.result)) (at_record n f4) c.in_err-tell-3.field-0.0 c.from_residual-in_err-tell-3.result s2 c.in_err-tell-3.ensures
    (in_two n (f3 ++ f4) f3 f4 (faults_seen c.passed-3.result) refl (limit_told c.passes-many_couples.result (passes rules.limits.couples (length (all_own_ids rules OfCouple before)) (length (all_own_ids rules OfCouple (p ∷ [])))) c.first_id-id.result.now (id_among rules p.names) (faults_seen c.passed-3.result) c.passed-3.ensures (c.passes-many_couples.ensures (length (all_own_ids rules OfCouple before)) (length (all_own_ids rules OfCouple (p ∷ []))) s.before_is.couples.count (counts.couples_are ∙ ap (λ ids. min (length ids) most) (sym (append-nil (own_ids rules OfCouple p)))) ∙ ap (λ (l : Limits). passes l.couples (length (all_own_ids rules OfCouple before)) (length (all_own_ids rules OfCouple (p ∷ [])))) c.limits_of-limits.ensures) c.first_id-id.ensures)) (q.1 ∙ ap Err q.2)

pub returns-clause-tells : goal.returns-clause-tells
returns-clause-tells g c = λ all before s.
    let laws : Laws g.S.FaultSink.takes g.S.FaultSink.told g.S.FaultSink.stopped = record { none = g.met.S.FaultSink.told_none; more = g.met.S.FaultSink.told_more; stops = g.met.S.FaultSink.stopped_after } in
    let n = c.args.number in
    let rules = c.args.self.now.rules in
    let p = parts_seen c.args.parts.now in
    let counts = c.registers-applicants.ensures in
    let f1 : List FieldFault = over (passes rules.limits.applicants (length (all_applicants rules before)) (length (applicants_among rules p))) (id_among rules p.names) in
    let f2 : List FieldFault = over (passes rules.limits.programs (length (all_own_ids rules OfProgram before)) (length (all_own_ids rules OfProgram (p ∷ [])))) (id_among rules p.names) in
    let f3 : List FieldFault = over (passes rules.limits.couples (length (all_own_ids rules OfCouple before)) (length (all_own_ids rules OfCouple (p ∷ [])))) (id_among rules p.names) in
    let f4 : List FieldFault = over (passes rules.limits.entries (all_entries before) (entries_among p)) (id_among rules p.names) in
    let s0 = starts laws c.args.sink.now (at_record n (limit_faults rules before p)) c.requires in
    let s1 = goes c.tell.new.sink (at_record n (faults_seen c.passed.result)) (at_record n (f2 ++ (f3 ++ f4))) s0 c.in_ok-tell.ensures (in_two n (limit_faults rules before p) f1 (f2 ++ (f3 ++ f4)) (faults_seen c.passed.result) (limits_in_turn f1 f2 f3 f4) (limit_told c.passes-many_applicants.result (passes rules.limits.applicants (length (all_applicants rules before)) (length (applicants_among rules p))) c.first_id-id.result.now (id_among rules p.names) (faults_seen c.passed.result) c.passed.ensures (c.passes-many_applicants.ensures (length (all_applicants rules before)) (length (applicants_among rules p)) s.before_is.applicants.count counts.applicants_are ∙ ap (λ (l : Limits). passes l.applicants (length (all_applicants rules before)) (length (applicants_among rules p))) c.limits_of-limits.ensures) c.first_id-id.ensures)) in
    let s2 = goes c.tell-2.new.sink (at_record n (faults_seen c.passed-2.result)) (at_record n (f3 ++ f4)) s1 c.in_ok-tell-2.ensures (in_two n (f2 ++ (f3 ++ f4)) f2 (f3 ++ f4) (faults_seen c.passed-2.result) refl (limit_told c.passes-many_programs.result (passes rules.limits.programs (length (all_own_ids rules OfProgram before)) (length (all_own_ids rules OfProgram (p ∷ [])))) c.first_id-id.result.now (id_among rules p.names) (faults_seen c.passed-2.result) c.passed-2.ensures (c.passes-many_programs.ensures (length (all_own_ids rules OfProgram before)) (length (all_own_ids rules OfProgram (p ∷ []))) s.before_is.programs.count (counts.programs_are ∙ ap (λ ids. min (length ids) most) (sym (append-nil (own_ids rules OfProgram p)))) ∙ ap (λ (l : Limits). passes l.programs (length (all_own_ids rules OfProgram before)) (length (all_own_ids rules OfProgram (p ∷ [])))) c.limits_of-limits.ensures) c.first_id-id.ensures)) in
    let s3 = goes c.tell-3.new.sink (at_record n (faults_seen c.passed-3.result)) (at_record n f4) s2 c.in_ok-tell-3.ensures (in_two n (f3 ++ f4) f3 f4 (faults_seen c.passed-3.result) refl (limit_told c.passes-many_couples.result (passes rules.limits.couples (length (all_own_ids rules OfCouple before)) (length (all_own_ids rules OfCouple (p ∷ [])))) c.first_id-id.result.now (id_among rules p.names) (faults_seen c.passed-3.result) c.passed-3.ensures (c.passes-many_couples.ensures (length (all_own_ids rules OfCouple before)) (length (all_own_ids rules OfCouple (p ∷ []))) s.before_is.couples.count (counts.couples_are ∙ ap (λ ids. min (length ids) most) (sym (append-nil (own_ids rules OfCouple p)))) ∙ ap (λ (l : Limits). passes l.couples (length (all_own_ids rules OfCouple before)) (length (all_own_ids rules OfCouple (p ∷ [])))) c.limits_of-limits.ensures) c.first_id-id.ensures)) in
    finishes c.tell-4.new.sink (at_record n (faults_seen c.passed-4.result)) c.tell-4.result s3 (ap (at_record n) (limit_told c.passes-many_entries.result (passes rules.limits.entries (all_entries before) (entries_among p)) c.first_id-id.result.now (id_among rules p.names) (faults_seen c.passed-4.result) c.passed-4.ensures (c.passes-many_entries.ensures (all_entries before) (entries_among p) s.before_is.entries c.entries_of.ensures ∙ ap (λ (l : Limits). passes l.entries (all_entries before) (entries_among p)) c.limits_of-limits.ensures) c.first_id-id.ensures)) c.tell-4.ensures
