use Rattle.std.proofs.Common.{List, length, [], ◌∷◌, ◌++◌, Err, ap, sym, ◌∙◌, subst, refl}
use Rattle.std.proofs.lemmas.Bool.{eqb-false}
use Rattle.std.proofs.lemmas.List.{append_assoc, append-nil}
use Rattle.std.proofs.lemmas.Result.{err_from_is_err_and}
use Rattle.mt_fault_terms.specs.OfRecord.{record_faults}
use Rattle.mt_fault_terms.specs.Parts.{Parts, parts_of}
use Rattle.mt_fault_sink.specs.Telling.{at_record}
use Rattle.mt_fault_sink.proofs.TellingFacts.{Laws, all_told, ends_early, goes, memory_ends, starts, told_as}
use Rattle.mt_faults.specs.NoKind.{is_of_no_kind}
use Rattle.mt_faults.specs.Registered.{IsRegistry}
use Rattle.mt_faults.specs.Seen.{parts_seen}
use Rattle.mt_faults.specs.Standing.{IsBefore, row_faults}
use Rattle.mt_faults.proofs.NoKindFacts.{on_ok_always, stands_no_kind, told_no_kind}
use Rattle.mt_faults.proofs.SearchFacts.{faults_some, row_some}
use Rattle.mt_faults.proofs.finder.Finder.tell_row.Goals as goal

pub returns-in_err-tell_record-clause-tells : goal.returns-in_err-tell_record-clause-tells
returns-in_err-tell_record-clause-tells g c = λ all before s.
    let laws : Laws g.S.FaultSink.takes g.S.FaultSink.told g.S.FaultSink.stopped = record { none = g.met.S.FaultSink.told_none; more = g.met.S.FaultSink.told_more; stops = g.met.S.FaultSink.stopped_after } in
    let rules = c.args.self.now.rules in
    let n = c.args.number in
    let p = parts_seen c.parts_of-parts.result in
    let row = c.args.row in
    let some = eqb-false (length row) 0 (sym c.is_empty.ensures ∙ c.if-is_empty.false) in
    let same = ap (parts_of rules) (sym c.fields-2.ensures) ∙ sym c.parts_of-parts.ensures.parts in
    let faults = at_record n (record_faults rules all before p) in
    let whole = faults_some rules all before n row some ∙ ap (λ q. at_record n (record_faults rules all before q)) same in
    let q = err_from_is_err_and c.from_residual.result c.from_residual.ensures.1 in
    ends_early c.tell_record.new.sink faults [] c.in_err-tell_record.field-0.0 c.from_residual.result (starts laws c.args.sink.now (row_faults rules all before n row) c.requires) (c.in_err-tell_record.ensures.tells all before s)
    (whole ∙ sym (append-nil faults)) (q.1 ∙ ap Err q.2)

pub returns-in_err-pass-clause-tells : goal.returns-in_err-pass-clause-tells
returns-in_err-pass-clause-tells g c = λ all before s.
    let laws : Laws g.S.FaultSink.takes g.S.FaultSink.told g.S.FaultSink.stopped = record { none = g.met.S.FaultSink.told_none; more = g.met.S.FaultSink.told_more; stops = g.met.S.FaultSink.stopped_after } in
    let rules = c.args.self.now.rules in
    let n = c.args.number in
    let p = parts_seen c.parts_of-parts.result in
    let row = c.args.row in
    let some = eqb-false (length row) 0 (sym c.is_empty.ensures ∙ c.if-is_empty.false) in
    let same = ap (parts_of rules) (sym c.fields-2.ensures) ∙ sym c.parts_of-parts.ensures.parts in
    let faults = at_record n (record_faults rules all before p) in
    let whole = faults_some rules all before n row some ∙ ap (λ q. at_record n (record_faults rules all before q)) same in
    let q = err_from_is_err_and c.from_residual-in_err-pass.result c.from_residual-in_err-pass.ensures.1 in
    memory_ends c.from_residual-in_err-pass.result
    (goes c.tell_record.new.sink faults [] (starts laws c.args.sink.now (row_faults rules all before n row) c.requires) (c.in_ok-tell_record.ensures.tells all before s) (whole ∙ sym (append-nil faults)))
    (q.1 ∙ ap Err q.2)

pub returns-clause-tells : goal.returns-clause-tells
returns-clause-tells g c = λ all before s.
    let laws : Laws g.S.FaultSink.takes g.S.FaultSink.told g.S.FaultSink.stopped = record { none = g.met.S.FaultSink.told_none; more = g.met.S.FaultSink.told_more; stops = g.met.S.FaultSink.stopped_after } in
    let rules = c.args.self.now.rules in
    let n = c.args.number in
    let p = parts_seen c.parts_of-parts.result in
    let row = c.args.row in
    let some = eqb-false (length row) 0 (sym c.is_empty.ensures ∙ c.if-is_empty.false) in
    let same = ap (parts_of rules) (sym c.fields-2.ensures) ∙ sym c.parts_of-parts.ensures.parts in
    let faults = at_record n (record_faults rules all before p) in
    let whole = faults_some rules all before n row some ∙ ap (λ q. at_record n (record_faults rules all before q)) same in
    all_told [] (goes c.tell_record.new.sink faults [] (starts laws c.args.sink.now (row_faults rules all before n row) c.requires) (c.in_ok-tell_record.ensures.tells all before s) (whole ∙ sym (append-nil faults))) refl

pub returns-clause-stands : goal.returns-clause-stands
returns-clause-stands g c = λ all before rest s e.
    let rules = c.args.self.now.rules in
    let p = parts_seen c.parts_of-parts.result in
    let row = c.args.row in
    let some = eqb-false (length row) 0 (sym c.is_empty.ensures ∙ c.if-is_empty.false) in
    let same = row_some rules row some ∙ ap (λ q. q ∷ []) (ap (parts_of rules) (sym c.fields-2.ensures) ∙ sym c.parts_of-parts.ensures.parts) in
    let whole = e ∙ ap (λ ps. (before ++ ps) ++ rest) same ∙ append_assoc before (p ∷ []) rest in
    record {
      rest = rest;
      first = e;
      registry = s.registry;
      before_is = subst (λ (ps : List Parts). IsBefore rules (before ++ ps) c.pass.new.self) (sym same) (c.in_ok-pass.ensures before rest (subst (λ (ps : List Parts). IsRegistry rules ps c.args.self.now.registry) whole s.registry) s.before_is);
    }

pub returns-then-is_of_no_kind-clause-tells : goal.returns-then-is_of_no_kind-clause-tells
returns-then-is_of_no_kind-clause-tells g c = λ all before s.
    let rules = c.args.self.now.rules in
    let row = c.args.row in
    let some = eqb-false (length row) 0 (sym c.is_empty.ensures ∙ c.if-is_empty.false) in
    let none = ap (is_of_no_kind rules) (sym c.fields.ensures) ∙ sym c.is_of_no_kind.ensures ∙ c.if-is_of_no_kind.true in
    told_as g.S.FaultSink.takes g.S.FaultSink.told g.S.FaultSink.stopped c.args.sink.now c.tell.new.sink _ (row_faults rules all before c.args.number row) c.tell.result
    (ap (at_record c.args.number) c.fault_alone.ensures ∙ told_no_kind rules row some none all before c.args.number) c.tell.ensures

pub returns-then-is_of_no_kind-clause-stands : goal.returns-then-is_of_no_kind-clause-stands
returns-then-is_of_no_kind-clause-stands g c =
    let rules = c.args.self.now.rules in
    let row = c.args.row in
    let some = eqb-false (length row) 0 (sym c.is_empty.ensures ∙ c.if-is_empty.false) in
    let none = ap (is_of_no_kind rules) (sym c.fields.ensures) ∙ sym c.is_of_no_kind.ensures ∙ c.if-is_of_no_kind.true in
    on_ok_always c.tell.result (λ all before rest s e. stands_no_kind rules row some none c.args.self.now all before rest refl e s)
