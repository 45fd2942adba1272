use Rattle.std.proofs.Common.{length, [], ◌++◌, ◌+◌, Err, ap, sym, ◌∙◌, subst, arith}
use Rattle.std.proofs.lemmas.List.{append_assoc}
use Rattle.std.proofs.lemmas.Result.{err_from_is_err_and}
use Rattle.mt_lists.specs.Rows.{rows_left}
use Rattle.mt_terms.specs.Registration.Passes.{numbered_from}
use Rattle.mt_terms.specs.Registration.Records.{Rules}
use Rattle.mt_fault_terms.specs.OfFile.{all_parts, faults_after}
use Rattle.mt_fault_sink.proofs.TellingFacts.{Laws, ends_early, goes, starts_as}
use Rattle.mt_faults.specs.Registered.{row_parts}
use Rattle.mt_faults.specs.Standing.{Stands, row_faults}
use Rattle.mt_faults.proofs.SearchFacts.{numbered_faults, numbered_parts}
use Rattle.mt_faults.proofs.rows.tell_rows.Goals as goal

pub loop-row-init : goal.loop-row-init
loop-row-init g c =
    let laws : Laws g.S.FaultSink.takes g.S.FaultSink.told g.S.FaultSink.stopped = record { none = g.met.S.FaultSink.told_none; more = g.met.S.FaultSink.told_more; stops = g.met.S.FaultSink.stopped_after } in
    let same = c.into_iter-row-iterator.ensures.into_iter_gives in
    let rules = c.args.rules.now in
    record {
      rules = c.in_ok-finder.ensures.rules;
      number = ap (λ rows. c.args.first + length (rows_left rows)) same;
      rows = record {
        before = [];
        stands = c.in_ok-finder.ensures.stands c.args.first;
        rest = ap (λ rows. all_parts rules (numbered_from c.args.first (rows_left rows))) (sym same);
        so_far = starts_as laws c.args.sink.now _ _ (ap (λ rows. faults_after rules (all_parts rules (numbered_from c.args.first (rows_left c.args.rows))) [] (numbered_from c.args.first (rows_left rows))) (sym same)) c.requires.takes;
      };
    }

pub returns-in_err-tell_row : goal.returns-in_err-tell_row
returns-in_err-tell_row g c =
    let rules = c.args.rules.now in
    let inv = c.loop-row.invariant in
    let before = inv.rows.before in
    let all = all_parts rules (numbered_from c.args.first (rows_left c.args.rows)) in
    let n = c.loop-row.number in
    let row = c.in-Some.row in
    let rest = rows_left c.next.new.self in
    let split = ap (λ rows. faults_after rules all before (numbered_from n rows)) c.in-Some.ensures.steps ∙ numbered_faults rules all before n row rest in
    let q = err_from_is_err_and c.from_residual-in_err-tell_row.result c.from_residual-in_err-tell_row.ensures.1 in
    ends_early c.tell_row.new.sink (row_faults c.loop-row.finder.rules all before n row) (faults_after rules all (before ++ row_parts rules row) (numbered_from (n + 1) rest)) c.in_err-tell_row.field-0.0 c.from_residual-in_err-tell_row.result inv.rows.so_far
    (c.in_err-tell_row.ensures.tells all before inv.rows.stands) (split ∙ ap (λ r. row_faults r all before n row ++ faults_after rules all (before ++ row_parts rules row) (numbered_from (n + 1) rest)) (sym inv.rules)) (q.1 ∙ ap Err q.2)

pub loop-row-preserved : goal.loop-row-preserved
loop-row-preserved g c =
    let rules = c.args.rules.now in
    let inv = c.loop-row.invariant in
    let before = inv.rows.before in
    let all = all_parts rules (numbered_from c.args.first (rows_left c.args.rows)) in
    let n = c.loop-row.number in
    let row = c.in-Some.row in
    let rest = rows_left c.next.new.self in
    let split = ap (λ rows. faults_after rules all before (numbered_from n rows)) c.in-Some.ensures.steps ∙ numbered_faults rules all before n row rest in
    let parts = inv.rows.rest ∙ ap (λ rows. before ++ all_parts rules (numbered_from n rows)) c.in-Some.ensures.steps ∙ ap (λ ps. before ++ ps) (numbered_parts rules n row rest) ∙ sym (append_assoc before (row_parts rules row) (all_parts rules (numbered_from (n + 1) rest))) in
    let stands = c.in_ok-tell_row.ensures.stands all before (all_parts rules (numbered_from (n + 1) rest)) inv.rows.stands (parts ∙ ap (λ r. (before ++ row_parts r row) ++ all_parts rules (numbered_from (n + 1) rest)) (sym inv.rules)) in
    record {
      rules = c.in_ok-tell_row.ensures.rules ∙ inv.rules;
      number = omega (arith, inv.number, ap length c.in-Some.ensures.steps);
      rows = record {
        before = before ++ row_parts rules row;
        stands = subst (λ (r : Rules). Stands c.tell_row.new.self all (before ++ row_parts r row)) inv.rules stands;
        rest = parts;
        so_far = goes c.tell_row.new.sink (row_faults rules all before n row) (faults_after rules all (before ++ row_parts rules row) (numbered_from (n + 1) rest)) inv.rows.so_far
            (rw inv.rules at (c.in_ok-tell_row.ensures.tells all before inv.rows.stands)) split;
      };
    }
