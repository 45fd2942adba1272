use Rattle.std.proofs.Common.{[], arith}
use Rattle.mt_terms.specs.Text.{name_of}
use Rattle.mt_reordered.proofs.ColumnFacts.{one_more, rows_are}
use Rattle.mt_reordered.proofs.copies.applicant_ids.Goals as goal

pub loop-number-preserved : goal.loop-number-preserved
loop-number-preserved c =
    one_more (name_of c.args.roster.now.names.applicants) c.loop-number.number _ _ c.applicant_id.result.now c.loop-number.invariant c.applicant_id.ensures c.in_ok-push_list.ensures.ok

pub returns : goal.returns
returns c =
    rows_are [] c.args.roster.now.names.applicants _ c.loop-number.number c.loop-number.invariant
    (omega (arith, c.applicants-number-end.ensures.count, c.applicants-number-end.ensures.registration.applicant_names.one_each))
