use Rattle.std.proofs.Common.{◌∙◌, sym, ap, Some}
use Rattle.std.proofs.lemmas.List.{get_or_read}
use Rattle.mt_assignment.proofs.assignment.Assignment.would_be_taken.Goals as goal

pub is_chosen-requires-clause-there : goal.is_chosen-requires-clause-there
is_chosen-requires-clause-there c =
    let i = c.loop-applicant.applicant-index in
    let seat = c.loop-applicant-item.result in (
      i,
      c.loop-applicant-test.true,
      sym (get_or_read c.args.sent.now i seat c.loop-applicant-test.true c.loop-applicant-item.is (seat.0, Some c.in-Some.program)) ∙ ap (λ v. (seat.0, v)) c.in-Some.is,
    )
