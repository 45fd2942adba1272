use Rattle.std.proofs.Common.{Some, true, ◌≡◌, ◌∙◌, ap, sym, subst, length, arith}
use Rattle.std.proofs.lemmas.List.{get_or_read}
use Rattle.mt_terms.specs.Lists.{has}
use Rattle.mt_terms.specs.Market.{Market, applicants, program_of}
use Rattle.mt_assignment.specs.Assigned.{Assigned, with_place}
use Rattle.mt_assignment.proofs.SentFacts.{sent_within}
use Rattle.mt_assignment.proofs.MoveSteps.{program_sent_to, sent_one, placed_twice}
use Rattle.mt_assignment.proofs.assignment.Assignment.send.Goals as goal
use Rattle.mt_assignment.proofs.assignment.Assignment.send.Goals.{in-Some+in_ok-put, in_default}

pub unplace-requires : goal.unplace-requires
unplace-requires c =
    omega (
      arith,
      ap applicants c.loop-applicant.invariant.market,
      sent_within c.args.self.now.market c.args.sent.now c.loop-applicant.applicant-index c.loop-applicant-item.result c.requires.sent c.loop-applicant-test.true c.loop-applicant-item.is,
    )

pub put-requires-clause-applicant : goal.put-requires-clause-applicant
put-requires-clause-applicant c =
    omega (
      arith,
      ap (λ (s : Assigned). applicants s.market) c.unplace.ensures.moved,
      ap applicants c.loop-applicant.invariant.market,
      sent_within c.args.self.now.market c.args.sent.now c.loop-applicant.applicant-index c.loop-applicant-item.result c.requires.sent c.loop-applicant-test.true c.loop-applicant-item.is,
    )

pub put-requires-clause-program : goal.put-requires-clause-program
put-requires-clause-program c =
    omega (
      arith,
      ap (λ (s : Assigned). length s.market.programs) c.unplace.ensures.moved,
      ap (λ (m : Market). length m.programs) c.loop-applicant.invariant.market,
      c.requires.programs c.in-Some.program (program_sent_to c.args.sent.now c.loop-applicant.applicant-index c.loop-applicant-item.result c.in-Some.program c.loop-applicant-test.true c.loop-applicant-item.is c.in-Some.is),
    )

pub put-requires-clause-listed : goal.put-requires-clause-listed
put-requires-clause-listed c =
    let m = c.args.self.now.market in
    let i = c.loop-applicant.applicant-index in
    let s = c.loop-applicant-item.result in
    let same : c.unplace.new.self.market ≡ m = ap (λ (x : Assigned). x.market) c.unplace.ensures.moved ∙ c.loop-applicant.invariant.market in
    subst (λ (n : Market). has (program_of n c.in-Some.program).ranking s.0 ≡ true) (sym same)
    (c.requires.listed s c.in-Some.program (i, c.loop-applicant-test.true, sym (get_or_read c.args.sent.now i s c.loop-applicant-test.true c.loop-applicant-item.is s)) c.in-Some.is)

pub loop-applicant-preserved : goal.loop-applicant-preserved
loop-applicant-preserved c =
    let now = c.loop-applicant.self in
    let s = c.loop-applicant-item.result in
    let is : c.match-place.self ≡ with_place now s.0 s.1 =
    elim c.match-place.branch [
      | in-Some+in_ok-put w ↦
          w.self-is ∙ placed_twice now c.unplace.new.self w.put.new.self s.0 (Some w.in-Some.program) c.unplace.ensures.moved w.in_ok-put.ensures ∙ ap (with_place now s.0) (sym w.in-Some.is)
      | in_default w ↦ w.self-is ∙ c.unplace.ensures.moved ∙ ap (with_place now s.0) (sym w.in_default.is)
    ] in
    sent_one c.args.self.now now c.match-place.self c.args.sent.now c.loop-applicant.applicant-index s _ c.loop-applicant-test.true c.loop-applicant-item.is is c.loop-applicant.invariant
