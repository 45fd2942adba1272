use Rattle.std.proofs.lemmas.Grind.{common_steps}
use Rattle.std.proofs.Common.{arith, Vec, ap, sym, ◌∙◌, IsTrue, IsFalse}
use Rattle.mt_terms.specs.Matching.{at, is_program}
use Rattle.mt_verify.proofs.PlacedFacts.{after_member, after_other}
use Rattle.mt_verify.proofs.placed.placed_at.Goals as goal
use Rattle.mt_verify.proofs.placed.placed_at.Goals.{then-eq+in_ok-push, else-eq}
use Rattle.mt_terms.proofs.AgentFacts.{is_program_read}

pub loop-rank-preserved : goal.loop-rank-preserved
loop-rank-preserved c = elim c.if-eq.branch [
  | then-eq+in_ok-push w ↦
      let here : IsTrue (at c.args.matched.now.places c.args.program c.applicant-item.result) =
      ap (is_program c.args.program) (sym c.place.ensures) ∙ sym (is_program_read c.args.program c.place.result) ∙ sym c.eq.ensures ∙ w.if-eq.true in
      ap Vec.items w.ranks-is ∙ w.in_ok-push.ensures.items ∙ after_member c.loop-rank.ranks.items (at c.args.matched.now.places c.args.program) c.program_list-applicant-items.result.now c.loop-rank.rank c.applicant-item.result c.loop-rank-test.true c.applicant-item.is c.loop-rank.invariant here
  | else-eq w ↦
      let other : IsFalse (at c.args.matched.now.places c.args.program c.applicant-item.result) =
      ap (is_program c.args.program) (sym c.place.ensures) ∙ sym (is_program_read c.args.program c.place.result) ∙ sym c.eq.ensures ∙ w.if-eq.false in
      ap Vec.items w.ranks-is ∙ after_other c.loop-rank.ranks.items (at c.args.matched.now.places c.args.program) c.program_list-applicant-items.result.now c.loop-rank.rank c.applicant-item.result c.loop-rank-test.true c.applicant-item.is c.loop-rank.invariant other
]

pub returns : goal.returns
returns c = grind (arith, common_steps)

pub overflow_cast-rank : goal.overflow_cast-rank
overflow_cast-rank c = grind (arith, common_steps)
