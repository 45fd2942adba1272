-- Each seat counts for what it passes: who is at the program and ahead leaves, and who is sent there and ahead comes. Who
-- has the rank itself isn't ahead of it.
use Rattle.std.proofs.Common.{◌≡◌, ◌∙◌, sym, ap, arith, take, true, false, Bool, eqb-true, le-ltb}
use Rattle.std.proofs.lemmas.Bool.{and_left, and_right, and_from, not-false}
use Rattle.mt_terms.specs.Lists.{has}
use Rattle.mt_terms.specs.Market.{program_of}
use Rattle.mt_terms.specs.Matching.{at, is_program}
use Rattle.mt_terms.proofs.ListFacts.{has-take-position}
use Rattle.mt_terms.proofs.AgentFacts.{is_program_read}
use Rattle.mt_stage_tables.proofs.PlaceFacts.{at_read}
use Rattle.mt_round_laws.proofs.SentCounts.{comes, leaves}
use Rattle.mt_assignment.proofs.SentFacts.{sent_within, seat_more}
use Rattle.mt_assignment.proofs.assignment.Assignment.movers_ahead.Goals as goal
use Rattle.mt_assignment.proofs.assignment.Assignment.movers_ahead.Goals.{then-eq+then-is_ahead, else-eq, else-eq-via-then-eq+else-is_ahead, else-eq-via-else-eq, then-ne+then-eq-2+then-is_ahead-2, else-ne, else-ne-via-then-ne+then-eq-2+else-is_ahead-2, else-ne-via-then-ne+else-eq-2, else-ne-via-else-ne}

pub is_ahead-requires : goal.is_ahead-requires
is_ahead-requires c = sent_within c.args.self.now.market c.args.sent.now c.loop-seat.seat-index c.seat-item.result c.requires.sent c.loop-seat-test.true c.seat-item.is

pub is_ahead-requires-then-eq-2 : goal.is_ahead-requires-then-eq-2
is_ahead-requires-then-eq-2 c = sent_within c.args.self.now.market c.args.sent.now c.loop-seat.seat-index c.seat-item.result c.requires.sent c.loop-seat-test.true c.seat-item.is

pub loop-seat-preserved : goal.loop-seat-preserved
loop-seat-preserved c =
    let p = c.args.program in
    let k = c.args.rank in
    let places = c.args.self.now.places in
    let ranking = (program_of c.args.self.now.market p).ranking in
    let front = take k ranking in
    let s = c.seat-item.result in
    let goes = λ (b : Bool) (is : leaves places p front s ≡ b). seat_more (leaves places p front) c.args.sent.now c.loop-seat.seat-index s b c.loop-seat-test.true c.seat-item.is is in
    let more = λ (b : Bool) (is : comes p front s ≡ b). seat_more (comes p front) c.args.sent.now c.loop-seat.seat-index s b c.loop-seat-test.true c.seat-item.is is in
    let there : at places p s.0 ≡ c.eq.result = at_read places p s.0 c.place.result c.eq.result c.place.ensures c.eq.ensures in
    record {
      leaving = elim c.if-eq.branch [
        | then-eq+then-is_ahead w ↦
            omega (arith, w.leaving-is, goes true (and_from _ _ (there ∙ w.if-eq.true) (sym w.is_ahead.ensures ∙ w.if-is_ahead.true)))
        | else-eq w ↦ elim w.else-eq.branch [
          | else-eq-via-then-eq+else-is_ahead w' ↦
              omega (arith, w.leaving-is, goes false (and_right (at places p s.0) _ (sym w'.is_ahead.ensures ∙ w'.if-is_ahead.false)))
          | else-eq-via-else-eq w' ↦ omega (arith, w.leaving-is, goes false (and_left _ (has front s.0) (there ∙ w'.if-eq.false)))
        ]
      ];
      coming = elim c.if-ne.branch [
        | then-ne+then-eq-2+then-is_ahead-2 w ↦
            let here : is_program p s.1 ≡ w.eq-then-ne.result = sym (is_program_read p s.1) ∙ sym w.eq-then-ne.ensures in
            omega (arith, w.coming-is, more true (and_from _ _ (here ∙ w.if-eq-2.true) (sym w.is_ahead-then-eq-2.ensures ∙ w.if-is_ahead-2.true)))
        | else-ne w ↦ elim w.else-ne.branch [
          | else-ne-via-then-ne+then-eq-2+else-is_ahead-2 w' ↦
              omega (arith, w.coming-is, more false (and_right (is_program p s.1) _ (sym w'.is_ahead-then-eq-2.ensures ∙ w'.if-is_ahead-2.false)))
          | else-ne-via-then-ne+else-eq-2 w' ↦
              let here : is_program p s.1 ≡ w'.eq-then-ne.result = sym (is_program_read p s.1) ∙ sym w'.eq-then-ne.ensures in
              omega (arith, w.coming-is, more false (and_left _ (has front s.0) (here ∙ w'.if-eq-2.false)))
          | else-ne-via-else-ne w' ↦
              let same = eqb-true s.0 c.args.applicant (not-false _ (sym c.ne.ensures ∙ w'.if-ne.false)) in
              let own : has front c.args.applicant ≡ false = has-take-position ranking c.args.applicant k k c.requires.rank ∙ le-ltb k k (omega arith) in
              omega (arith, w.coming-is, more false (and_right (is_program p s.1) _ (ap (has front) same ∙ own)))
        ]
      ];
    }
