use Rattle.std.proofs.Common.{◌≡◌, List, ℕ, Option, arith, rules, subst, sym}
use Rattle.mt_input.specs.Left.{AreRead}
use Rattle.mt_files.proofs.BothFacts.{none_failed}
use Rattle.mt_fault_text.proofs.SaysFacts.{answers_bytes, answers_large, answers_refusal, no_read_code, refused_by}
use Rattle.mt_fault_text.proofs.whole.check_market.Goals as goal
use Rattle.mt_fault_text.proofs.whole.check_market.Goals.{in-Ok, in-Err+in-10, in-Err+in_default}

-- bytes that were read, as a slice
read_as : (left : Option (List ℕ)) (items bytes : List ℕ) → bytes ≡ items → AreRead left items → AreRead left bytes
read_as left items bytes is read = subst (AreRead left) (sym is) read

pub returns-clause-answers : goal.returns-clause-answers
returns-clause-answers g c =
    elim c.match-bytes_of.branch [
      | in-Ok w ↦
          let outcome = w.answer_bytes-outcome.result in
          rw (w.drain-is, w.outcome-is)
          (answers_bytes _ _ outcome.code outcome.whole _ w.deref.result.now
          (read_as _ _ w.deref.result.now w.deref.ensures.value w.in-Ok.ensures.bytes) w.answer_bytes-outcome.ensures.given)
      | in-Err+in-10 w ↦
          rw (w.drain-is, w.outcome-is)
          (answers_large _ _ w.list_alone.result.code w.list_alone.result.whole _ w.in-Err.refusal w.in-10.is w.in-Err.ensures.refused w.list_alone.ensures.given)
      | in-Err+in_default w ↦
          rw (w.drain-is, w.outcome-is)
          (answers_refusal _ _ w.refuse.result.code w.refuse.result.whole _ w.in-Err.refusal.code
          (refused_by _ w.in-Err.refusal w.in-Err.ensures.refused (λ ten. omega arith)) w.refuse.ensures.given)
    ]

pub returns-clause-fault : goal.returns-clause-fault
returns-clause-fault g c =
    elim c.match-bytes_of.branch [
      | in-Ok w ↦
          let outcome = w.answer_bytes-outcome.result in
          rw w.outcome-is
          (none_failed outcome.code w.in-Ok.ensures.fault (no_read_code w.deref.result.now _ _ outcome.code outcome.whole w.answer_bytes-outcome.ensures.given))
      | in-Err+in-10 w ↦ rw w.outcome-is (search rules)
      | in-Err+in_default w ↦ rw w.outcome-is (search rules)
    ]
