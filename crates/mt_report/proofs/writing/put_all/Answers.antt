use Rattle.std.proofs.Common.{arith, ◌+◌, ◌-◌, ◌≤◌, length, length-take, length-drop, drop}
use Rattle.std.proofs.lemmas.Bool.Decides.{nat_tests}
use Rattle.mt_report.proofs.AppendsFacts.{Appends-then, take-front}
use Rattle.mt_report.proofs.writing.put_all.Goals as goal

pub loop-written-preserved : goal.loop-written-preserved
loop-written-preserved g c =
    let w : c.loop-written.written + c.offer-taken.result ≤ length c.args.bytes.now =
    (omega (arith, c.offer-taken.ensures.bound, length-take (length c.args.bytes.now - c.loop-written.written) (drop c.loop-written.written c.args.bytes.now), length-drop c.loop-written.written c.args.bytes.now)) in
    record {
      within = w;
      appended = rw (← take-front c.args.bytes.now c.loop-written.written c.offer-taken.result w) (Appends-then _ _ _ _ _ c.loop-written.invariant.appended c.offer-taken.ensures.appended);
      failures = grind (arith, nat_tests, c.offer-taken.ensures.failures, c.loop-written.invariant.failures);
    }
