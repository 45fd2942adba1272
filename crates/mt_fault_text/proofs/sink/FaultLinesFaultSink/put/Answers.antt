use Rattle.std.proofs.Common.{ℕ, ap, inl, refl, subst, sym, ◌∙◌}
use Rattle.std.proofs.lemmas.List.{append-nil}
use Rattle.mt_fault_sink.specs.Seen.{fault_seen}
use Rattle.mt_pages.specs.Sending.{Breaks}
use Rattle.mt_fault_text.specs.Text.{fault_line, fault_line_at}
use Rattle.mt_fault_text.proofs.PageFacts.{on_failed}
use Rattle.mt_fault_text.proofs.sink.FaultLinesFaultSink.put.Goals as goal

pub returns-then-is_err-clause-stopped : goal.returns-then-is_err-clause-stopped
returns-then-is_err-clause-stopped g c =
    let failed = c.if-is_err.ensures.value in
    let is = ap (λ (line : ℕ). fault_line_at line (c.args.number, fault_seen c.args.fault.now)) c.line_of-line.ensures.line
    ∙ sym (append-nil (fault_line c.args.self.now.numbers (c.args.number, fault_seen c.args.fault.now))) in
    inl (record {
      same_drain = refl;
      broken = refl;
      breaks = subst (Breaks _ _ _) is (on_failed c.write_fault-written.result failed c.write_fault-written.ensures.breaks);
      failures = on_failed c.write_fault-written.result failed c.write_fault-written.ensures.one_failed;
    })
