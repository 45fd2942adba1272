use Rattle.std.proofs.Common.{◌≡◌, ◌∙◌, ◌++◌, ℕ, List, ap, subst}
use Rattle.std.specs.Prelude.{decimal}
use Rattle.mt_terms.specs.Text.{id_text, name_among, refusals}
use Rattle.mt_pages.specs.Sending.{Breaks, Sends}
use Rattle.mt_fault_sink.specs.Seen.{fault_seen}
use Rattle.mt_fault_sink.specs.declared.fault.Fault.{Fault}
use Rattle.mt_fault_text.specs.Pieces.{fault_end, fault_front}
use Rattle.mt_fault_text.specs.Text.{fault_line_at}
use Rattle.mt_fault_text.proofs.LineFacts.{line_pieces}
use Rattle.mt_fault_text.proofs.PageFacts.{on_err_then, on_ok_then}
use Rattle.mt_fault_text.proofs.lines.write_fault.Goals as goal

-- the front of the line and its end
line_is : (fault : Fault) (number begins_on : ℕ) (front : List ℕ) → front ≡ fault_front fault.code number begins_on
    → front ++ fault_end (fault_seen fault) ≡ fault_line_at begins_on (number, fault_seen fault)
line_is fault number begins_on front is =
    ap (λ (x : List ℕ). x ++ fault_end (fault_seen fault)) is
    ∙ line_pieces (decimal fault.code) (name_among refusals fault.code) (decimal number) (decimal begins_on) (decimal fault.field) (id_text fault.id.now)

pub returns-clause-sends : goal.returns-clause-sends
returns-clause-sends g c =
    let is = line_is c.args.fault.now c.args.number c.args.line c.as_bytes.result.now (c.as_bytes.ensures.bytes ∙ c.set.ensures) in
    on_ok_then c.write_line.result (λ sends. subst (Sends _ _ _ _) is sends) c.write_line.ensures.sends

pub returns-clause-breaks : goal.returns-clause-breaks
returns-clause-breaks g c =
    let is = line_is c.args.fault.now c.args.number c.args.line c.as_bytes.result.now (c.as_bytes.ensures.bytes ∙ c.set.ensures) in
    on_err_then c.write_line.result (λ breaks. subst (Breaks _ _ _) is breaks) c.write_line.ensures.breaks
