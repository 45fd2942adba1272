use Rattle.std.proofs.Common.{◌≡◌, ℕ, ap, subst}
use Rattle.mt_fault_terms.specs.Faults.{FieldFault, fault_alone}
use Rattle.mt_fault_sink.specs.Seen.{fault_seen}
use Rattle.mt_pages.specs.Sending.{Breaks, Sends}
use Rattle.mt_pages.proofs.SendingFacts.{breaks_after, breaks_more, on_err, sends_then}
use Rattle.mt_fault_text.specs.Text.{count_line, fault_line_at}
use Rattle.mt_fault_text.proofs.PageFacts.{on_err_then, on_ok_then}
use Rattle.mt_fault_text.proofs.whole.write_alone.Goals as goal

-- the line of a fault that is at no field
line_is : (seen : FieldFault) (code : ℕ) → seen ≡ fault_alone code 0 → fault_line_at 0 (0, seen) ≡ fault_line_at 0 (0, fault_alone code 0)
line_is seen code is = ap (λ (fault : FieldFault). fault_line_at 0 (0, fault)) is

pub returns-in_err-write_fault-clause-breaks : goal.returns-in_err-write_fault-clause-breaks
returns-in_err-write_fault-clause-breaks g c =
    let is = line_is (fault_seen c.args.fault.now) c.args.fault.now.code c.requires.alone in
    on_err _ (breaks_more _ _ _ (fault_line_at 0 (0, fault_alone c.args.fault.now.code 0)) (count_line 1) (subst (Breaks _ _ _) is c.in_err-write_fault.ensures.breaks))

pub returns-clause-sends : goal.returns-clause-sends
returns-clause-sends g c =
    let is = line_is (fault_seen c.args.fault.now) c.args.fault.now.code c.requires.alone in
    on_ok_then c.finish.result
    (λ sends. sends_then _ _ _ _ _ _ (fault_line_at 0 (0, fault_alone c.args.fault.now.code 0)) (count_line 1) (subst (Sends _ _ _ _) is c.in_ok-write_fault.ensures.sends) sends)
    c.finish.ensures.sends

pub returns-clause-breaks : goal.returns-clause-breaks
returns-clause-breaks g c =
    let is = line_is (fault_seen c.args.fault.now) c.args.fault.now.code c.requires.alone in
    on_err_then c.finish.result
    (λ breaks. breaks_after _ _ _ _ _ (fault_line_at 0 (0, fault_alone c.args.fault.now.code 0)) (count_line 1) (subst (Sends _ _ _ _) is c.in_ok-write_fault.ensures.sends) breaks)
    c.finish.ensures.breaks
