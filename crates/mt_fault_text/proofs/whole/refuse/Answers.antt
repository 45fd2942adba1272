use Rattle.std.proofs.Common.{◌≡◌, ◌∙◌, List, ℕ, refl, subst}
use Rattle.mt_report.specs.Drains.{IsWritten}
use Rattle.mt_fault_text.specs.Answer.{refusal}
use Rattle.mt_fault_text.proofs.whole.refuse.Goals as goal

pub returns-clause-given : goal.returns-clause-given
returns-clause-given g c =
    let is : c.as_bytes.result.now ≡ refusal c.args.code = c.as_bytes.ensures ∙ c.refused-line.ensures in
    record {
      is_code = refl;
      written = c.put_all-wrote.result.written;
      is_written = subst (λ (text : List ℕ). IsWritten text (g.W.Write.contents c.args.drain.now.writer) (g.W.Write.contents c.put_all-wrote.new.drain.writer) c.put_all-wrote.result.written c.put_all-wrote.result.whole) is c.put_all-wrote.ensures.written;
    }
