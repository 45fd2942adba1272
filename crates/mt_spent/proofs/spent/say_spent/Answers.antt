use Rattle.std.proofs.Common.{◌∙◌, inr, subst}
use Rattle.mt_report.specs.Drains.{IsWritten}
use Rattle.mt_spent.proofs.spent.say_spent.Goals as goal

-- src/spent.rt:123:1
pub returns-in-Ok-clause-says : goal.returns-in-Ok-clause-says
returns-in-Ok-clause-says g c =
    inr (
      c.put_all.result.written,
      c.put_all.result.whole,
      subst (λ line. IsWritten line (g.W.Write.contents c.args.drain.now.writer) (g.W.Write.contents c.put_all.new.drain.writer) c.put_all.result.written c.put_all.result.whole)
          (c.deref.ensures.value ∙ c.in-Ok.ensures) c.put_all.ensures.written,
    )
