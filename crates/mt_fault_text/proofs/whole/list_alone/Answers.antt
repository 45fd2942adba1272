use Rattle.std.proofs.Common.{inl}
use Rattle.mt_fault_text.proofs.AnswerFacts.{given_alone}
use Rattle.mt_fault_text.proofs.whole.list_alone.Goals as goal

pub returns-clause-given : goal.returns-clause-given
returns-clause-given g c =
    inl (given_alone c.write_alone.result c.args.code _ _ _ c.is_ok.result c.is_ok.ensures.value c.in-Ok.ensures c.write_alone.ensures.sends c.write_alone.ensures.breaks)
