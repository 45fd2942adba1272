use Rattle.std.proofs.Common.{arith}
use Rattle.mt_lists.specs.Tap.{bytes_left}
use Rattle.mt_files.proofs.BothFacts.{none_failed}
use Rattle.mt_files.proofs.FileFacts.{match_turn, memory_refused}
use Rattle.mt_files.specs.declared.source.Source.TheVariants.{Match}
use Rattle.mt_check.proofs.AnswerFacts.{answers_found, answers_refused, found_code}
use Rattle.mt_check.proofs.whole.check.Goals as goal

pub returns-in-Ok-judged-clause-answers : goal.returns-in-Ok-judged-clause-answers
returns-in-Ok-judged-clause-answers g c =
    answers_found _ _ _ _ _ c.end.result.code c.end.result.written c.end.result.whole c.in-Ok.files c.in-Ok.ensures.files c.in-Ok-judged.found c.in-Ok-judged.ensures
    c.end.ensures.code _ c.deref.ensures.value c.end.ensures.written

pub returns-in-Ok-judged-clause-fault : goal.returns-in-Ok-judged-clause-fault
returns-in-Ok-judged-clause-fault g c =
    let small = found_code c.in-Ok.files.roster c.in-Ok.files.submitted c.in-Ok-judged.found c.in-Ok-judged.ensures in
    let code = c.end.ensures.code in
    none_failed _ c.in-Ok.ensures.fault (λ e. omega arith)

pub returns-in-Ok-clause-answers : goal.returns-in-Ok-clause-answers
returns-in-Ok-clause-answers g c =
    let market = bytes_left g.R.Read.remaining c.args.market.now in
    let matched = bytes_left g.S.Read.remaining c.args.matched.now in
    answers_refused market matched _ _ _ c.refuse.result.code c.refuse.result.written c.refuse.result.whole (record { source = Match; refusal = c.alone.result })
    (memory_refused market matched c.alone.result c.alone.ensures.code c.alone.ensures.row c.alone.ensures.id) (match_turn market matched c.in-Ok.files c.in-Ok.ensures.files 0)
    c.refuse.ensures.code c.refuse.ensures.written

pub returns-clause-answers : goal.returns-clause-answers
returns-clause-answers g c =
    answers_refused _ _ _ _ _ c.refuse-in-Err.result.code c.refuse-in-Err.result.written c.refuse-in-Err.result.whole c.in-Err.field-0 c.in-Err.ensures.refused c.in-Err.ensures.in_turn
    c.refuse-in-Err.ensures.code c.refuse-in-Err.ensures.written
