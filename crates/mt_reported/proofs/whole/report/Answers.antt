use Rattle.std.proofs.Common.{◌∙◌, arith}
use Rattle.mt_lists.specs.Tap.{bytes_left}
use Rattle.mt_files.proofs.BothFacts.{none_failed}
use Rattle.mt_files.proofs.FileFacts.{match_turn, memory_refused}
use Rattle.mt_files.specs.declared.source.Source.TheVariants.{Match}
use Rattle.mt_reported.proofs.AnswerFacts.{answers_refused, answers_reported}
use Rattle.mt_reported.proofs.whole.report.Goals as goal

pub returns-in-Ok-text_of-clause-answers : goal.returns-in-Ok-text_of-clause-answers
returns-in-Ok-text_of-clause-answers g c =
    answers_reported c.args.form _ _ _ _ _ c.end.result.code c.end.result.written c.end.result.whole c.in-Ok.files c.in-Ok.ensures.files c.end.ensures.code _
    (c.deref.ensures.value ∙ c.in-Ok-text_of.ensures) c.end.ensures.written

pub returns-in-Ok-text_of-clause-uses : goal.returns-in-Ok-text_of-clause-uses
returns-in-Ok-text_of-clause-uses g c =
    let code = c.end.ensures.code in
    record {
      market_taken = c.in-Ok.ensures.market_tap;
      match_taken = c.in-Ok.ensures.match_tap;
      fault = none_failed _ c.in-Ok.ensures.fault (λ e. omega arith);
      writer = c.end.ensures.failures;
      flushed = c.end.ensures.flushed;
    }

pub returns-in-Ok-clause-answers : goal.returns-in-Ok-clause-answers
returns-in-Ok-clause-answers g c =
    let market = bytes_left g.R.Read.remaining c.args.market.now in
    let matched = bytes_left g.S.Read.remaining c.args.matched.now in
    answers_refused c.args.form market matched _ _ _ c.refuse.result.code c.refuse.result.written c.refuse.result.whole (record { source = Match; refusal = c.alone.result })
    (memory_refused market matched c.alone.result c.alone.ensures.code c.alone.ensures.row c.alone.ensures.id) (match_turn market matched c.in-Ok.files c.in-Ok.ensures.files 0)
    c.refuse.ensures.code c.refuse.ensures.written

pub returns-in-Ok-clause-uses : goal.returns-in-Ok-clause-uses
returns-in-Ok-clause-uses g c =
    let memory = c.alone.ensures.code in
    let code = c.refuse.ensures.code in
    record {
      market_taken = c.in-Ok.ensures.market_tap;
      match_taken = c.in-Ok.ensures.match_tap;
      fault = none_failed _ c.in-Ok.ensures.fault (λ e. omega arith);
      writer = c.refuse.ensures.writer;
      flushed = c.refuse.ensures.flushed;
    }

pub returns-clause-answers : goal.returns-clause-answers
returns-clause-answers g c =
    answers_refused c.args.form _ _ _ _ _ c.refuse-in-Err.result.code c.refuse-in-Err.result.written c.refuse-in-Err.result.whole c.in-Err.field-0 c.in-Err.ensures.refused
    c.in-Err.ensures.in_turn c.refuse-in-Err.ensures.code c.refuse-in-Err.ensures.written

pub returns-clause-uses : goal.returns-clause-uses
returns-clause-uses g c = record {
  market_taken = c.in-Err.ensures.market_tap;
  match_taken = c.in-Err.ensures.match_tap;
  fault = rw c.refuse-in-Err.ensures.code c.in-Err.ensures.fault;
  writer = c.refuse-in-Err.ensures.writer;
  flushed = c.refuse-in-Err.ensures.flushed;
}
