use Rattle.std.proofs.Common.{map, string_bytes}
use Rattle.mt_files.proofs.BothFacts.{none_failed}
use Rattle.mt_explained.proofs.AnswerFacts.{answers_fault, answers_files, no_read_code}
use Rattle.mt_explained.proofs.whole.explain.Goals as goal

pub returns-in-Ok-clause-answers : goal.returns-in-Ok-clause-answers
returns-in-Ok-clause-answers g c =
    answers_files (map string_bytes c.args.asked.ids.now) c.args.asked.is_public _ _ _ _ _ c.explain_files.result.code c.explain_files.result.whole c.in-Ok.files c.in-Ok.ensures.files
    c.explain_files.ensures.given

pub returns-in-Err-clause-answers : goal.returns-in-Err-clause-answers
returns-in-Err-clause-answers g c =
    answers_fault (map string_bytes c.args.asked.ids.now) c.args.asked.is_public _ _ _ _ _ c.refuse_file.result.code c.refuse_file.result.whole c.in-Err.field-0 c.in-Err.ensures.refused
    c.in-Err.ensures.in_turn c.refuse_file.ensures.given

pub returns-in-Ok-clause-uses : goal.returns-in-Ok-clause-uses
returns-in-Ok-clause-uses g c = record {
  market_taken = c.in-Ok.ensures.market_tap;
  match_taken = c.in-Ok.ensures.match_tap;
  fault = none_failed _ c.in-Ok.ensures.fault
      (no_read_code c.in-Ok.files.roster c.in-Ok.files.submitted (map string_bytes c.args.asked.ids.now) c.args.asked.is_public _ _ _ _ c.explain_files.ensures.given);
  writer = c.explain_files.ensures.writer;
  flushed = c.explain_files.ensures.flushed;
}

pub returns-in-Err-clause-uses : goal.returns-in-Err-clause-uses
returns-in-Err-clause-uses g c = record {
  market_taken = c.in-Err.ensures.market_tap;
  match_taken = c.in-Err.ensures.match_tap;
  fault = rw c.refuse_file.ensures.given.is_code c.in-Err.ensures.fault;
  writer = c.refuse_file.ensures.writer;
  flushed = c.refuse_file.ensures.flushed;
}
