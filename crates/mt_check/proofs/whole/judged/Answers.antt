use Rattle.mt_files.proofs.BothFacts.{none_of}
use Rattle.mt_check.proofs.AnswerFacts.{answer_by_all_lists, answer_by_others, judged_is}
use Rattle.mt_check.proofs.whole.judged.Goals as goal

pub returns-then-is_empty : goal.returns-then-is_empty
returns-then-is_empty g c =
    answer_by_all_lists c.args.files.now.roster c.args.files.now.submitted c.found.result
    (none_of c.aside-aside.result.now c.args.files.now.submitted.aside c.is_empty.result c.aside-aside.ensures c.is_empty.ensures c.if-is_empty.true) c.found.ensures

pub returns : goal.returns
returns g c =
    answer_by_others c.args.files.now.roster c.args.files.now.submitted c.found-2.result c.in_ok-others.others
    (judged_is c.args.files.now.roster c.args.files.now.submitted c.in_ok-others.others c.aside-aside.result.now c.aside-aside.ensures c.in_ok-others.ensures) c.found-2.ensures
