use Rattle.std.proofs.Common.{sym}
use Rattle.mt_files.proofs.BothFacts.{none_of}
use Rattle.mt_judged.proofs.AsideFacts.{none_aside_registered}
use Rattle.mt_judged.proofs.files.judged.Goals as goal

pub returns-then-is_empty-clause-roster : goal.returns-then-is_empty-clause-roster
returns-then-is_empty-clause-roster c =
    sym (none_aside_registered c.args.files.roster c.args.files.submitted.aside
    (none_of c.aside-aside.result.now c.args.files.submitted.aside c.is_empty.result c.aside-aside.ensures c.is_empty.ensures c.if-is_empty.true))
