use Rattle.std.proofs.Common.{◌∙◌, sym}
use Rattle.mt_lists.specs.Records.{without_mark}
use Rattle.mt_terms.specs.Registration.{market_of}
use Rattle.mt_fault_terms.specs.OfFile.{faults_of}
use Rattle.mt_fault_text.proofs.SaysFacts.{given_market, given_marks, given_rows}
use Rattle.mt_fault_text.proofs.whole.answer_bytes.Goals as goal

pub returns-in-Ok-Some-clause-given : goal.returns-in-Ok-Some-clause-given
returns-in-Ok-Some-clause-given g c =
    let rows = c.in-Ok.rows in
    given_rows _ _ c.accept.result.code c.accept.result.whole c.args.bytes.now rows c.requires.few c.in-Ok.ensures.rows
    (given_market _ _ c.accept.result.code c.accept.result.whole (without_mark c.args.bytes.now) (market_of rows) (faults_of rows)
    c.in-Ok-Some.roster (sym c.in-Ok-Some.ensures ∙ c.in-Ok-Some.field-0-is) c.accept.ensures.given)

pub returns-in-Ok-None-clause-given : goal.returns-in-Ok-None-clause-given
returns-in-Ok-None-clause-given g c =
    given_rows _ _ c.list_faults.result.code c.list_faults.result.whole c.args.bytes.now c.in-Ok.rows c.requires.few c.in-Ok.ensures.rows
    c.list_faults.ensures.listed

pub returns-in-Err-TwoMarks-clause-given : goal.returns-in-Err-TwoMarks-clause-given
returns-in-Err-TwoMarks-clause-given g c =
    given_marks _ _ c.list_alone.result.code c.list_alone.result.whole c.args.bytes.now c.requires.few (c.in-Err-TwoMarks.ensures.two_marks.0 cc)
    c.list_alone.ensures.given
