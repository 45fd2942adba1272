use Rattle.mt_lists.specs.Tap.{bytes_left}
use Rattle.mt_match_file.specs.Submitted.{submitted_by}
use Rattle.mt_input.proofs.LeftFacts.{cannot_read, left_is, left_refused}
use Rattle.mt_files.specs.Files.{submitted_in}
use Rattle.mt_files.proofs.files.read_submitted.Goals as goal

pub returns-in-Err-clause-refused : goal.returns-in-Err-clause-refused
returns-in-Err-clause-refused g c = cannot_read (submitted_by c.args.roster.now) (bytes_left g.S.Read.remaining c.args.tap.now) c.in-Err.refusal c.in-Err.ensures.refused

pub returns-in-Ok-clause-submitted : goal.returns-in-Ok-clause-submitted
returns-in-Ok-clause-submitted g c =
    left_is (bytes_left g.S.Read.remaining c.args.tap.now) c.in-Ok.bytes.items c.deref.result.now c.in-Ok.ensures.bytes c.deref.ensures.value (submitted_in c.args.roster.now) (λ submitted. submitted)
    c.submitted_in.result c.submitted_in.ensures.submitted

pub returns-in-Ok-clause-refused : goal.returns-in-Ok-clause-refused
returns-in-Ok-clause-refused g c =
    left_refused (bytes_left g.S.Read.remaining c.args.tap.now) c.in-Ok.bytes.items c.deref.result.now c.in-Ok.ensures.bytes c.deref.ensures.value (submitted_in c.args.roster.now)
    c.submitted_in.result c.submitted_in.ensures.refused
