use Rattle.std.proofs.Common.{◌≡◌, true, subst, codes}
use Rattle.mt_args.specs.CommandLine.{IfRun, IfRunInWays, is_set, is_taken}
use Rattle.mt_program.specs.CommandLine.{texts_of}
use Rattle.mt_app.proofs.obey.Goals as goal

-- the run of the file, or of standard input
pub returns-in-Ok-Run : goal.returns-in-Ok-Run
returns-in-Ok-Run g c =
    let words = texts_of c.args.words.now in
    let taken : is_taken words ≡ true = subst (λ a. IfRun a (λ _ _. is_taken words ≡ true)) c.in-Ok-Run.field-0-is c.in-Ok-Run.ensures.taken in
    let flag : c.in-Ok-Run.set_aside ≡ is_set (codes "set-aside") words =
    subst (λ a. IfRunInWays a (λ _ set_aside. set_aside ≡ is_set (codes "set-aside") words)) c.in-Ok-Run.field-0-is c.in-Ok-Run.ensures.set_aside in
    c.match_file.ensures words taken (rw c.in-Ok-Run.field-0-is flag)
