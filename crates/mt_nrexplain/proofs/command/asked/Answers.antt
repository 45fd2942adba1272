use Rattle.std.proofs.Common.{◌≡◌, ◌∙◌, ap, codes, refl, true}
use Rattle.clap.proofs.OnLiterals.{clap_on_literals}
use Rattle.clap.specs.Words.{app_of, is_simple_and_free}
use Rattle.mt_file_programs.specs.CommandLine.{AreMisuse, is_given_in}
use Rattle.mt_program.specs.CommandLine.{texts_of}
use Rattle.mt_file_programs.specs.Unasked.{IsUnaskedBy}
use Rattle.mt_file_programs.proofs.AskedFacts.{files_are, rows_are, unasked_is}
use Rattle.mt_file_programs.proofs.WordFacts.{passed_on, unasked_by_memory}
use Rattle.mt_nrexplain.specs.CommandLine.{ids_in, nrexplain}
use Rattle.mt_nrexplain.proofs.command.asked.Goals as goal

free : is_simple_and_free nrexplain ≡ true
unfolding clap_on_literals
free = refl

pub named_files-requires : goal.named_files-requires
named_files-requires c = ap is_simple_and_free c.in_ok-command.ensures ∙ free

pub returns-in_err-command-clause-unasked : goal.returns-in_err-command-clause-unasked
returns-in_err-command-clause-unasked c =
    unasked_by_memory nrexplain (AreMisuse nrexplain (texts_of c.args.words.now)) (texts_of c.args.words.now) c.from_residual.result c.from_residual.ensures.1

pub returns-in_err-files-clause-unasked : goal.returns-in_err-files-clause-unasked
returns-in_err-files-clause-unasked c =
    let words = texts_of c.args.words.now in
    passed_on (IsUnaskedBy nrexplain (AreMisuse nrexplain words) words) c.from_residual-in_err-files.result _ c.from_residual-in_err-files.ensures.1
    (unasked_is nrexplain (app_of c.in_ok-command.field-0) c.in_ok-command.ensures words _ c.in_err-files.ensures.unasked)

pub returns-in_err-ids_of-clause-unasked : goal.returns-in_err-ids_of-clause-unasked
returns-in_err-ids_of-clause-unasked c =
    unasked_by_memory nrexplain (AreMisuse nrexplain (texts_of c.args.words.now)) (texts_of c.args.words.now) c.from_residual-in_err-ids_of.result
    c.from_residual-in_err-ids_of.ensures.1

pub returns-clause-request : goal.returns-clause-request
returns-clause-request c =
    let words = texts_of c.args.words.now in
    let same = rows_are nrexplain (app_of c.in_ok-command.field-0) c.in_ok-command.ensures words _ c.in_ok-files.ensures.rows in
    record {
      files = files_are nrexplain (app_of c.in_ok-command.field-0) c.in_ok-command.ensures words _ _ c.in_ok-files.ensures.files;
      ids = c.in_ok-ids_of.ensures ∙ ap ids_in same;
      is_public = c.is_given.ensures ∙ ap (is_given_in (codes "public")) same;
    }
