use Rattle.std.proofs.lemmas.Bool.{and_parts}
use Rattle.clap.specs.Words.{app_of, is_simple}
use Rattle.clap.specs.Faults.{is_free_app}
use Rattle.clap.specs.Simple.{built}
use Rattle.mt_program.specs.CommandLine.{texts_of}
use Rattle.mt_file_programs.proofs.WordFacts.{unasked_by_kind}
use Rattle.mt_file_programs.proofs.matching.matches_of.Goals as goal

pub returns-in-Ok-clause-rows : goal.returns-in-Ok-clause-rows
returns-in-Ok-clause-rows c =
    let simple = (and_parts (is_simple (app_of c.args.command)) (is_free_app (built (app_of c.args.command))) c.requires).0 in (c.in-Ok.ensures.matches simple).0

pub returns-in-Ok-clause-taken : goal.returns-in-Ok-clause-taken
returns-in-Ok-clause-taken c = c.in-Ok.ensures.kinds c.requires

pub returns-in-Err-clause-unasked : goal.returns-in-Err-clause-unasked
returns-in-Err-clause-unasked c = unasked_by_kind (app_of c.args.command) (texts_of c.args.words.now) c.in-Err.error c.unasked_by.result (c.in-Err.ensures.kinds c.requires) c.unasked_by.ensures
