use Rattle.std.proofs.Common.{◌∙◌, sym, ap, Some, None, inl, codes}
use Rattle.clap.specs.Words.{found_of, rows_of}
use Rattle.mt_file_programs.proofs.WordFacts.{misuse_by, named_in}
use Rattle.mt_nrcheck.specs.CommandLine.{NameNoFiles}
use Rattle.mt_nrcheck.proofs.command.faults_asked.Goals as goal

pub returns-in_default-clause-unasked : goal.returns-in_default-clause-unasked
returns-in_default-clause-unasked c =
    misuse_by _ (NameNoFiles (rows_of (found_of c.args.matches.now))) c.misuse.result c.misuse.ensures
    (inl (named_in (found_of c.args.matches.now) (codes "MARKET") c.get_str.result None c.get_str.ensures c.in_default.is))

pub returns-clause-request : goal.returns-clause-request
returns-clause-request c =
    let named = named_in (found_of c.args.matches.now) (codes "MARKET") c.get_str.result (Some c.in-Some.market) c.get_str.ensures c.in-Some.is in
    (named ∙ ap Some (sym c.in_ok-from_str.ensures.ok), sym c.is_given.ensures ∙ c.if-is_given.false, c.is_given-2.ensures)
