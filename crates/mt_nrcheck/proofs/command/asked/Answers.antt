use Rattle.std.proofs.Common.{◌≡◌, ◌∙◌, None, Some, ap, codes, refl, true}
use Rattle.clap.proofs.OnLiterals.{clap_on_literals}
use Rattle.clap.specs.Words.{app_of, found_of, is_simple_and_free, rows_of}
use Rattle.mt_program.specs.CommandLine.{texts_of}
use Rattle.mt_file_programs.specs.Unasked.{IsUnaskedBy}
use Rattle.mt_file_programs.proofs.WordFacts.{named_in, passed_on, unasked_by_memory}
use Rattle.mt_nrcheck.specs.CommandLine.{AreMisuse, nrcheck}
use Rattle.mt_nrcheck.proofs.AskedFacts.{check_named, faults_named, refused, unnamed}
use Rattle.mt_nrcheck.proofs.command.asked.Goals as goal

free : is_simple_and_free nrcheck ≡ true
unfolding clap_on_literals
free = refl

pub matches_of-requires : goal.matches_of-requires
matches_of-requires c = ap is_simple_and_free c.in_ok-command.ensures ∙ free

pub returns-in_err-command-clause-unasked : goal.returns-in_err-command-clause-unasked
returns-in_err-command-clause-unasked c =
    unasked_by_memory nrcheck (AreMisuse (texts_of c.args.words.now)) (texts_of c.args.words.now) c.from_residual.result c.from_residual.ensures.1

pub returns-in_err-matches-clause-unasked : goal.returns-in_err-matches-clause-unasked
returns-in_err-matches-clause-unasked c =
    let words = texts_of c.args.words.now in
    passed_on (IsUnaskedBy nrcheck (AreMisuse words) words) c.from_residual-in_err-matches.result _ c.from_residual-in_err-matches.ensures.1
    (refused (app_of c.in_ok-command.field-0) c.in_ok-command.ensures words _ c.in_err-matches.ensures.unasked)

pub check_asked-requires : goal.check_asked-requires
check_asked-requires c =
    let there = named_in (found_of c.in_ok-matches.matches) (codes "MATCH") c.get_str.result (Some c.in-Some.field-0) c.get_str.ensures c.in-Some.is in
    λ none. cc

pub faults_asked-requires : goal.faults_asked-requires
faults_asked-requires c = named_in (found_of c.in_ok-matches.matches) (codes "MATCH") c.get_str.result None c.get_str.ensures c.in-None.is

pub returns-in-Some-clause-request : goal.returns-in-Some-clause-request
returns-in-Some-clause-request c =
    check_named (app_of c.in_ok-command.field-0) c.in_ok-command.ensures (texts_of c.args.words.now) (rows_of (found_of c.in_ok-matches.matches)) c.check_asked.result
    c.in_ok-matches.ensures.rows c.in_ok-matches.ensures.taken c.check_asked.ensures.request

pub returns-in-Some-clause-unasked : goal.returns-in-Some-clause-unasked
returns-in-Some-clause-unasked c =
    unnamed (app_of c.in_ok-command.field-0) c.in_ok-command.ensures (texts_of c.args.words.now) (rows_of (found_of c.in_ok-matches.matches)) c.check_asked.result
    c.in_ok-matches.ensures.rows c.check_asked.ensures.unasked

pub returns-clause-request : goal.returns-clause-request
returns-clause-request c =
    let none = named_in (found_of c.in_ok-matches.matches) (codes "MATCH") c.get_str.result None c.get_str.ensures c.in-None.is in
    faults_named (app_of c.in_ok-command.field-0) c.in_ok-command.ensures (texts_of c.args.words.now) (rows_of (found_of c.in_ok-matches.matches)) c.faults_asked.result
    c.in_ok-matches.ensures.rows c.in_ok-matches.ensures.taken none c.faults_asked.ensures.request

pub returns-clause-unasked : goal.returns-clause-unasked
returns-clause-unasked c =
    unnamed (app_of c.in_ok-command.field-0) c.in_ok-command.ensures (texts_of c.args.words.now) (rows_of (found_of c.in_ok-matches.matches)) c.faults_asked.result
    c.in_ok-matches.ensures.rows c.faults_asked.ensures.unasked
