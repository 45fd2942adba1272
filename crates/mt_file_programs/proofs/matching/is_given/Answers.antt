use Rattle.std.proofs.Common.{◌∙◌, Some, None, ap, sym}
use Rattle.clap.specs.Words.{found_of}
use Rattle.mt_file_programs.specs.CommandLine.{says_true}
use Rattle.mt_file_programs.proofs.WordFacts.{named_in}
use Rattle.mt_file_programs.proofs.matching.is_given.Goals as goal

pub returns-in-Some : goal.returns-in-Some
returns-in-Some c =
    c.eq.ensures ∙ ap says_true (sym (named_in (found_of c.args.matches.now) c.args.name.now c.get_str.result (Some c.in-Some.text) c.get_str.ensures c.in-Some.is))

pub returns-in-None : goal.returns-in-None
returns-in-None c = ap says_true (sym (named_in (found_of c.args.matches.now) c.args.name.now c.get_str.result None c.get_str.ensures c.in-None.is))
