use Rattle.std.proofs.Common.{◌∙◌, sym, ap, Some, None, inl, inr, codes}
use Rattle.std.proofs.lemmas.Bool.{and_parts}
use Rattle.clap.specs.Words.{found_of, rows_of}
use Rattle.mt_file_programs.specs.CommandLine.{NameNoFilesIn}
use Rattle.mt_program.specs.CommandLine.{is_standard}
use Rattle.mt_file_programs.proofs.WordFacts.{misuse_by, named_in, standard_is}
use Rattle.mt_file_programs.proofs.files.two_files.Goals as goal

pub returns-in_default-clause-unasked : goal.returns-in_default-clause-unasked
returns-in_default-clause-unasked c =
    misuse_by _ (NameNoFilesIn (rows_of (found_of c.args.matches.now))) c.misuse.result c.misuse.ensures
    (inl (named_in (found_of c.args.matches.now) (codes "MARKET") c.get_str.result None c.get_str.ensures c.in_default.is))

pub returns-in_default-get_str-clause-unasked : goal.returns-in_default-get_str-clause-unasked
returns-in_default-get_str-clause-unasked c =
    misuse_by _ (NameNoFilesIn (rows_of (found_of c.args.matches.now))) c.misuse-in_default-get_str.result c.misuse-in_default-get_str.ensures
    (inr (inl (named_in (found_of c.args.matches.now) (codes "MATCH") c.get_str-2.result None c.get_str-2.ensures c.in_default-get_str.is)))

pub returns-then-are_standard-clause-unasked : goal.returns-then-are_standard-clause-unasked
returns-then-are_standard-clause-unasked c =
    let both = and_parts (is_standard c.in-Some.market.now) (is_standard c.in-Some-get_str.matched.now) (sym c.are_standard.ensures ∙ c.if-are_standard.true) in
    misuse_by _ (NameNoFilesIn (rows_of (found_of c.args.matches.now))) c.misuse-then-are_standard.result c.misuse-then-are_standard.ensures
    (inr (inr (
      named_in (found_of c.args.matches.now) (codes "MARKET") c.get_str.result (Some c.in-Some.market) c.get_str.ensures c.in-Some.is ∙ ap Some (standard_is c.in-Some.market.now both.0),
      named_in (found_of c.args.matches.now) (codes "MATCH") c.get_str-2.result (Some c.in-Some-get_str.matched) c.get_str-2.ensures c.in-Some-get_str.is
          ∙ ap Some (standard_is c.in-Some-get_str.matched.now both.1),
    )))

pub returns-in-Ok-clause-files : goal.returns-in-Ok-clause-files
returns-in-Ok-clause-files c = record {
  names_market = named_in (found_of c.args.matches.now) (codes "MARKET") c.get_str.result (Some c.in-Some.market) c.get_str.ensures c.in-Some.is ∙ ap Some (sym c.in-Ok.ensures.market);
  names_match = named_in (found_of c.args.matches.now) (codes "MATCH") c.get_str-2.result (Some c.in-Some-get_str.matched) c.get_str-2.ensures c.in-Some-get_str.is
      ∙ ap Some (sym c.in-Ok.ensures.matched);
  differ = rw (c.in-Ok.ensures.market, c.in-Ok.ensures.matched) (sym c.are_standard.ensures ∙ c.if-are_standard.false);
}
