-- What a program's words ask for: the facts of a command that was made, as facts of its definition.
use Rattle.std.proofs.Common.{◌≡◌, ◌∙◌, List, ap, subst}
use Rattle.clap.specs.Words.{App, Row, Text, matches_of}
use Rattle.mt_file_programs.specs.CommandLine.{AreMisuse, NameFiles}
use Rattle.mt_file_programs.specs.Unasked.{IsUnaskedBy}
use Rattle.mt_program.specs.declared.unasked.Unasked.{Unasked}

module _ (app made : App) (is : made ≡ app) (words : List Text) where
  pub unasked_is : (unasked : Unasked) → IsUnaskedBy made (AreMisuse made words) words unasked → IsUnaskedBy app (AreMisuse app words) words unasked
  unasked_is unasked h = subst (λ (a : App). IsUnaskedBy a (AreMisuse a words) words unasked) is h

  -- the rows of the matches are those of the definition
  pub rows_are : (rows : List Row) → rows ≡ matches_of made words → rows ≡ matches_of app words
  rows_are rows h = h ∙ ap (λ (a : App). matches_of a words) is

  pub files_are : (market matched : Text) → NameFiles made words market matched → NameFiles app words market matched
  files_are market matched h = subst (λ (a : App). NameFiles a words market matched) is h
