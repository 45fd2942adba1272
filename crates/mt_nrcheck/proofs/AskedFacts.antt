-- What the words of nrcheck ask for: the facts of a command that was made, as facts of its definition.
use Rattle.std.proofs.Common.{◌≡◌, ◌∙◌, List, [], None, Result, Ok, Err, ap, subst, inl, inr}
use Rattle.std.specs.Prelude.{IfErr, IfOk, codes}
use Rattle.clap.specs.Words.{App, Row, Text, fault_of, first_of, matches_of}
use Rattle.mt_file_programs.specs.CommandLine.{AreRefused, NameNoFilesIn}
use Rattle.mt_file_programs.specs.Unasked.{IsMisuseBy, IsUnaskedBy}
use Rattle.mt_program.specs.declared.unasked.Unasked.{Unasked}
use Rattle.mt_program.specs.declared.unasked.Unasked.TheVariants.{Memory, Misuse, Told}
use Rattle.mt_nrcheck.specs.CommandLine.{AreMisuse, AskForCheck, AskForFaults, IsAskedBy, NameNoFiles, nrcheck}
use Rattle.mt_nrcheck.specs.declared.command.Request.{Request}

-- two files that aren't named, with a match
pub misuse_of_files : (rows : List Row) (unasked : Unasked) → (first_of (codes "MATCH") rows ≡ None → ⊥) → IsMisuseBy (NameNoFilesIn rows) unasked
    → IsMisuseBy (NameNoFiles rows) unasked
misuse_of_files rows (Told text) there h = h
misuse_of_files rows (Misuse text) there (inl none) = inl none
misuse_of_files rows (Misuse text) there (inr (inl none)) = absurd (there none)
misuse_of_files rows (Misuse text) there (inr (inr both)) = inr (inl both)
misuse_of_files rows Memory there h = h

module _ (made : App) (is : made ≡ nrcheck) (words : List Text) where
  by_refusal : (unasked : Unasked) → IsUnaskedBy nrcheck (AreRefused nrcheck words) words unasked → IsUnaskedBy nrcheck (AreMisuse words) words unasked
  by_refusal (Told text) h = h
  by_refusal (Misuse text) h = inl h
  by_refusal Memory h = tt

  -- words that the command refuses are misuse of it, unless they ask for help or the version
  pub refused : (unasked : Unasked) → IsUnaskedBy made (AreRefused made words) words unasked → IsUnaskedBy nrcheck (AreMisuse words) words unasked
  refused unasked h = by_refusal unasked (subst (λ (a : App). IsUnaskedBy a (AreRefused a words) words unasked) is h)

  rows_are : (rows : List Row) → rows ≡ matches_of made words → rows ≡ matches_of nrcheck words
  rows_are rows h = h ∙ ap (λ (a : App). matches_of a words) is

  by_names : (rows : List Row) → rows ≡ matches_of nrcheck words → (unasked : Unasked) → IsMisuseBy (NameNoFiles rows) unasked → IsUnaskedBy nrcheck (AreMisuse words) words unasked
  by_names rows same (Told text) h = absurd h
  by_names rows same (Misuse text) h = inr (subst NameNoFiles same h)
  by_names rows same Memory h = tt

  -- files that the matches don't name
  pub unnamed : (rows : List Row) (result : Result Request Unasked) → rows ≡ matches_of made words → IfErr result (IsMisuseBy (NameNoFiles rows))
      → IfErr result (IsUnaskedBy nrcheck (AreMisuse words) words)
  unnamed rows (Ok request) same h = tt
  unnamed rows (Err unasked) same h = by_names rows (rows_are rows same) unasked h

  taken : fault_of made words ≡ [] → fault_of nrcheck words ≡ []
  taken h = subst (λ (a : App). fault_of a words ≡ []) is h

  -- the faults of a market, if the matches name no match
  pub faults_named : (rows : List Row) (result : Result Request Unasked) → rows ≡ matches_of made words → fault_of made words ≡ []
      → first_of (codes "MATCH") rows ≡ None → IfOk result (AskForFaults rows) → IfOk result (IsAskedBy words)
  faults_named rows (Ok request) same none_wrong none h =
      let all = rows_are rows same in
      record {
        taken = taken none_wrong;
        asked = inl (subst (λ (rs : List Row). first_of (codes "MATCH") rs ≡ None) all none, subst (λ (rs : List Row). AskForFaults rs request) all h);
      }
  faults_named rows (Err unasked) same none_wrong none h = tt

  -- a check, if they name one
  pub check_named : (rows : List Row) (result : Result Request Unasked) → rows ≡ matches_of made words → fault_of made words ≡ []
      → IfOk result (AskForCheck rows) → IfOk result (IsAskedBy words)
  check_named rows (Ok request) same none_wrong h =
      record { taken = taken none_wrong; asked = inr (subst (λ (rs : List Row). AskForCheck rs request) (rows_are rows same) h) }
  check_named rows (Err unasked) same none_wrong h = tt
