-- What words ask for, by the matches of a command or by its error.
use Rattle.std.proofs.Common.{◌≡◌, ◌∙◌, true, Bor, List, Option, Result, Ok, Err, IfErr, sym, ap, subst, inl, inr}
use Rattle.std.proofs.lemmas.Slice.Eq.{bytes_eq-Decides}
use Rattle.std.specs.Prelude.{IsErrAnd, codes, option_map}
use Rattle.clap.specs.Kinds.{HasKind, IsAmong}
use Rattle.clap.specs.Words.{App, Row, Text, fault_of, first_of, kind_of, matches_of, rows_of}
use Rattle.clap.specs.Matches.{first_value}
use Rattle.clap.proofs.WalkLemmas.{first_value-rows}
use Rattle.clap.specs.declared.parser.matches.Found.{Found}
use Rattle.clap.specs.declared.error.Error.{Error}
use Rattle.clap.specs.declared.error.kind.ErrorKind.{ErrorKind}
use Rattle.mt_file_programs.specs.CommandLine.{AreMisuse, AreRefused, NameNoFilesIn}
use Rattle.mt_program.specs.CommandLine.{is_standard}
use Rattle.mt_file_programs.specs.Unasked.{IsEndOf, IsMisuseBy, IsUnaskedBy}
use Rattle.mt_program.specs.Unasked.{IsMisuseWith}
use Rattle.mt_program.specs.declared.unasked.Unasked.{Unasked}
use Rattle.mt_program.specs.declared.unasked.Unasked.TheVariants.{Told, Misuse, Memory}

-- an error of `clap`, by its kind
pub unasked_by_kind : (app : App) (words : List Text) (e : Error) (unasked : Unasked) → HasKind (fault_of app words) e → IsEndOf (kind_of e) unasked
    → IsUnaskedBy app (AreRefused app words) words unasked
unasked_by_kind app words e (Told text) (inl memory) end = absurd (end.0 memory)
unasked_by_kind app words e (Told text) (inr among) end = elim end.1 [
  | inl help ↦ inl (subst (λ (k : ErrorKind). IsAmong k (fault_of app words)) help among)
  | inr version ↦ inr (subst (λ (k : ErrorKind). IsAmong k (fault_of app words)) version among)
]
unasked_by_kind app words e (Misuse text) (inl memory) end = absurd (end.0 memory)
unasked_by_kind app words e (Misuse text) (inr among) end = (kind_of e, end.1, end.2, among)
unasked_by_kind app words e Memory h end = tt

-- a command's refusal is misuse of it, and so are words that name no two files
pub misuse_by_refusal : (app : App) (words : List Text) (unasked : Unasked) → IsUnaskedBy app (AreRefused app words) words unasked → IsUnaskedBy app (AreMisuse app words) words unasked
misuse_by_refusal app words (Told text) h = h
misuse_by_refusal app words (Misuse text) h = inl h
misuse_by_refusal app words Memory h = tt

pub misuse_by_named : (app : App) (words : List Text) (rows : List Row) (unasked : Unasked) → rows ≡ matches_of app words → IsMisuseBy (NameNoFilesIn rows) unasked
    → IsUnaskedBy app (AreMisuse app words) words unasked
misuse_by_named app words rows (Told text) is h = absurd h
misuse_by_named app words rows (Misuse text) is h = inr (rw is at h)
misuse_by_named app words rows Memory is h = tt

-- what the matches name by an argument, a row of them has
pub named_in : (f : Found) (id : Text) (o v : Option (Bor Text)) → option_map (λ (s : Bor Text). s.now) o ≡ first_value f id → o ≡ v
    → first_of id (rows_of f) ≡ option_map (λ (s : Bor Text). s.now) v
named_in f id o v read is = sym (first_value-rows f id) ∙ sym read ∙ ap (option_map (λ (s : Bor Text). s.now)) is

-- words that are misuse for a reason of their own
pub misuse_by : (text : Text) (wrong : Type 0) (unasked : Unasked) → IsMisuseWith text unasked → wrong → IsMisuseBy wrong unasked
misuse_by text wrong (Told said) none h = none
misuse_by text wrong (Misuse said) is h = h
misuse_by text wrong Memory is h = tt

-- want of memory says nothing of the words
pub unasked_by_memory : {T : Type 0} (app : App) (misuse : Type 0) (words : List Text) (result : Result T Unasked) → IsErrAnd result (λ e. e ≡ Memory)
    → IfErr result (IsUnaskedBy app misuse words)
unasked_by_memory app misuse words (Ok x) h = tt
unasked_by_memory app misuse words (Err (Told text)) h = cc
unasked_by_memory app misuse words (Err (Misuse text)) h = cc
unasked_by_memory app misuse words (Err Memory) h = tt

-- a word that is standard input is `-`
pub standard_is : (word : Text) → is_standard word ≡ true → word ≡ codes "-"
standard_is word h = (bytes_eq-Decides word (codes "-")).0 h

-- an error that is passed on says what it said
pub passed_on : {T : Type 0} (P : Unasked → Type 0) (result : Result T Unasked) (e : Unasked) → IsErrAnd result (λ y. y ≡ e) → P e → IfErr result P
passed_on P (Ok x) e h p = tt
passed_on P (Err y) e h p = subst P (sym h) p
