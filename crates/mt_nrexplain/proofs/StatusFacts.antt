-- What the status of an explanation says of the words, by its code.
use Rattle.std.proofs.Common.{◌≡◌, ◌≢◌, ℕ, ◌<◌, Bool, [], ◌∷◌, List, Option, refl, sym, subst, inl, inr, arith}
use Rattle.clap.specs.Words.{Text, fault_of}
use Rattle.mt_file_programs.specs.CommandLine.{AreMisuse}
use Rattle.mt_file_programs.proofs.ExitFacts.{AreOwn, IsFilesCode, exit_of_run, files_code}
use Rattle.mt_file_programs.proofs.CodeFacts.{refused_code}
use Rattle.mt_files.proofs.NameFacts.{codes_large}
use Rattle.mt_explained.specs.Headline.{IsRefusal}
use Rattle.mt_nrexplain.specs.CommandLine.{nrexplain}
use Rattle.mt_nrexplain.specs.Program.{IsExplanation, IsExitFor}

pub own : AreOwn (2 ∷ [])
own = record { refused = refl; not_done = refl; not_memory = refl; not_unwritten = refl; not_misuse = refl }

-- the code of a refused file, or of a word that names no agent
of_refusal : (ids : List Text) (code : ℕ) (text : List ℕ) → IsRefusal ids code text → IsFilesCode code
of_refusal ids code text refusal = elim refusal.says [
  | inl w ↦ refused_code refusal.file code w.named.known
  | inr w ↦ subst IsFilesCode (sym w.1.is_code) (record { not_aside = refl; not_spent = refl })
]

large_refusal : (ids : List Text) (code : ℕ) (text : List ℕ) → IsRefusal ids code text → 1 < code
large_refusal ids code text refusal = elim refusal.says [
  | inl w ↦ codes_large refusal.file code w.named.known
  | inr w ↦ let is : code ≡ 56 = w.1.is_code in omega arith
]

-- nothing is refused with code 1
not_one : (ids : List Text) (code : ℕ) (text : List ℕ) → (code ≢ 0 → IsRefusal ids code text) → code ≡ 1 → ⊥
not_one ids code text refusal one = let large = large_refusal ids code text (refusal (λ none. omega arith)) in omega arith

pub exit_of_explanation : (words ids : List Text) (is_public : Bool) (market matched old new : Option (List ℕ)) (status : ℕ)
    → IsExplanation ids is_public market matched old new status → fault_of nrexplain words ≡ [] → IsExitFor words status
exit_of_explanation words ids is_public market matched old new status is taken =
    let refusal = is.answers.says.refusal in
    exit_of_run nrexplain (2 ∷ []) (AreMisuse nrexplain words) words own taken is.code is.whole status is.is_status
    (files_code is.code (λ large. of_refusal ids is.code is.answers.text (refusal (λ none. omega arith))))
    (λ one. absurd (not_one ids is.code is.answers.text refusal one))
