-- What the status of a report says of the words, by its code.
use Rattle.std.proofs.Common.{◌≡◌, ◌≢◌, ℕ, [], ◌∷◌, List, Option, refl, arith}
use Rattle.clap.specs.Words.{Text, fault_of}
use Rattle.mt_file_programs.specs.CommandLine.{AreMisuse}
use Rattle.mt_file_programs.proofs.ExitFacts.{AreOwn, exit_of_run, files_code}
use Rattle.mt_file_programs.proofs.CodeFacts.{refused_code}
use Rattle.mt_files.proofs.NameFacts.{codes_large}
use Rattle.mt_reported.specs.Headline.{IsRefusal}
use Rattle.mt_reported.specs.declared.form.Form.{Form}
use Rattle.mt_nrreport.specs.CommandLine.{nrreport}
use Rattle.mt_nrreport.specs.Program.{IsReport, IsExitFor}

pub own : AreOwn (2 ∷ [])
own = record { refused = refl; not_done = refl; not_memory = refl; not_unwritten = refl; not_misuse = refl }

-- no file is refused with code 1
not_one : (code : ℕ) (text : List ℕ) → (code ≢ 0 → IsRefusal code text) → code ≡ 1 → ⊥
not_one code text refusal one =
    let refused = refusal (λ none. omega arith) in
    let large = codes_large refused.file code refused.named.known in
    omega arith

pub exit_of_report : (words : List Text) (form : Form) (market matched old new : Option (List ℕ)) (status : ℕ) → IsReport form market matched old new status → fault_of nrreport words ≡ [] → IsExitFor words status
exit_of_report words form market matched old new status is taken =
    let refusal = is.answers.says.refusal in
    exit_of_run nrreport (2 ∷ []) (AreMisuse nrreport words) words own taken is.code is.whole status is.is_status
    (files_code is.code (λ large. let refused = refusal (λ none. omega arith) in refused_code refused.file is.code refused.named.known))
    (λ one. absurd (not_one is.code is.answers.text refusal one))
