-- What the status of a check says of the words, by its code.
use Rattle.std.proofs.Common.{ℕ, Bool, true, false, [], ◌∷◌, ◌≡◌, List, Option, arith, refl}
use Rattle.clap.specs.Words.{Text, fault_of}
use Rattle.mt_file_programs.proofs.ExitFacts.{AreOwn, exit_of_run, files_code}
use Rattle.mt_file_programs.proofs.CodeFacts.{refused_code}
use Rattle.mt_files.specs.declared.source.Source.TheVariants.{Market}
use Rattle.mt_nrcheck.specs.CommandLine.{AreMisuse, nrcheck}
use Rattle.mt_nrcheck.specs.Program.{IsCheck, IsCheckBy, IsExitFor, IsFaultList, IsFullCheck}

pub own : AreOwn (1 ∷ 2 ∷ [])
own = record { refused = refl; not_done = refl; not_memory = refl; not_unwritten = refl; not_misuse = refl }

exit_of_check : (words : List Text) (market matched old new : Option (List ℕ)) (status : ℕ) → IsCheck market matched old new status → fault_of nrcheck words ≡ [] → IsExitFor words status
exit_of_check words market matched old new status is taken =
    exit_of_run nrcheck (1 ∷ 2 ∷ []) (AreMisuse words) words own taken is.code is.whole status is.is_status
    (files_code is.code (λ large. let refused = is.answers.says.refusal large in refused_code refused.file is.code refused.named.known))
    (λ one. refl)

exit_of_full : (words : List Text) (market matched old new : Option (List ℕ)) (status : ℕ) → IsFullCheck market matched old new status → fault_of nrcheck words ≡ [] → IsExitFor words status
exit_of_full words market matched old new status is taken =
    exit_of_run nrcheck (1 ∷ 2 ∷ []) (AreMisuse words) words own taken is.code is.whole status is.is_status
    (files_code is.code (λ large. let refused = is.answers.says.refusal large in refused_code refused.file is.code refused.named.known))
    (λ one. refl)

pub exit_of_either : (words : List Text) (is_all : Bool) (market matched old new : Option (List ℕ)) (status : ℕ) → IsCheckBy is_all market matched old new status
    → fault_of nrcheck words ≡ [] → IsExitFor words status
exit_of_either words true market matched old new status is taken = exit_of_full words market matched old new status is taken
exit_of_either words false market matched old new status is taken = exit_of_check words market matched old new status is taken

pub exit_of_faults : (words : List Text) (market old new : Option (List ℕ)) (status : ℕ) → IsFaultList market old new status → fault_of nrcheck words ≡ [] → IsExitFor words status
exit_of_faults words market old new status is taken =
    exit_of_run nrcheck (1 ∷ 2 ∷ []) (AreMisuse words) words own taken is.code is.whole status is.is_status
    (files_code is.code (λ large. refused_code Market is.code (is.answers.says.known (λ none. omega arith))))
    (λ one. refl)
