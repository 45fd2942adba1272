-- What an exit status says of the words: that of a text in place of a run, and that of a run by its code. The statuses
-- 0, 4, 5 and 64 are taken one by one.
use Rattle.std.proofs.Common.{◌≡◌, ◌∙◌, ℕ, zero, suc, ◌<◌, ◌≤◌, Bool, true, false, List, [], Option, refl, sym, subst, inl, inr, nat_le, arith}
use Rattle.std.specs.Prelude.{◌==◌, ◌⊎◌, if◌then◌else◌}
use Rattle.std.proofs.lemmas.Bool.{true≢false}
use Rattle.std.proofs.lemmas.Bool.Decides.{nat_tests}
use Rattle.clap.specs.Words.{App, Text, fault_of}
use Rattle.mt_terms.specs.Lists.{has}
use Rattle.mt_report.specs.Status.{status_of}
use Rattle.mt_report.specs.declared.drain.Drain.{Drain}
use Rattle.mt_file_programs.specs.CommandLine.{AskToBeTold}
use Rattle.mt_file_programs.specs.Exit.{IsExitOf}
use Rattle.mt_file_programs.specs.Unasked.{IsUnaskedBy}
use Rattle.mt_program.specs.Unasked.{IsStatusFor, IsToldFor}
use Rattle.mt_program.specs.declared.unasked.Unasked.{Unasked}
use Rattle.mt_program.specs.declared.unasked.Unasked.TheVariants.{Told, Misuse, Memory}

-- a program's own statuses: that of a refused file, and none of those that each program has
pub record AreOwn (own : List ℕ) : Type 0 where
  pub refused : has own 2 ≡ true
  pub not_done : has own 0 ≡ false
  pub not_memory : has own 4 ≡ false
  pub not_unwritten : has own 5 ≡ false
  pub not_misuse : has own 64 ≡ false

-- a code with which no run of couples ends: neither that of couples set aside nor that of a spent budget
pub record IsFilesCode (code : ℕ) : Type 0 where
  pub not_aside : (code == 6) ≡ false
  pub not_spent : (code == 41) ≡ false

-- so is a code that is 0 or 1, or a refusal's
pub files_code : (code : ℕ) → (1 < code → IsFilesCode code) → IsFilesCode code
files_code zero h = record { not_aside = refl; not_spent = refl }
files_code (suc zero) h = record { not_aside = refl; not_spent = refl }
files_code (suc (suc code)) h = h (omega arith)

small_is : (code : ℕ) → nat_le code 1 ≡ true → code ≤ 1
small_is code h = grind (arith, nat_tests)

-- a text in place of a run ends with the status of its words
either : (a b status : ℕ) (whole : Bool) → status ≡ (if whole then a else b) → (status ≡ a) ⊎ (status ≡ b)
either a b status true is = inl is
either a b status false is = inr is

same : (a status : ℕ) (whole : Bool) → status ≡ (if whole then a else a) → status ≡ a
same a status true is = is
same a status false is = is

module _ {O E : Type 0} (of_out : O → Option (List ℕ)) (of_err : E → Option (List ℕ)) (line : List ℕ) (out out_new : Drain O) (err err_new : Drain E) where
  pub status_by_told : (unasked : Unasked) (status : ℕ) → IsToldFor of_out of_err unasked line out out_new err err_new status → IsStatusFor unasked status
  status_by_told (Told text) status is = either 0 5 status is.0.whole is.0.is_status
  status_by_told (Misuse text) status is = same 64 status is.0.whole is.0.is_status
  status_by_told Memory status is = either 4 5 status is.0.whole is.0.is_status

module _ (app : App) (own : List ℕ) (misuse : Type 0) (words : List Text) (are : AreOwn own) where
  done_exit : (fault_of app words ≡ []) ⊎ AskToBeTold app words → IsExitOf app own misuse words 0
  done_exit done = record { known = refl; misuse = λ h. absurd (omega arith); taken = λ h. absurd (true≢false (sym h ∙ are.not_done)); done = λ h. done }

  memory_exit : IsExitOf app own misuse words 4
  memory_exit = record { known = refl; misuse = λ h. absurd (omega arith); taken = λ h. absurd (true≢false (sym h ∙ are.not_memory)); done = λ h. absurd (omega arith) }

  unwritten_exit : IsExitOf app own misuse words 5
  unwritten_exit = record { known = refl; misuse = λ h. absurd (omega arith); taken = λ h. absurd (true≢false (sym h ∙ are.not_unwritten)); done = λ h. absurd (omega arith) }

  misuse_exit : misuse → IsExitOf app own misuse words 64
  misuse_exit is = record { known = refl; misuse = λ h. is; taken = λ h. absurd (true≢false (sym h ∙ are.not_misuse)); done = λ h. absurd (omega arith) }

  done_or_unwritten : (status : ℕ) → (status ≡ 0) ⊎ (status ≡ 5) → AskToBeTold app words → IsExitOf app own misuse words status
  done_or_unwritten status (inl done) asks = subst (IsExitOf app own misuse words) (sym done) (done_exit (inr asks))
  done_or_unwritten status (inr failed) asks = subst (IsExitOf app own misuse words) (sym failed) unwritten_exit

  memory_or_unwritten : (status : ℕ) → (status ≡ 4) ⊎ (status ≡ 5) → IsExitOf app own misuse words status
  memory_or_unwritten status (inl memory) = subst (IsExitOf app own misuse words) (sym memory) memory_exit
  memory_or_unwritten status (inr failed) = subst (IsExitOf app own misuse words) (sym failed) unwritten_exit

  -- the status of words that ask for no run
  pub exit_of_unasked : (unasked : Unasked) (status : ℕ) → IsUnaskedBy app misuse words unasked → IsStatusFor unasked status → IsExitOf app own misuse words status
  exit_of_unasked (Told text) status asks is = done_or_unwritten status is asks
  exit_of_unasked (Misuse text) status wrong is = subst (IsExitOf app own misuse words) (sym is) (misuse_exit wrong)
  exit_of_unasked Memory status none is = memory_or_unwritten status is

  module _ (taken : fault_of app words ≡ []) where
    refused_exit : IsExitOf app own misuse words 2
    refused_exit = record { known = are.refused; misuse = λ h. absurd (omega arith); taken = λ h. taken; done = λ h. absurd (omega arith) }

    small_exit : (code : ℕ) → (code ≡ 1 → has own 1 ≡ true) → nat_le code 1 ≡ true → IsExitOf app own misuse words code
    small_exit zero one h = done_exit (inl taken)
    small_exit (suc zero) one h = record { known = one refl; misuse = λ e. absurd (omega arith); taken = λ e. taken; done = λ e. absurd (omega arith) }
    small_exit (suc (suc code)) one h = let low : suc (suc code) ≤ 1 = small_is (suc (suc code)) h in absurd (omega arith)

    by_tests : (code : ℕ) (a s b c d : Bool) → s ≡ false → d ≡ false → (a ≡ true → IsExitOf app own misuse words code)
        → IsExitOf app own misuse words (if a then code else if s then 6 else if b then 4 else if c then 5 else if d then 3 else 2)
    by_tests code true s b c d f e k = k refl
    by_tests code false true b c d f e k = cc
    by_tests code false false true c d f e k = memory_exit
    by_tests code false false false true d f e k = unwritten_exit
    by_tests code false false false false true f e k = cc
    by_tests code false false false false false f e k = refused_exit

    by_code : (code : ℕ) (whole : Bool) → IsFilesCode code → (code ≡ 1 → has own 1 ≡ true) → IsExitOf app own misuse words (status_of code whole)
    by_code code false of one = unwritten_exit
    by_code code true of one = by_tests code (nat_le code 1) (code == 6) (code == 30) (code == 31) (code == 41) of.not_aside of.not_spent (small_exit code one)

    -- the status of a run over files whose words are taken
    pub exit_of_run : (code : ℕ) (whole : Bool) (status : ℕ) → status ≡ status_of code whole → IsFilesCode code → (code ≡ 1 → has own 1 ≡ true)
        → IsExitOf app own misuse words status
    exit_of_run code whole status is of one = subst (IsExitOf app own misuse words) (sym is) (by_code code whole of one)
