-- Words that ask for no run of a program, and what is written for them.
use Rattle.std.specs.Prelude.{◌≡◌, ◌⊎◌, ⊤, ℕ, List, Option, codes, string_bytes}
use Rattle.clap.specs.Words.{Text}
use Rattle.mt_report.specs.declared.drain.Drain.{Drain}
use Rattle.mt_program.specs.Told.{IsTold}
use Rattle.mt_program.specs.declared.unasked.Unasked.{Unasked}
use Rattle.mt_program.specs.declared.unasked.Unasked.TheVariants.{Told, Misuse, Memory}

-- It is misuse with this text, or want of memory.
abbrev pub IsMisuseWith : Text → Unasked → Type 0
IsMisuseWith text (Told said) = ⊥
IsMisuseWith text (Misuse said) = string_bytes said ≡ text
IsMisuseWith text Memory = ⊤

-- what is said of a word that is not UTF-8
abbrev pub not_utf8 : Text
not_utf8 = codes "error: invalid UTF-8 was detected in one or more arguments\n"

-- The program wrote a text in place of a run, and ends with this status. Help and the version go to standard output,
-- and what is wrong goes to standard error. For want of memory it writes a line of its own to standard output.
abbrev pub IsToldFor : {O E : Type 0} (of_out : O → Option (List ℕ)) (of_err : E → Option (List ℕ)) → Unasked → (line : List ℕ)
    (out out_new : Drain O) (err err_new : Drain E) → ℕ → Type 0
IsToldFor of_out of_err (Told text) line out out_new err err_new status = IsTold of_out out out_new (string_bytes text) 0 5 status × (err_new ≡ err)
IsToldFor of_out of_err (Misuse text) line out out_new err err_new status = IsTold of_err err err_new (string_bytes text) 64 64 status × (out_new ≡ out)
IsToldFor of_out of_err Memory line out out_new err err_new status = IsTold of_out out out_new line 4 5 status × (err_new ≡ err)

-- the status with which a program ends for these words
abbrev pub IsStatusFor : Unasked → ℕ → Type 0
IsStatusFor (Told text) status = (status ≡ 0) ⊎ (status ≡ 5)
IsStatusFor (Misuse text) status = status ≡ 64
IsStatusFor Memory status = (status ≡ 4) ⊎ (status ≡ 5)
