-- What an exit status says: of a run, whose code is 0 or one of a refusal, and of a text that is written or isn't.
use Rattle.std.proofs.Common.{◌≡◌, ◌≢◌, ℕ, zero, suc, ◌≤◌, Bool, true, false, List, [], ◌∷◌, Option, refl, sym, ◌∙◌, codes, subst, inl, nat_le, arith, if◌then◌else◌}
use Rattle.std.specs.Prelude.{◌==◌}
use Rattle.std.proofs.lemmas.Bool.{true≢false}
use Rattle.std.proofs.lemmas.Bool.Decides.{nat_tests}
use Rattle.mt_args.specs.CommandLine.{is_set, is_taken}
use Rattle.mt_terms.specs.Lists.{has}
use Rattle.mt_terms.specs.Text.{is_known_code}
use Rattle.mt_report.specs.Status.{status_of}
use Rattle.mt_answer.specs.declared.ways.Ways.{Ways}
use Rattle.mt_run.specs.declared.in_ways.EndedInWays.{EndedInWays}
use Rattle.mt_app.specs.Program.{IsExitFor, IsRun}

-- a status of a run
record IsOfRun (code status : ℕ) : Type 0 where
  known : has (0 ∷ 2 ∷ 3 ∷ 4 ∷ 5 ∷ 6 ∷ 64 ∷ []) status ≡ true
  small : status ≤ 6
  aside : status ≡ 6 → code ≡ 6

low : (code : ℕ) → (code ≢ 0 → code ≢ 6 → is_known_code code ≡ true) → nat_le code 1 ≡ true → IsOfRun code code
low zero h le = record { known = refl; small = omega arith; aside = λ e. e }
low (suc zero) h le = absurd (true≢false (sym (h (λ e. omega arith) (λ e. omega arith))))
low (suc (suc code)) h le = let at_most : suc (suc code) ≤ 1 = grind (arith, nat_tests) in absurd (omega arith)

of_run : (code : ℕ) (whole : Bool) → (code ≢ 0 → code ≢ 6 → is_known_code code ≡ true) → IsOfRun code (status_of code whole)
of_run code false h = record { known = refl; small = omega arith; aside = λ e. absurd (omega arith) }
of_run code true h = by (nat_le code 1) (code == 6) (code == 30) (code == 31) (code == 41) (low code h) (λ is. grind (arith, nat_tests, is))
  where
    by : (a s b c d : Bool) → (a ≡ true → IsOfRun code code) → (s ≡ true → code ≡ 6)
        → IsOfRun code (if a then code else if s then 6 else if b then 4 else if c then 5 else if d then 3 else 2)
    by true s b c d k six = k refl
    by false true b c d k six = record { known = refl; small = omega arith; aside = λ e. six refl }
    by false false true c d k six = record { known = refl; small = omega arith; aside = λ e. absurd (omega arith) }
    by false false false true d k six = record { known = refl; small = omega arith; aside = λ e. absurd (omega arith) }
    by false false false false true k six = record { known = refl; small = omega arith; aside = λ e. absurd (omega arith) }
    by false false false false false k six = record { known = refl; small = omega arith; aside = λ e. absurd (omega arith) }

pub exit_of_run : (words : List (List ℕ)) (left : Option (List ℕ)) (budget : ℕ) (ways : Ways) (old new : Option (List ℕ)) (end : EndedInWays) (status : ℕ)
    → IsRun left budget ways old new end → status ≡ status_of end.ended.code end.ended.whole
    → is_taken words ≡ true → ways.set_aside ≡ is_set (codes "set-aside") words → IsExitFor words status
exit_of_run words left budget ways old new end status run is taken flag =
    let of : IsOfRun end.ended.code status = subst (IsOfRun end.ended.code) (sym is) (of_run end.ended.code end.ended.whole (λ n s. (run.answers.says.refusal n s).named.known)) in
    let small : status ≤ 6 = of.small in
    record {
      known = of.known;
      misuse = λ h. absurd (omega arith);
      taken = λ h. taken;
      aside = λ h. sym flag ∙ (run.answers.says.aside (of.aside h)).0;
      done = λ h. inl taken;
    }
