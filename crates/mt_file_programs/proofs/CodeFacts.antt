-- What the code of a refused file is: none of a budget or of couples set aside. So its status is one of a program over
-- two files.
use Rattle.std.proofs.Common.{◌≡◌, ◌∙◌, ℕ, true, false, arith, sym, subst, inl, inr, refl}
use Rattle.std.specs.Prelude.{◌==◌}
use Rattle.std.proofs.lemmas.Bool.{cases_eq, true≢false}
use Rattle.std.proofs.lemmas.Bool.Decides.{nat_tests}
use Rattle.mt_file_programs.proofs.ExitFacts.{IsFilesCode}
use Rattle.mt_files.specs.Text.{is_code_of}
use Rattle.mt_files.specs.declared.source.Source.{Source}
use Rattle.mt_files.specs.declared.source.Source.TheVariants.{Market, Match}

-- a file's code is none that is neither file's
not_this : (n : ℕ) → ((file : Source) → is_code_of file n ≡ false) → (file : Source) (code : ℕ) → is_code_of file code ≡ true → (code == n) ≡ false
not_this n neither file code is = elim (cases_eq code n) [
  | inl same ↦ absurd (true≢false (sym (subst (λ (c : ℕ). is_code_of file c ≡ true) same is) ∙ neither file))
  | inr other ↦ grind (arith, nat_tests)
]

not_spent : (file : Source) → is_code_of file 41 ≡ false
not_spent Market = refl
not_spent Match = refl

not_aside : (file : Source) → is_code_of file 6 ≡ false
not_aside Market = refl
not_aside Match = refl

pub refused_code : (file : Source) (code : ℕ) → is_code_of file code ≡ true → IsFilesCode code
refused_code file code is = record {
  not_aside = not_this 6 not_aside file code is;
  not_spent = not_this 41 not_spent file code is;
}
