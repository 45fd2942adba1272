-- What is so of two files that were read, and what their code says of failed reads.
use Rattle.std.proofs.Common.{◌≡◌, ◌∙◌, ℕ, Bool, true, ◌==◌, ◌↔◌, List, [], ◌∷◌, length, Option, refl, sym, ap, arith}
use Rattle.std.proofs.lemmas.Bool.{eqb-true}
use Rattle.mt_input.proofs.LeftFacts.{of_left}
use Rattle.mt_files.specs.Refusals.{OfBoth}

-- what is so of all bytes of two files is so of what two readers had left
pub of_both : {P Q : List ℕ → List ℕ → Type 0} (market matched : Option (List ℕ)) → ((xs ys : List ℕ) → P xs ys → Q xs ys) → OfBoth market matched P → OfBoth market matched Q
of_both market matched next h = of_left market (λ xs inner. of_left matched (λ ys is. next xs ys is) inner) h

-- no read failed, and the code says so
pub none_failed : {X : Type 0} (code : ℕ) → ((◌≡◌ {A = ℕ} 0 31) ↔ X) → (code ≡ 31 → ⊥) → (code ≡ 31) ↔ X
none_failed code none other = (λ e. absurd (other e), λ x. absurd (omega (arith, none.1 x)))

-- a match that sets no couple aside, by a test of its length
pub none_of : (xs ys : List ℕ) (b : Bool) → xs ≡ ys → b ≡ (length xs == 0) → b ≡ true → ys ≡ []
none_of xs [] b same is empty = refl
none_of xs (y ∷ ys) b same is empty =
    let none : length xs ≡ 0 = eqb-true (length xs) 0 (sym is ∙ empty) in
    absurd (omega (arith, none, ap length same))
