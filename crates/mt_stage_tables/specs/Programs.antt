-- What is added to a set of programs.
use Rattle.std.specs.Prelude.{◌≡◌, ℕ, Bool, ◌||◌, List}
use Rattle.mt_terms.specs.Lists.{has}

-- A set of programs has those that it had and those that pass, and no others.
abbrev pub Adds : List ℕ → List ℕ → (ℕ → Bool) → Type 0
Adds old new test = (p : ℕ) → has new p ≡ (has old p || test p)
