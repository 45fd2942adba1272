use Rattle.std.proofs.Common.{ℕ, ◌<◌, length, get_or, arith}
use Rattle.std.proofs.lemmas.Grind.{elements}
use Rattle.mt_id_lists.proofs.ListFacts.{none_has}
use Rattle.mt_id_lists.proofs.met.Met.begin.Goals as goal

pub returns-then-self-lt255-clause-none : goal.returns-then-self-lt255-clause-none
returns-then-self-lt255-clause-none c = none_has _ _ (λ i h. omega (arith, c.self.invariant i h))

pub returns-in_ok-self-inside-clause-none : goal.returns-in_ok-self-inside-clause-none
returns-in_ok-self-inside-clause-none c =
    let below : (i : ℕ) → i < length c.in_ok-self-inside.field-0.items → get_or c.in_ok-self-inside.field-0.items i 0 < 1 = λ i h. grind (arith, elements) in
    none_has 1 c.in_ok-self-inside.field-0.items below
