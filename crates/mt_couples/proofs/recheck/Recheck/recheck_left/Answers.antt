use Rattle.std.proofs.lemmas.Grind.{common_steps}
use Rattle.std.proofs.Common.{◌≡◌, ◌∷◌, [], ℕ, List, length, get_or, ap, sym, subst, arith}
use Rattle.mt_couples.specs.Rechecks.{IsReadyFor}
use Rattle.mt_couples.proofs.recheck.Recheck.recheck_left.Goals as goal

-- a list of one number
one_alone : (xs : List ℕ) (x : ℕ) → length xs ≡ 1 → x ≡ get_or xs 0 x → xs ≡ x ∷ []
one_alone [] x one read = absurd (omega arith)
one_alone (y ∷ []) x one read = ap (λ z. z ∷ []) (sym read)
one_alone (y ∷ z ∷ xs) x one read = absurd (omega arith)

pub recheck_one_watched-requires-clause-ready : goal.recheck_one_watched-requires-clause-ready
recheck_one_watched-requires-clause-ready g c κs within =
    subst (λ ps. IsReadyFor c.args.self.now ps c.args.waiting.now) (one_alone c.args.left.now c.index-left-0.result (omega (arith, c.if-left-eq1.true)) c.index-left-0.is) c.requires.ready

pub returns-then-branch : goal.returns-then-branch
returns-then-branch g c = grind (arith, common_steps)
