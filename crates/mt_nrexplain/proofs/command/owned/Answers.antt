use Rattle.std.proofs.Common.{◌∙◌, Bor, List, ℕ, ap, arith, map}
use Rattle.std.proofs.lemmas.Grind.{common_steps}
use Rattle.std.proofs.lemmas.List.{take_all}
use Rattle.mt_nrexplain.proofs.command.owned.Goals as goal

pub loop-text-preserved : goal.loop-text-preserved
loop-text-preserved c = grind (arith, common_steps)

pub returns : goal.returns
returns c =
    c.loop-text.invariant
    ∙ ap (λ (ts : List (Bor (List ℕ))). map (λ (t : Bor (List ℕ)). t.now) ts) (take_all c.loop-text.text-index c.args.texts.now c.loop-text-test.false)
