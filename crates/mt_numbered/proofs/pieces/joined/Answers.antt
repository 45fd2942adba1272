use Rattle.std.proofs.Common.{◌∙◌, List, ℕ, ap, arith}
use Rattle.std.specs.Prelude.{flat_map}
use Rattle.std.proofs.lemmas.List.{take_all}
use Rattle.mt_numbered.proofs.PieceFacts.{joined-more}
use Rattle.mt_numbered.proofs.pieces.joined.Goals as goal

pub loop-number-preserved : goal.loop-number-preserved
loop-number-preserved c =
    joined-more c.args.lists.now c.loop-number.number c.loop-number.items.items c.list.result.now c.extend_from_slice.new.self.items
    (omega (arith, c.requires, c.loop-number-test.true)) c.loop-number.invariant c.list.ensures c.in_ok-extend_from_slice.ensures.items

pub returns : goal.returns
returns c =
    c.loop-number.invariant
    ∙ ap (flat_map (λ (l : List ℕ). l)) (take_all c.loop-number.number c.args.lists.now (omega (arith, c.requires, c.loop-number-test.false)))
