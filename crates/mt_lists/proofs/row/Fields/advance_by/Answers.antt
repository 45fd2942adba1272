use Rattle.std.proofs.Common.{◌≡◌, ◌∙◌, ℕ, ap, drop, arith}
use Rattle.mt_lists.specs.Rows.{fields_left}
use Rattle.mt_lists.proofs.FieldFacts.{next-drops}
use Rattle.mt_lists.proofs.row.Fields.advance_by.Goals as goal

pub loop-past-preserved : goal.loop-past-preserved
loop-past-preserved c = next-drops (fields_left c.pass_pieces-left.new.self) _ _ _ c.next.result c.loop-past.invariant c.next.ensures.steps

pub returns : goal.returns
returns c =
    let all : c.loop-past._past ≡ c.pass_pieces-left.result = omega (arith, c.loop-past-test.false, c.loop-past.auto._past-end) in
    c.loop-past.invariant ∙ ap (λ (k : ℕ). drop k (fields_left c.pass_pieces-left.new.self)) all ∙ c.pass_pieces-left.ensures
