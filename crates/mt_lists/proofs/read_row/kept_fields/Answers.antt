use Rattle.std.proofs.Common.{◌∙◌, ap, sym, arith}
use Rattle.csv.specs.Records.{fields_of}
use Rattle.mt_lists.specs.Records.{is_empty_field}
use Rattle.mt_lists.proofs.RowFacts.{kept_are}
use Rattle.mt_lists.proofs.read_row.kept_fields.Goals as goal

pub returns-else-is_empty-clause-kept : goal.returns-else-is_empty-clause-kept
returns-else-is_empty-clause-kept c =
    kept_are (fields_of c.args.raw.now) c.loop-kept.kept c.loop-kept.invariant.0 c.loop-kept.invariant.1 (λ _. ap is_empty_field (sym c.field.ensures) ∙ sym c.is_empty.ensures ∙ c.if-is_empty.false)

pub returns-after-loop-kept-clause-kept : goal.returns-after-loop-kept-clause-kept
returns-after-loop-kept-clause-kept c =
    kept_are (fields_of c.args.raw.now) c.loop-kept.kept c.loop-kept.invariant.0 c.loop-kept.invariant.1 (λ above. absurd (omega (arith, c.loop-kept-test.false)))
