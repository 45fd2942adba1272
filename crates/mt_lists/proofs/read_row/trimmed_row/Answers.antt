use Rattle.std.proofs.Common.{◌≡◌, ◌∙◌, ◌<◌, ℕ, length, take, ap, arith}
use Rattle.csv.specs.Records.{fields_of}
use Rattle.mt_lists.proofs.RowFacts.{row_more}
use Rattle.mt_lists.proofs.read_row.trimmed_row.Goals as goal

pub field-requires : goal.field-requires
field-requires c = omega (arith, c.loop-i-test.true, c.kept_fields-kept.ensures.within)

pub loop-i-preserved : goal.loop-i-preserved
loop-i-preserved c =
    let within : c.loop-i.i < length (fields_of c.args.raw.now) = omega (arith, c.loop-i-test.true, c.kept_fields-kept.ensures.within) in
    row_more (fields_of c.args.raw.now) c.loop-i.row _ _ c.loop-i.i within c.loop-i.invariant c.field.ensures c.in_ok-push_list.ensures.ok

pub returns : goal.returns
returns c =
    let all : c.loop-i.i ≡ c.kept_fields-kept.result = omega (arith, c.loop-i-test.false, c.loop-i.auto.i-end) in
    c.loop-i.invariant ∙ ap (λ (n : ℕ). take n (fields_of c.args.raw.now)) all ∙ c.kept_fields-kept.ensures.kept
