use Rattle.mt_ranks.proofs.RowFacts.{new_rows_parts, new_rows_seen}
use Rattle.std.proofs.Common.{◌∙◌, arith}
use Rattle.mt_ranks.proofs.rows.Rows.with_sizes.Goals as goal

pub invariant_of-result : goal.invariant_of-result
invariant_of-result c =
    new_rows_parts c.in_ok-starts.starts.items c.in_ok-ends.ends.items c.in_ok-items.items.items c.args.sizes.now c.in_ok-starts.ensures.starts
    (c.in_ok-ends.ensures.items ∙ c.deref.ensures.value) (omega (arith, c.in_ok-items.ensures.len, c.in_ok-starts.ensures.total))

pub returns : goal.returns
returns c =
    new_rows_seen c.in_ok-starts.starts.items c.in_ok-ends.ends.items c.in_ok-items.items.items c.args.sizes.now c.in_ok-starts.ensures.starts
    (c.in_ok-ends.ensures.items ∙ c.deref.ensures.value) (omega (arith, c.in_ok-items.ensures.len, c.in_ok-starts.ensures.total))
