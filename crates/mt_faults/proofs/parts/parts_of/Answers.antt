use Rattle.std.proofs.Common.{ap, sym, ◌∙◌, drop}
use Rattle.mt_lists.specs.Rows.{fields_left}
use Rattle.mt_faults.specs.Seen.{parts_seen, placed_left}
use Rattle.mt_terms.specs.Lists.{head}
use Rattle.mt_faults.proofs.PartsFacts.{parts_by}
use Rattle.mt_faults.proofs.parts.parts_of.Goals as goal

pub returns-else-withdraws-clause-parts : goal.returns-else-withdraws-clause-parts
returns-else-withdraws-clause-parts c =
    parts_by c.args.rules.now (fields_left c.args.fields) c.in-Some.word (placed_left c.tail-rest.result) _ (parts_seen c.parts_by_kind.result)
    (c.in-Some.ensures ∙ ap head c.of-all.ensures)
    (c.tail-rest.ensures ∙ ap (drop 1) c.of-all.ensures)
    (sym c.withdraws.ensures ∙ c.if-withdraws.false) c.kind_of.ensures c.parts_by_kind.ensures
