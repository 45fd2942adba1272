use Rattle.std.proofs.Common.{ap, sym, ◌∙◌}
use Rattle.mt_faults.specs.Registered.{added}
use Rattle.mt_faults.specs.Seen.{field_seen}
use Rattle.mt_faults.proofs.SearchFacts.{an_id, no_id}
use Rattle.mt_faults.proofs.registry.add_id.Goals as goal

pub returns-then-not-is_id_field : goal.returns-then-not-is_id_field
returns-then-not-is_id_field c = sym (ap (added c.args.table.now) (no_id c.args.rules.now (field_seen c.args.field.now) (sym c.is_id_field.ensures ∙ c.if-not-is_id_field.true)))

pub returns : goal.returns
returns c = c.in_ok-add.ensures.ids ∙ sym (ap (added c.args.table.now) (an_id c.args.rules.now (field_seen c.args.field.now) (sym c.is_id_field.ensures ∙ c.if-not-is_id_field.false)))
