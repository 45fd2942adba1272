use Rattle.std.proofs.Common.{sym, ◌∙◌, subst, List}
use Rattle.mt_terms.specs.Registration.Ids.{Bytes}
use Rattle.mt_faults.specs.declared.before.Passed.{Passed}
use Rattle.mt_faults.specs.Registered.{PassesIds}
use Rattle.mt_faults.specs.Seen.{field_seen}
use Rattle.mt_faults.proofs.AddedFacts.{pass_id, pass_none}
use Rattle.mt_faults.proofs.SearchFacts.{an_id, no_id}
use Rattle.mt_faults.proofs.before.Passed.with_one.Goals as goal

pub returns-then-not-is_id_field : goal.returns-then-not-is_id_field
returns-then-not-is_id_field c =
    subst (λ (ids : List Bytes). PassesIds c.args.table.now c.args.self c.args.self ids)
    (sym (no_id c.args.rules.now (field_seen c.args.field.now) (sym c.is_id_field.ensures ∙ c.if-not-is_id_field.true)))
    (pass_none c.args.table.now c.args.self)

pub returns : goal.returns
returns c =
    let new : Passed = record { seen = c.seen_with.result; count = c.saturating_add.result } in
    subst (λ (ids : List Bytes). PassesIds c.args.table.now c.args.self new ids)
    (sym (an_id c.args.rules.now (field_seen c.args.field.now) (sym c.is_id_field.ensures ∙ c.if-not-is_id_field.false)))
    (pass_id c.args.table.now c.args.self new c.args.field.now.bytes.now c.seen_with.ensures c.saturating_add.ensures)
