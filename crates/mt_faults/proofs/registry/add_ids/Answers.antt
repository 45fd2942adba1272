use Rattle.std.proofs.Common.{ap, sym, ◌∙◌, ◌∷◌, []}
use Rattle.mt_fault_terms.specs.Parts.{ids_among}
use Rattle.mt_faults.specs.Registered.{added}
use Rattle.mt_faults.specs.Seen.{field_seen, placed_left}
use Rattle.mt_faults.proofs.AddedFacts.{added-append}
use Rattle.mt_faults.proofs.SearchFacts.{next_id}
use Rattle.mt_faults.proofs.registry.add_ids.Goals as goal

pub loop-field-preserved : goal.loop-field-preserved
loop-field-preserved c =
    let rules = c.args.rules.now in
    let rest = ids_among rules (placed_left c.next.new.self) in
    ap (λ table. added table rest) c.in_ok-add_id.ensures
    ∙ sym (added-append c.loop-field.table (ids_among rules (field_seen c.in-Some.field ∷ [])) rest)
    ∙ ap (added c.loop-field.table) (sym (next_id rules _ (placed_left c.next.new.self) (field_seen c.in-Some.field) c.in-Some.ensures.steps))
    ∙ c.loop-field.invariant

pub returns : goal.returns
returns c = sym (ap (λ fields. added c.loop-field.table (ids_among c.args.rules.now fields)) c.in-None.ensures.steps.0) ∙ c.loop-field.invariant
