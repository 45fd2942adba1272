use Rattle.std.proofs.Common.{ap, sym, subst, List, ◌∷◌, []}
use Rattle.mt_terms.specs.Registration.Ids.{Bytes}
use Rattle.mt_fault_terms.specs.Parts.{ids_among}
use Rattle.mt_faults.specs.Registered.{PassesIds}
use Rattle.mt_faults.specs.Seen.{field_seen, placed_left}
use Rattle.mt_faults.proofs.AddedFacts.{pass_both, pass_none}
use Rattle.mt_faults.proofs.SearchFacts.{next_id}
use Rattle.mt_faults.proofs.before.Passed.with.Goals as goal

pub loop-field-init : goal.loop-field-init
loop-field-init c = λ new h. subst (λ (ids : List Bytes). PassesIds c.args.table.now c.args.self new ids) (ap (λ fields. ids_among c.args.rules.now (placed_left fields)) c.into_iter-field-iterator.ensures.into_iter_gives) h

pub loop-field-preserved : goal.loop-field-preserved
loop-field-preserved c = λ new h.
    let rules = c.args.rules.now in
    c.loop-field.invariant new
    (subst (λ (ids : List Bytes). PassesIds c.args.table.now c.loop-field.passed new ids)
    (sym (next_id rules _ (placed_left c.next.new.self) (field_seen c.in-Some.field) c.in-Some.ensures.steps))
    (pass_both c.args.table.now c.loop-field.passed c.with_one-passed.result new (ids_among rules (field_seen c.in-Some.field ∷ [])) (ids_among rules (placed_left c.next.new.self)) c.with_one-passed.ensures h))

pub returns : goal.returns
returns c =
    c.loop-field.invariant c.loop-field.passed
    (subst (λ (ids : List Bytes). PassesIds c.args.table.now c.loop-field.passed c.loop-field.passed ids)
    (sym (ap (ids_among c.args.rules.now) c.in-None.ensures.steps.0)) (pass_none c.args.table.now c.loop-field.passed))
