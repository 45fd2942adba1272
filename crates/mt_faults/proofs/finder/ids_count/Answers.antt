use Rattle.std.proofs.Common.{ap, length, arith, ◌∷◌, [], length-append}
use Rattle.mt_fault_terms.specs.Parts.{ids_among}
use Rattle.mt_faults.specs.Seen.{field_seen, placed_left}
use Rattle.mt_faults.proofs.SearchFacts.{next_id}
use Rattle.mt_faults.proofs.finder.ids_count.Goals as goal

pub loop-field-preserved : goal.loop-field-preserved
loop-field-preserved c =
    let rules = c.args.rules.now in
    let split = ap length (next_id rules _ (placed_left c.next.new.self) (field_seen c.in-Some.field) c.in-Some.ensures.steps) in
    record {
      small = omega (arith, c.count_with-count.ensures);
      counts = omega (arith, split, length-append (ids_among rules (field_seen c.in-Some.field ∷ [])) (ids_among rules (placed_left c.next.new.self)), c.count_with-count.ensures, c.loop-field.invariant.counts);
    }

pub returns : goal.returns
returns c =
    let none = ap (λ fields. length (ids_among c.args.rules.now fields)) c.in-None.ensures.steps.0 in
    omega (arith, none, c.loop-field.invariant.small, c.loop-field.invariant.counts)
