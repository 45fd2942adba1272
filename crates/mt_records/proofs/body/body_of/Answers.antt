use Rattle.std.proofs.Common.{◌≡◌, ◌+◌, length, ap, sym, arith, ◌∙◌, Some, None}
use Rattle.std.proofs.lemmas.Bool.{eqb-false}
use Rattle.mt_lists.specs.Rows.{rows_left}
use Rattle.mt_terms.specs.Registration.Passes.{numbered_from}
use Rattle.mt_terms.specs.Registration.Records.{rules_of}
use Rattle.mt_records.specs.Bodies.{body_in}
use Rattle.mt_records.proofs.BodyFacts.{version_at, version_missing}
use Rattle.mt_records.proofs.body.body_of.Goals as goal

pub returns-in-Some-rules_of : goal.returns-in-Some-rules_of
returns-in-Some-rules_of c =
    let named : rules_of c.in-Some.row ≡ Some c.in-Some-rules_of.rules = ap rules_of (sym c.fields.ensures) ∙ sym c.rules_of.ensures ∙ c.in-Some-rules_of.is in
    let left = ap length c.in-Some.ensures.steps in
    record {
      short = omega (arith, left, c.loop-row.invariant.count, c.iter-rest.ensures.few);
      body = c.loop-row.invariant.body
          ∙ ap (λ rows. body_in (numbered_from (c.loop-row.number + 1) rows)) c.in-Some.ensures.steps
          ∙ version_at (c.loop-row.number + 1) c.in-Some.row (rows_left c.next.new.self) c.in-Some-rules_of.rules
          (eqb-false (length c.in-Some.row) 0 (sym c.is_empty.ensures ∙ c.if-not-is_empty.true)) named;
    }

pub returns-in-None : goal.returns-in-None
returns-in-None c =
    let named : rules_of c.in-Some.row ≡ None = ap rules_of (sym c.fields.ensures) ∙ sym c.rules_of.ensures ∙ c.in-None.is in
    c.loop-row.invariant.body
    ∙ ap (λ rows. body_in (numbered_from (c.loop-row.number + 1) rows)) c.in-Some.ensures.steps
    ∙ version_missing (c.loop-row.number + 1) c.in-Some.row (rows_left c.next.new.self)
    (eqb-false (length c.in-Some.row) 0 (sym c.is_empty.ensures ∙ c.if-not-is_empty.true)) named
