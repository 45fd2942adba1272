use Rattle.std.proofs.Common.{◌≡◌, ◌∷◌, ◌∙◌, [], ap, arith}
use Rattle.mt_lists.specs.Lines.{fields_of_line}
use Rattle.mt_lists.specs.Rows.{fields_in, line_fields_left}
use Rattle.mt_lists.proofs.FieldFacts.{field-fewer, first-field, only-field}
use Rattle.mt_lists.proofs.lines.LineFieldsIterator.next.Goals as goal

pub returns-in-Some-clause-steps : goal.returns-in-Some-clause-steps
returns-in-Some-clause-steps c =
    let found = c.in-Some.ensures in
    let first = first-field c.in_ok-rest.rest.now c.in-Some.at found.0.high (λ k lt. found.0.before k (omega arith) lt) found.1 in
    ap fields_in c.in_ok-rest.was ∙ rw (c.split_at.ensures.front, c.split_at-in-Some.ensures.back) first

pub returns-in-Some-clause-goes : goal.returns-in-Some-clause-goes
returns-in-Some-clause-goes c =
    let steps : line_fields_left c.args.self.now ≡ c.split_at.result.0.now ∷ fields_of_line c.split_at-in-Some.result.1.now = returns-in-Some-clause-steps c in
    record { on = λ finite. (tt, tt, field-fewer _ _ _ steps); keeps = tt; rests = λ finite. tt }

pub returns-in-None-clause-steps : goal.returns-in-None-clause-steps
returns-in-None-clause-steps c = ap fields_in c.in_ok-rest.was ∙ only-field c.in_ok-rest.rest.now (λ k lt. c.in-None.ensures k (omega arith) lt)

pub returns-in-None-clause-goes : goal.returns-in-None-clause-goes
returns-in-None-clause-goes c =
    let steps : line_fields_left c.args.self.now ≡ c.in_ok-rest.rest.now ∷ [] = returns-in-None-clause-steps c in
    record { on = λ finite. (tt, tt, field-fewer _ _ _ steps); keeps = tt; rests = λ finite. tt }

pub split_at-requires : goal.split_at-requires
split_at-requires c = omega (arith, c.in-Some.ensures.0.high)

pub overflow_add-at : goal.overflow_add-at
overflow_add-at c = omega (arith, c.in-Some.ensures.0.high)

pub split_at-requires-in-Some : goal.split_at-requires-in-Some
split_at-requires-in-Some c = omega (arith, c.in-Some.ensures.0.high)

pub returns-in_err-rest-clause-steps : goal.returns-in_err-rest-clause-steps
returns-in_err-rest-clause-steps c =
    let none = ap fields_in c.in_err-rest.was in
    rw c.from_residual.ensures (none, none)
