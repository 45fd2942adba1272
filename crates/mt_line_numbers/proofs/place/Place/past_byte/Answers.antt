use Rattle.std.proofs.Common.{◌≡◌, ◌+◌, ◌∙◌, sym, ap, arith}
use Rattle.mt_line_numbers.specs.LineEnds.{line_ends}
use Rattle.mt_line_numbers.proofs.EndFacts.{ends-closed, ends-open}
use Rattle.mt_line_numbers.proofs.place.Place.past_byte.Goals.{then-closes_line, else-closes_line}
use Rattle.mt_line_numbers.proofs.place.Place.past_byte.Goals as goal

pub overflow_add-result : goal.overflow_add-result
overflow_add-result c =
    let closed : line_ends c.args.self.rest.now ≡ line_ends c.args.rest.now + 1 =
    ap line_ends c.requires ∙ ends-closed c.args.byte c.args.rest.now (sym c.closes_line.ensures ∙ c.if-closes_line.true) in
    omega (arith, closed, c.args.self.few)

pub invariant_of-result : goal.invariant_of-result
invariant_of-result c =
    elim c.if-closes_line.branch [
      | then-closes_line w ↦
          let closed : line_ends c.args.self.rest.now ≡ line_ends c.args.rest.now + 1 =
          ap line_ends c.requires ∙ ends-closed c.args.byte c.args.rest.now (sym c.closes_line.ensures ∙ w.if-closes_line.true) in
          record { few = rw w.result-is (omega (arith, closed, c.args.self.few)) }
      | else-closes_line w ↦
          let goes : line_ends c.args.self.rest.now ≡ line_ends c.args.rest.now =
          ap line_ends c.requires ∙ ends-open c.args.byte c.args.rest.now (sym c.closes_line.ensures ∙ w.if-closes_line.false) in
          record { few = rw w.result-is (omega (arith, goes, c.args.self.few)) }
    ]

pub returns-clause-lines : goal.returns-clause-lines
returns-clause-lines c =
    elim c.if-closes_line.branch [
      | then-closes_line w ↦
          let closed : line_ends c.args.self.rest.now ≡ line_ends c.args.rest.now + 1 =
          ap line_ends c.requires ∙ ends-closed c.args.byte c.args.rest.now (sym c.closes_line.ensures ∙ w.if-closes_line.true) in
          rw w.result-is (omega (arith, closed))
      | else-closes_line w ↦
          let goes : line_ends c.args.self.rest.now ≡ line_ends c.args.rest.now =
          ap line_ends c.requires ∙ ends-open c.args.byte c.args.rest.now (sym c.closes_line.ensures ∙ w.if-closes_line.false) in
          rw w.result-is (omega (arith, goes))
    ]
