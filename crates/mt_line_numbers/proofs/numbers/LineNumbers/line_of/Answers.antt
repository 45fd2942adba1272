use Rattle.std.proofs.Common.{◌≡◌, ◌∙◌, ◌+◌, ◌-◌, ◌≤◌, suc, length, ap, arith, rules}
use Rattle.mt_line_numbers.specs.Records.{line_of_record}
use Rattle.mt_line_numbers.proofs.EndFacts.{no_byte}
use Rattle.mt_line_numbers.proofs.PlaceFacts.{first_at, later_at, line_at, no_line, next_at}
use Rattle.mt_line_numbers.proofs.SplitFacts.{after_records-plain}
use Rattle.mt_line_numbers.proofs.numbers.LineNumbers.line_of.Goals.{then-before-self, else-before-self, then-loop-self-test+else-not-is_at_end, else-loop-self-test}
use Rattle.mt_line_numbers.proofs.numbers.LineNumbers.line_of.Goals as goal

pub returns-then-number-eq0-clause-line : goal.returns-then-number-eq0-clause-line
returns-then-number-eq0-clause-line c = no_line c.args.self.now c.args.number c.if-number-eq0.true

pub loop-self-init : goal.loop-self-init
loop-self-init c =
    elim c.if-before-self.branch [
      | then-before-self w ↦
          let start = w.at_start-self-inside in
          rw w.self-inside-is (record {
            text = c.self.view_is;
            at = first_at c.self.inside.text.now start.result start.ensures.rest start.ensures.lines;
            within = omega arith;
          })
      | else-before-self w ↦
          let reached : c.self.inside.passed ≤ c.args.number - 1 = omega (arith, w.if-before-self.false) in
          rw w.self-inside-is (record { text = c.self.view_is; at = c.self.invariant; within = reached })
    ]

pub next_record-self-inside-requires : goal.next_record-self-inside-requires
next_record-self-inside-requires c =
    rw c.loop-self.invariant.at.rest (after_records-plain c.loop-self.self-inside.passed c.loop-self.self-inside.text.now)

pub loop-self-preserved : goal.loop-self-preserved
loop-self-preserved c =
    let old = c.loop-self.self-inside in
    let new = c.next_record-self-inside in
    let more : old.passed + 1 ≡ suc old.passed = omega arith in
    record {
      text = c.loop-self.invariant.text;
      at = rw more (next_at old.text.now old.passed old.place new.result c.loop-self.invariant.at new.ensures.rest new.ensures.lines);
      within = omega (arith, c.loop-self-test.true);
    }

pub returns-clause-line : goal.returns-clause-line
returns-clause-line c =
    let here = c.loop-self.self-inside in
    let number : c.args.number ≡ suc (c.args.number - 1) = omega (arith, c.if-number-eq0.false) in
    let line : here.place.line ≡ line_of_record here.text.now c.args.number =
    elim c.loop-self-test.branch [
      | then-loop-self-test+else-not-is_at_end w ↦
          let none : length here.place.rest.now ≡ 0 = search rules in
          let at_end = later_at here.text.now here.passed (c.args.number - 1) here.place c.loop-self.invariant.at (no_byte here.place.rest.now none) c.loop-self.invariant.within in
          line_at here.text.now (c.args.number - 1) c.args.number here.place at_end number
      | else-loop-self-test w ↦
          let last : c.args.number ≡ suc here.passed = omega (arith, w.loop-self-test.false, c.loop-self.invariant.within, c.if-number-eq0.false) in
          line_at here.text.now here.passed c.args.number here.place c.loop-self.invariant.at last
    ] in
    line ∙ ap (λ text. line_of_record text c.args.number) c.loop-self.invariant.text
