use Rattle.std.proofs.Common.{◌≡◌, ◌≤◌, ◌-◌}
use Rattle.mt_line_numbers.specs.Inside.{IsAtRecord}
use Rattle.mt_line_numbers.proofs.numbers.LineNumbers.line_of.Given as goal

abbrev pub invariant-loop-self : goal.invariant-loop-self
invariant-loop-self l = record {
  text : l.self-inside.text.now ≡ l.fn.self;
  at : IsAtRecord l.self-inside.text.now l.self-inside.passed l.self-inside.place;
  within : l.self-inside.passed ≤ l.before;
}

abbrev pub decreases-loop-self : goal.decreases-loop-self
decreases-loop-self l = l.before - l.self-inside.passed
