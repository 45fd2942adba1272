use Rattle.std.proofs.Common.{◌≡◌, ◌++◌, take}
use Rattle.mt_statistics_text.proofs.PieceFacts.{after_commas}
use Rattle.mt_statistics_text.proofs.line.push_line.Given as goal

-- the word, and the numbers so far
abbrev pub invariant-loop-number : goal.invariant-loop-number
invariant-loop-number l = l.text.items ≡ l.fn.text.items ++ (l.word ++ after_commas (take l.number-index l.numbers))
