use Rattle.std.proofs.Common.{rules, inr}
use mathlib.Core.List.{append_assoc}
use Rattle.mt_program.proofs.reason.say_why.Goals as goal

-- src/reason.rt:31:1
pub returns-in-Ok-format-clause-says : goal.returns-in-Ok-format-clause-says
returns-in-Ok-format-clause-says g c =
    inr (c.as_bytes.result.now, (c.words_in-words.result.now, search (rules, append_assoc)), c.put_all.result.written, c.put_all.result.whole, c.put_all.ensures.written)
