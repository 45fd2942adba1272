use Rattle.std.proofs.Common.{arith}
use Rattle.mt_line_numbers.proofs.EndFacts.{first_split, last_split}
use Rattle.mt_line_numbers.proofs.place.first_line.Goals as goal

pub returns-in-Some : goal.returns-in-Some
returns-in-Some c =
    let found = c.in-Some.ensures in
    rw (c.split_at.ensures.front, c.split_at.ensures.back) (first_split c.args.text.now c.in-Some.at found.0.high (λ k lt. found.0.before k (omega arith) lt) found.1)

pub returns-in-None : goal.returns-in-None
returns-in-None c =
    rw (c.split_at-in-None.ensures.front, c.split_at-in-None.ensures.back) (last_split c.args.text.now (λ k lt. c.in-None.ensures k (omega arith) lt))
