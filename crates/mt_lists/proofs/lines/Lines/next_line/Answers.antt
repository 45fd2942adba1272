use Rattle.std.proofs.Common.{arith}
use Rattle.mt_lists.specs.Lines.{is_quote, is_return}
use Rattle.mt_lists.proofs.LineFacts.{first_line, last_line, none_after}
use Rattle.mt_lists.proofs.lines.Lines.next_line.Goals as goal

pub returns-in-Some : goal.returns-in-Some
returns-in-Some c =
    let found = c.in-Some.ensures in
    rw (c.split_at.ensures.front, c.split_at-in-Some.ensures.back)
    (first_line c.args.self.text.now c.in-Some.at found.0.high c.args.self.unquoted (λ k lt. found.0.before k (omega arith) lt) found.1)

pub returns-in-None : goal.returns-in-None
returns-in-None c =
    rw (c.split_at-in-None.ensures.front, c.split_at-in-None.ensures.back)
    (last_line c.args.self.text.now c.requires c.args.self.unquoted (λ k lt. c.in-None.ensures k (omega arith) lt))

pub invariant_of-result : goal.invariant_of-result
invariant_of-result c =
    let back = c.split_at-in-Some.ensures.back in
    record {
      unquoted = none_after is_quote _ c.args.self.text.now _ back c.args.self.unquoted;
      no_return = λ feeds. none_after is_return _ c.args.self.text.now _ back (c.args.self.no_return feeds);
    }

pub invariant_of-result-in-None : goal.invariant_of-result-in-None
invariant_of-result-in-None c =
    let back = c.split_at-in-None.ensures.back in
    record {
      unquoted = none_after is_quote _ c.args.self.text.now _ back c.args.self.unquoted;
      no_return = λ feeds. none_after is_return _ c.args.self.text.now _ back (c.args.self.no_return feeds);
    }
