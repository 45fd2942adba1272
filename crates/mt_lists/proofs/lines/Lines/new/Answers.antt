use Rattle.std.proofs.Common.{arith}
use Rattle.std.proofs.lemmas.Bool.Decides.{nat_tests}
use Rattle.mt_lists.specs.Lines.{is_quote, is_return}
use Rattle.mt_lists.proofs.LineFacts.{none_at_all}
use Rattle.mt_lists.proofs.lines.Lines.new.Goals as goal

pub invariant_of-result-in-None : goal.invariant_of-result-in-None
invariant_of-result-in-None c = record {
  unquoted = none_at_all is_quote c.args.text.now (λ k lt quote. c.in-None.ensures k (omega arith) lt (grind (arith, nat_tests, quote)));
  no_return = λ _. none_at_all is_return c.args.text.now (λ k lt return. c.in-None.ensures k (omega arith) lt (grind (arith, nat_tests, return)));
}

pub invariant_of-result : goal.invariant_of-result
invariant_of-result c = record {
  unquoted = none_at_all is_quote c.args.text.now (λ k lt. c.in-None-memchr.ensures k (omega arith) lt);
  no_return = λ no. cc no;
}
