use Rattle.std.proofs.Common.{◌≡◌, ◌+◌, ◌≤◌, length, sum, replicate, take, vec_len}
use Rattle.std.specs.Prelude.{vec_capacity}
use Rattle.mt_tally.proofs.dealing.deal.Given as goal

abbrev pub invariant-loop-i : goal.invariant-loop-i
invariant-loop-i g l = record {
  parts : l.rest.parts + l.i ≡ length l.credits + l.passes;
  empty : l.rest.amount ≡ 0;
  shares : l.desk_shares.items ≡ take l.i l.credits;
  room : length l.credits ≤ vec_capacity l.desk_shares;
  len : vec_len l.desk_shares ≡ l.i;
  total : l.total ≡ sum (take l.i l.credits);
  book : l.book.total ≡ l.total;
}

abbrev pub invariant-loop-j : goal.invariant-loop-j
invariant-loop-j g l = record {
  parts : l.rest.parts + l._j ≡ l.passes;
  empty : l.rest.amount ≡ 0;
  shares : l.pass_shares.items ≡ replicate l._j 0;
  room : l.passes ≤ vec_capacity l.pass_shares;
  len : vec_len l.pass_shares ≡ l._j;
}
