use Rattle.mt_nrcheck.proofs.check_match.Goals as goal

pub returns-then-is_all : goal.returns-then-is_all
returns-then-is_all g c = rw c.if-is_all.true (record {
  reads = _;
  code = c.check_all.result.code;
  whole = c.check_all.result.whole;
  answers = rw (c.new-market.ensures.reader, c.new-matched.ensures.reader) at c.check_all.ensures.answers;
  is_status = c.status.ensures;
})

pub returns-else-is_all : goal.returns-else-is_all
returns-else-is_all g c = rw c.if-is_all.false (record {
  reads = _;
  code = c.check.result.code;
  written = c.check.result.written;
  whole = c.check.result.whole;
  answers = rw (c.new-market-else-is_all.ensures.reader, c.new-matched-else-is_all.ensures.reader) at c.check.ensures.answers;
  is_status = c.status-else-is_all.ensures;
})
