use Rattle.mt_nrexplain.proofs.explain_match.Goals as goal

pub returns : goal.returns
returns g c = record {
  reads = _;
  code = c.explain.result.code;
  whole = c.explain.result.whole;
  answers = rw (c.new.ensures.reader, c.new-2.ensures.reader) at c.explain.ensures.answers;
  is_status = c.status.ensures;
}
