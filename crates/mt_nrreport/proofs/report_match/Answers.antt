use Rattle.mt_nrreport.proofs.report_match.Goals as goal

pub returns : goal.returns
returns g c = record {
  reads = _;
  code = c.report.result.code;
  written = c.report.result.written;
  whole = c.report.result.whole;
  answers = rw (c.new.ensures.reader, c.new-2.ensures.reader) at c.report.ensures.answers;
  is_status = c.status.ensures;
}
