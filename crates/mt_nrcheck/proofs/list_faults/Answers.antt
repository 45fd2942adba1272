use Rattle.mt_nrcheck.proofs.list_faults.Goals as goal

pub returns : goal.returns
returns g c = record {
  code = c.check_market.result.code;
  whole = c.check_market.result.whole;
  answers = rw c.new.ensures.reader at c.check_market.ensures.answers;
  is_status = c.status.ensures;
}
