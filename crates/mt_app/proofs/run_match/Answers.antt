use Rattle.mt_app.proofs.run_match.Goals as goal

pub returns : goal.returns
returns g c = record {
  answers = rw c.new-tap.ensures.reader at c.run_in_ways.ensures.answers;
  entering = rw c.new-tap.ensures.reader at c.run_in_ways.ensures.entering;
}
