use Rattle.mt_lists.specs.Tap.{bytes_left}
use Rattle.mt_run_laws.proofs.WayFacts.{market_refused_in, none_entering}
use Rattle.mt_run.proofs.UnmatchedFacts.{unmatched_in}
use Rattle.mt_run.proofs.in_ways.answer_to_input_in_ways.Goals as goal

pub returns-in-Ok-clause-refused : goal.returns-in-Ok-clause-refused
returns-in-Ok-clause-refused g c =
    unmatched_in (bytes_left g.R.Read.remaining c.args.tap.now) c.args.options.budget c.args.ways c.in-Ok.roster c.in-Ok.ensures.market c.in-Err-answer_in_ways.unanswered c.why_unmatched.result
    c.why_unmatched.ensures c.in-Err-answer_in_ways.ensures.unanswered

pub returns-clause-refused : goal.returns-clause-refused
returns-clause-refused g c = market_refused_in (bytes_left g.R.Read.remaining c.args.tap.now) c.args.options.budget c.args.ways c.in-Err.refusal c.in-Err.ensures.refused

pub returns-clause-entering : goal.returns-clause-entering
returns-clause-entering g c = none_entering (bytes_left g.R.Read.remaining c.args.tap.now) c.args.options.budget c.in-Err.refusal c.in-Err.ensures.refused
