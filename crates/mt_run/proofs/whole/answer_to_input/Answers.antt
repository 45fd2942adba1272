use Rattle.mt_lists.specs.Tap.{bytes_left}
use Rattle.mt_run_laws.proofs.FaultFacts.{market_refused, refusal_of_market, text_of_market}
use Rattle.mt_run.proofs.whole.answer_to_input.Goals as goal

pub returns-in-Ok-clause-text : goal.returns-in-Ok-clause-text
returns-in-Ok-clause-text g c =
    text_of_market (bytes_left g.R.Read.remaining c.args.tap.now) c.args.options.budget c.in-Ok.roster c.in-Ok.ensures.market (λ text. text.items) c.answer_to_market.result
    c.answer_to_market.ensures.text

pub returns-in-Ok-clause-refused : goal.returns-in-Ok-clause-refused
returns-in-Ok-clause-refused g c =
    refusal_of_market (bytes_left g.R.Read.remaining c.args.tap.now) c.args.options.budget c.in-Ok.roster c.in-Ok.ensures.market c.answer_to_market.result c.answer_to_market.ensures.refused

pub returns-in-Err-clause-refused : goal.returns-in-Err-clause-refused
returns-in-Err-clause-refused g c = market_refused (bytes_left g.R.Read.remaining c.args.tap.now) c.args.options.budget c.in-Err.refusal c.in-Err.ensures.refused
