use Rattle.mt_lists.specs.Tap.{bytes_left}
use Rattle.mt_terms.specs.Registration.{market_of}
use Rattle.mt_input.specs.Files.{market_in}
use Rattle.mt_input.proofs.LeftFacts.{cannot_read, left_is, left_refused}
use Rattle.mt_input.proofs.market.read_market.Goals as goal

pub returns-in-Err-clause-refused : goal.returns-in-Err-clause-refused
returns-in-Err-clause-refused g c = cannot_read market_of (bytes_left g.R.Read.remaining c.args.tap.now) c.in-Err.refusal c.in-Err.ensures.refused

pub returns-in-Ok-clause-market : goal.returns-in-Ok-clause-market
returns-in-Ok-clause-market g c =
    left_is (bytes_left g.R.Read.remaining c.args.tap.now) c.in-Ok.bytes.items c.deref.result.now c.in-Ok.ensures.bytes c.deref.ensures.value market_in (λ roster. roster) c.market_in.result
    c.market_in.ensures.market

pub returns-in-Ok-clause-refused : goal.returns-in-Ok-clause-refused
returns-in-Ok-clause-refused g c =
    left_refused (bytes_left g.R.Read.remaining c.args.tap.now) c.in-Ok.bytes.items c.deref.result.now c.in-Ok.ensures.bytes c.deref.ensures.value market_in c.market_in.result
    c.market_in.ensures.refused
