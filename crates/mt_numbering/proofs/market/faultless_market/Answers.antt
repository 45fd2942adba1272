use Rattle.std.proofs.lemmas.Result.{IfOk-weaker}
use Rattle.mt_lists.specs.Rows.{rows_left}
use Rattle.mt_numbering.proofs.AcceptedFacts.{drafts_found, drafts_missing, market_found, accepts_drafts}
use Rattle.mt_numbering.proofs.market.faultless_market.Goals as goal

pub market_of_drafts-requires-clause-drafts : goal.market_of_drafts-requires-clause-drafts
market_of_drafts-requires-clause-drafts g c κs within = (drafts_found c.args.rules.now (rows_left c.args.rows) _ _ c.in_ok-drafts.ensures c.in-Some.is).are

pub market_of_drafts-requires-clause-few : goal.market_of_drafts-requires-clause-few
market_of_drafts-requires-clause-few g c κs within = (drafts_found c.args.rules.now (rows_left c.args.rows) _ _ c.in_ok-drafts.ensures c.in-Some.is).few

pub market_of_drafts-requires-clause-accepted : goal.market_of_drafts-requires-clause-accepted
market_of_drafts-requires-clause-accepted g c κs within =
    accepts_drafts c.args.rules.now (rows_left c.args.rows) _ (drafts_found c.args.rules.now (rows_left c.args.rows) _ _ c.in_ok-drafts.ensures c.in-Some.is) c.requires.accepted

pub returns-in-Some : goal.returns-in-Some
returns-in-Some g c =
    IfOk-weaker c.market_of_drafts.result _ _
    (λ found h. market_found c.args.rules.now (rows_left c.args.rows) _ (drafts_found c.args.rules.now (rows_left c.args.rows) _ _ c.in_ok-drafts.ensures c.in-Some.is) found h)
    c.market_of_drafts.ensures

pub returns-in-None : goal.returns-in-None
returns-in-None g c = drafts_missing c.args.rules.now (rows_left c.args.rows) _ c.in_ok-drafts.ensures c.in-None.is
