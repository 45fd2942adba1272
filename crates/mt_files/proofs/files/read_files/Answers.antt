use Rattle.std.proofs.Common.{◌≡◌, ℕ, ◌-◌, arith}
use Rattle.mt_lists.specs.Tap.{bytes_left}
use Rattle.mt_files.proofs.FileFacts.{files_are, market_refused, match_in_turn, refused_are}
use Rattle.mt_files.proofs.TapFacts.{fault_of_first, fault_of_second, takes_none}
use Rattle.mt_files.proofs.files.read_files.Goals as goal

none_more : (n : ℕ) → n - n ≡ 0
none_more n = omega arith

pub returns-in-Err-clause-in_turn : goal.returns-in-Err-clause-in_turn
returns-in-Err-clause-in_turn g c = none_more _

pub returns-in-Err-clause-refused : goal.returns-in-Err-clause-refused
returns-in-Err-clause-refused g c =
    market_refused (bytes_left g.R.Read.remaining c.args.market.now) (bytes_left g.S.Read.remaining c.args.matched.now) c.in-Err.refusal c.in-Err.ensures.refused

pub returns-in-Err-clause-match_tap : goal.returns-in-Err-clause-match_tap
returns-in-Err-clause-match_tap g c = takes_none g.S.Read.remaining c.args.matched.now

pub returns-in-Err-clause-fault : goal.returns-in-Err-clause-fault
returns-in-Err-clause-fault g c = fault_of_first _ _ _ _ _ c.in-Err.ensures.fault

pub returns-in-Ok-clause-files : goal.returns-in-Ok-clause-files
returns-in-Ok-clause-files g c =
    files_are (bytes_left g.R.Read.remaining c.args.market.now) (bytes_left g.S.Read.remaining c.args.matched.now) c.in-Ok.roster c.in-Ok.ensures.market c.with_match.result
    c.with_match.ensures.roster c.with_match.ensures.submitted

pub returns-in-Ok-clause-refused : goal.returns-in-Ok-clause-refused
returns-in-Ok-clause-refused g c =
    refused_are (bytes_left g.R.Read.remaining c.args.market.now) (bytes_left g.S.Read.remaining c.args.matched.now) c.in-Ok.roster c.in-Ok.ensures.market c.with_match.result
    c.with_match.ensures.source c.with_match.ensures.refused

pub returns-in-Ok-clause-in_turn : goal.returns-in-Ok-clause-in_turn
returns-in-Ok-clause-in_turn g c =
    match_in_turn (bytes_left g.R.Read.remaining c.args.market.now) (bytes_left g.S.Read.remaining c.args.matched.now) c.in-Ok.roster c.in-Ok.ensures.market _ c.with_match.result
    c.with_match.ensures.source

pub returns-in-Ok-clause-fault : goal.returns-in-Ok-clause-fault
returns-in-Ok-clause-fault g c = fault_of_second _ _ 0 _ _ _ _ c.with_match.ensures.fault c.in-Ok.ensures.fault (omega arith)
