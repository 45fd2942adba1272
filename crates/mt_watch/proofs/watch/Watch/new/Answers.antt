use Rattle.std.proofs.Common.{◌∙◌, length, ap}
use Rattle.mt_terms.specs.Market.{Market}
use Rattle.mt_stage_tables.proofs.NamedFacts.{named_first}
use Rattle.mt_watch.proofs.watch.Watch.new.Goals as goal

pub returns-clause-named : goal.returns-clause-named
returns-clause-named c =
    named_first c.args.assignment.now.market c.in_ok-new.field-0 c.programs.result c.couples.result c.in_ok-new.ensures
    (c.programs.ensures.count ∙ ap (λ (x : Market). length x.programs) c.roster-roster.ensures.market)
    (c.couples.ensures.count ∙ ap (λ (x : Market). length x.couples) c.roster-roster.ensures.market)
