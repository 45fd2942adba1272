use Rattle.std.proofs.Common.{◌∙◌, ap, length}
use Rattle.mt_terms.specs.Lists.{below}
use Rattle.mt_reordered.proofs.MarketFacts.{all_within, aside_tables, seen_aside}
use Rattle.mt_reordered.proofs.markets.set_aside.Goals as goal

pub members-requires : goal.members-requires
members-requires c = all_within (length c.args.roster.now.market.couples) _ (c.as_slice-order.ensures.value ∙ c.in_ok-all.ensures ∙ ap below c.couples.ensures.count)

pub couple_ids-requires : goal.couple_ids-requires
couple_ids-requires c = all_within (length c.args.roster.now.market.couples) _ (c.as_slice-order.ensures.value ∙ c.in_ok-all.ensures ∙ ap below c.couples.ensures.count)

pub new-requires : goal.new-requires
new-requires c =
    aside_tables c.args.roster.now c.is_of_a_file.ensures c.in_ok-tables.tables c.in_ok-tables.ensures.others c.args.aside.now c.as_slice-order.result.now (c.as_slice-order.ensures.value ∙ c.in_ok-all.ensures ∙ ap below c.couples.ensures.count)
    (c.in_ok-tables.ensures.members ∙ c.in_ok-members.ensures) (c.in_ok-tables.ensures.pairs ∙ c.in_ok-pairs.ensures)
    (c.in_ok-tables.ensures.ids ∙ c.in_ok-ids.ensures)
    (c.in_ok-tables.ensures.agents ∙ c.in_ok-agents.ensures)

pub returns : goal.returns
returns c =
    c.new.ensures
    ∙ seen_aside c.args.roster.now c.is_of_a_file.ensures c.in_ok-tables.tables c.in_ok-tables.ensures.others c.args.aside.now c.as_slice-order.result.now (c.as_slice-order.ensures.value ∙ c.in_ok-all.ensures ∙ ap below c.couples.ensures.count)
    (c.in_ok-tables.ensures.members ∙ c.in_ok-members.ensures) (c.in_ok-tables.ensures.pairs ∙ c.in_ok-pairs.ensures)
    (c.in_ok-tables.ensures.ids ∙ c.in_ok-ids.ensures)
