use Rattle.std.proofs.Common.{◌∙◌}
use Rattle.mt_reordered.proofs.MarketFacts.{order_short, order_within, reordered_tables, seen_reordered}
use Rattle.mt_reordered.proofs.markets.reordered.Goals as goal

pub renumbered_agents-requires-clause-few : goal.renumbered_agents-requires-clause-few
renumbered_agents-requires-clause-few c = order_short c.args.roster.now c.is_of_a_file.ensures c.args.order.now c.requires

pub renumbered_agents-requires-clause-within : goal.renumbered_agents-requires-clause-within
renumbered_agents-requires-clause-within c = order_within c.args.roster.now.market c.args.order.now c.requires

pub members-requires : goal.members-requires
members-requires c = order_within c.args.roster.now.market c.args.order.now c.requires

pub pairs-requires : goal.pairs-requires
pairs-requires c = order_within c.args.roster.now.market c.args.order.now c.requires

pub couple_ids-requires : goal.couple_ids-requires
couple_ids-requires c = order_within c.args.roster.now.market c.args.order.now c.requires

pub new-requires : goal.new-requires
new-requires c =
    reordered_tables c.args.roster.now c.is_of_a_file.ensures c.in_ok-tables.tables c.in_ok-tables.ensures.others c.args.order.now c.requires
    (c.in_ok-tables.ensures.members ∙ c.in_ok-members.ensures) (c.in_ok-tables.ensures.pairs ∙ c.in_ok-pairs.ensures)
    (c.in_ok-tables.ensures.ids ∙ c.in_ok-ids.ensures) (c.in_ok-tables.ensures.agents ∙ c.in_ok-agents.ensures)

pub returns : goal.returns
returns c =
    c.new.ensures
    ∙ seen_reordered c.args.roster.now c.is_of_a_file.ensures c.in_ok-tables.tables c.in_ok-tables.ensures.others c.args.order.now c.requires
    (c.in_ok-tables.ensures.members ∙ c.in_ok-members.ensures) (c.in_ok-tables.ensures.pairs ∙ c.in_ok-pairs.ensures)
    (c.in_ok-tables.ensures.ids ∙ c.in_ok-ids.ensures)
