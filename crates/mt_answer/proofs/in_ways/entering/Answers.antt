use Rattle.mt_answer.proofs.NameFacts.{short_couple_id}
use Rattle.mt_answer.proofs.in_ways.entering.Goals as goal

pub new-requires : goal.new-requires
new-requires c = rw c.couple_id.ensures (short_couple_id c.args.roster.now c.is_of_a_file.ensures c.args.spent.couple c.requires)
