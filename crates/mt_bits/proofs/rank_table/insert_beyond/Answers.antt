use Rattle.mt_bits.proofs.TableFacts.{rank_after}
use Rattle.mt_bits.proofs.rank_table.insert_beyond.Goals as goal

pub returns-clause-marked : goal.returns-clause-marked
returns-clause-marked c = rank_after c.args.rows.now c.fill.new.rows c.mark.new.rows c.args.list c.args.rank c.in_ok-fill.ensures.same c.mark.ensures.marked
