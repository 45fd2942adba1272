use Rattle.mt_explained.proofs.GivenFacts.{given_by}
use Rattle.mt_explained.proofs.whole.write_all.Goals as goal

pub returns-clause-given : goal.returns-clause-given
returns-clause-given g c = given_by c.send.result _ _ _ _ _ _ _ c.requires.page c.in_ok-write_agents.ensures.sent.sends c.send.ensures.sends c.send.ensures.page c.send.ensures.breaks
