use Rattle.std.proofs.Common.{sym, ◌∙◌}
use Rattle.mt_terms.proofs.AgentFacts.{single_is_itself}
use Rattle.mt_verify.proofs.verifier.Verifier.has_finding.Goals as goal

pub single_has_finding-requires-clause-single : goal.single_has_finding-requires-clause-single
single_has_finding-requires-clause-single c = single_is_itself c.args.self.now.roster.now.market c.args.applicant c.in-Single.field-0 (sym c.agent_of.ensures ∙ c.in-Single.is)
