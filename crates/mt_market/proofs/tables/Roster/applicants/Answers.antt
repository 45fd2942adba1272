use Rattle.std.proofs.Common.{arith, ap}
use Rattle.mt_terms.specs.Market.{Registered, applicants}
use Rattle.mt_market.proofs.TablesFacts.{count_of_agents}
use Rattle.mt_market.proofs.tables.Roster.applicants.Goals as goal

pub overflow_cast-result : goal.overflow_cast-result
overflow_cast-result c = omega (arith, count_of_agents c.self.inside.tables c.self.invariant, c.self.invariant.registration.few_applicants)

pub returns-clause-count : goal.returns-clause-count
returns-clause-count c = omega (arith, count_of_agents c.self.inside.tables c.self.invariant, ap (λ (r : Registered). applicants r.market) c.self.view_is)
