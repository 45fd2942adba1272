use Rattle.std.proofs.Common.{arith, ap, length}
use Rattle.mt_terms.specs.Market.{Registered}
use Rattle.mt_market.proofs.TablesFacts.{count_of_couples}
use Rattle.mt_market.proofs.tables.Roster.couples.Goals as goal

pub overflow_cast-result : goal.overflow_cast-result
overflow_cast-result c = omega (arith, count_of_couples c.self.inside.tables c.self.invariant, c.self.invariant.registration.few_couples)

pub returns-clause-count : goal.returns-clause-count
returns-clause-count c = omega (arith, count_of_couples c.self.inside.tables c.self.invariant, ap (λ (r : Registered). length r.market.couples) c.self.view_is)
