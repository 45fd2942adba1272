-- What rank tables say of the market that they are of, and who is on its lists.
use Rattle.std.proofs.Common.{◌≡◌, ℕ, ◌<◌, [], ap}
use Rattle.mt_terms.specs.Market.{Market, applicants, program_of, agent_of, IsAgentOf}
use Rattle.mt_terms.specs.declared.numbers.Agent.{Agent}
use Rattle.mt_terms.specs.declared.numbers.Agent.TheVariants.{Single, Couple}
use Rattle.mt_round_laws.proofs.RoundsAgents.{IsAgent, agent_of_applicant, couple_number}
use Rattle.mt_round_laws.proofs.RoundsSets.{has_head}
use Rattle.mt_terms.specs.WellFormed.{IsWellFormed}
use Rattle.mt_ranks.specs.Ranked.{Ranked, ranked_of}
pub use Rattle.mt_terms.proofs.ListFacts.{item_below as read_within}

-- Below, r are the rank tables of the market m.
pub ranked_ranking : (r : Ranked) (m : Market) (p : ℕ) → r ≡ ranked_of m → (program_of r.market p).ranking ≡ (program_of m p).ranking
ranked_ranking r m p is = ap (λ (x : Ranked). (program_of x.market p).ranking) is

-- an agent of the market has a number within it
pub number_within : (m : Market) (g : Agent) → IsAgent m g → IsAgentOf m g
number_within m (Single b) h = h.within b (has_head b [])
number_within m (Couple c) h = couple_number m c h

-- who an applicant of a well-formed market belongs to is of the market
pub agent_within : (m : Market) → IsWellFormed m → (a : ℕ) → a < applicants m → IsAgentOf m (agent_of m a)
agent_within m wf a within = number_within m (agent_of m a) (agent_of_applicant m wf a within)
