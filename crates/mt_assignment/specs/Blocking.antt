-- Who blocks, of those that have entered.
use Rattle.std.specs.Prelude.{ℕ, Bool, true, not, ◌&&◌, List}
use Rattle.std.specs.List.{list_all}
use Rattle.mt_terms.specs.Lists.{below}
use Rattle.mt_terms.specs.Market.{agent_of, applicants}
use Rattle.mt_terms.specs.Stability.{blocks}
use Rattle.mt_terms.specs.Rounds.{has_entered, is_on}
use Rattle.mt_terms.specs.declared.numbers.Agent.{Agent}
use Rattle.mt_terms.specs.declared.numbers.Agent.TheVariants.{Single, Couple}
use Rattle.mt_assignment.specs.Assigned.{Assigned}
use Rattle.mt_assignment.specs.Moves.{opens}

-- whether an agent has entered and doesn't wait, and whether it has a better option at one of these programs that
-- would be taken besides
abbrev pub is_idle : ℕ → List Agent → Agent → Bool
is_idle k waiting g = has_entered k g && not (is_on waiting g)

abbrev pub is_reopened : ℕ → Assigned → List ℕ → List Agent → Agent → Bool
is_reopened k s ps waiting g = is_idle k waiting g && opens s ps g

-- whether an agent is a couple, or doesn't block
abbrev pub is_quiet_single : Assigned → Agent → Bool
is_quiet_single s (Single a) = not (blocks s.market s.places (Single a))
is_quiet_single s (Couple c) = true

-- whether no single blocks
abbrev pub singles_quiet : Assigned → Bool
singles_quiet s = list_all (λ a. is_quiet_single s (agent_of s.market a)) (below (applicants s.market))
