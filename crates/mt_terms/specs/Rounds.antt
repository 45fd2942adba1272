-- How couples enter, one at a time, after the singles are matched. It is in the manner of Roth and Peranson 1999. The
-- exact order of the rounds is this project's own rule.
use Rattle.std.specs.Prelude.{◌≡◌, ℕ, zero, suc, ◌-◌, ◌<◌, ◌≤◌, Bool, true, false, not, ◌&&◌, ◌==◌, nat_le, List, [], ◌∷◌, ◌++◌, map, filter, length, Option, Some, None, IsTrue, IsFalse, if◌then◌else◌}
use Rattle.std.specs.List.{list_any, find, filter_map, flat_map}
use Rattle.std.specs.Option.{option_map, option_and_then}
use Rattle.mt_terms.specs.Lists.{Set, below}
use Rattle.mt_terms.specs.Market.{Market, applicants, program_of, agent_of, agents, members}
use Rattle.mt_terms.specs.Matching.{Places, Placement, at, send, unplaced, none_placed, better}
use Rattle.mt_terms.specs.Choice.{choice}
use Rattle.mt_terms.specs.Stability.{would_be_taken, fits, blocks}
use Rattle.mt_terms.specs.declared.numbers.Agent.{Agent}
use Rattle.mt_terms.specs.declared.numbers.Agent.TheVariants.{Single, Couple}

-- whether two agents are the same
abbrev pub is_same_agent : Agent → Agent → Bool
is_same_agent (Single a) (Single b) = a == b
is_same_agent (Single a) (Couple d) = false
is_same_agent (Couple c) (Single b) = false
is_same_agent (Couple c) (Couple d) = c == d

-- The state between two rounds. It has the match of the agents that have entered, and the work list of the agents
-- that are to be looked at, first in first out.
pub record Work : Type 0 where
  pub places : Places
  pub waiting : List Agent

-- the state with this match and this work list
abbrev pub state : Places → List Agent → Work
state places waiting = record { places = places; waiting = waiting }

-- the work list after an agent joins at its end, if it isn't on it yet
abbrev pub joined : List Agent → Agent → List Agent
joined waiting g = if list_any (is_same_agent g) waiting then waiting else (waiting ++ g ∷ [])

abbrev pub all_joined : List Agent → List Agent → List Agent
all_joined waiting [] = waiting
all_joined waiting (g ∷ gs) = all_joined (joined waiting g) gs

-- whether an agent has entered, once couple k has: each single, and the couples up to k
abbrev pub has_entered : ℕ → Agent → Bool
has_entered k (Single a) = true
has_entered k (Couple c) = nat_le c k

-- the option that an agent takes: the first better one that would be taken
abbrev pub first_taken : Market → Places → Agent → Option Placement
first_taken m places g = find (would_be_taken m places) (better m places g)

-- A move: the match before it, the match with the agent seated and nobody taken out yet, and the match after it.
pub record Move : Type 0 where
  pub before : Places
  pub seated : Places
  pub after : Places

-- the programs that a placement sends somebody to, in its order
abbrev pub programs_sent_to : Placement → List ℕ
programs_sent_to sent = filter_map (λ s. s.1) sent

-- the applicants displaced at a program: those seated there that it doesn't choose
abbrev pub displaced_at : Market → Places → ℕ → Set
displaced_at m seated p a = at seated p a && not (choice (program_of m p) (at seated p) a)

-- all displaced applicants: by the option's programs in its order, and in a program by its list
abbrev pub displaced : Market → Places → Placement → List ℕ
displaced m seated sent = flat_map (λ p. filter (displaced_at m seated p) (program_of m p).ranking) (programs_sent_to sent)

-- the match without them: each displaced single is unplaced, and each couple with a displaced member as a whole
abbrev pub without_displaced : Market → Places → Placement → Places
without_displaced m seated sent = unplaced (flat_map (λ a. members m (agent_of m a)) (displaced m seated sent)) seated

-- the move of an agent to an option that would be taken
abbrev pub move_of : Market → Places → Placement → Move
move_of m places sent =
    let seated : Places = send sent places in
    record { before = places; seated = seated; after = without_displaced m seated sent }

-- whether a move leaves a program: somebody was there before it, isn't there after it, and wasn't displaced there
abbrev pub is_left : Market → Move → ℕ → Bool
is_left m v p = list_any (λ a. at v.before p a && not (at v.after p a) && not (displaced_at m v.seated p a)) (below (applicants m))

-- the programs that a move leaves, by number
abbrev pub left_programs : Market → Move → List ℕ
left_programs m v = filter (is_left m v) (below (length m.programs))

-- the agents of a program's list that have entered and block a match, in list order
abbrev pub blocking_on_list : Market → ℕ → Places → ℕ → List Agent
blocking_on_list m k places p = filter (λ g. has_entered k g && blocks m places g) (map (agent_of m) (program_of m p).ranking)

-- The agents to look at again after a move: those of the displaced applicants, then the mover if it still blocks.
-- Then come the entered agents that block, by the lists of the programs that are left, by number.
abbrev pub rechecked : Market → ℕ → Agent → Placement → Move → List Agent
rechecked m k mover sent v =
    map (agent_of m) (displaced m v.seated sent)
    ++ (if blocks m v.after mover then (mover ∷ []) else [])
    ++ flat_map (blocking_on_list m k v.after) (left_programs m v)

-- the state after an agent took its option, or had none to take
abbrev pub after_taking : Market → ℕ → Places → Agent → List Agent → Option Placement → Work
after_taking m k places g waiting None = record { places = places; waiting = waiting }
after_taking m k places g waiting (Some sent) =
    let v : Move = move_of m places sent in record { places = v.after; waiting = all_joined waiting (rechecked m k g sent v) }

-- One round: the agent at the front is taken off the work list, and takes the first better option that would be
-- taken. With no agent on the list there is nothing to do.
abbrev pub round_of : Market → ℕ → Places → List Agent → Work
round_of m k places [] = record { places = places; waiting = [] }
round_of m k places (g ∷ waiting) = after_taking m k places g waiting (first_taken m places g)

abbrev pub round : Market → ℕ → Work → Work
round m k w = round_of m k w.places w.waiting

-- The match once the work list is empty, with the rounds that are left of the budget. There is none if the list isn't
-- empty and no round is left.
abbrev pub after_rounds : Market → ℕ → ℕ → Places → List Agent → Option (Places × ℕ)
after_rounds m k left places [] = Some (places, left)
after_rounds m k zero places (g ∷ waiting) = None
after_rounds m k (suc left) places (g ∷ waiting) =
    let next : Work = round_of m k places (g ∷ waiting) in after_rounds m k left next.places next.waiting

-- the couples of these numbers enter in turn, each on an empty work list
abbrev pub after_entries : Market → List ℕ → ℕ → Places → Option (Places × ℕ)
after_entries m [] left places = Some (places, left)
after_entries m (k ∷ ks) left places = option_and_then (λ r. after_entries m ks r.1 r.0) (after_rounds m k left places (Couple k ∷ []))

-- The couples' stage: the match after every couple has entered, and how many rounds that took. There is none
-- if the budget is spent before the work list is empty.
abbrev pub stage : Market → Places → ℕ → Option (Places × ℕ)
stage m places budget = option_map (λ r. (r.0, budget - r.1)) (after_entries m (below (length m.couples)) budget places)

-- whether an agent is on a list of agents
abbrev pub is_on : List Agent → Agent → Bool
is_on list g = list_any (is_same_agent g) list

-- The state between two rounds, once couple k has entered. The match fits. On the work list are agents of the market
-- that have entered. A couple that has not entered is unplaced. An entered agent that is not on the work list does
-- not block.
pub record IsRoundState (m : Market) (k : ℕ) (w : Work) : Type 0 where
  pub fitting : IsTrue (fits m w.places)
  pub waiting_entered : (g : Agent) → IsTrue (is_on w.waiting g) → IsTrue (is_on (agents m) g) × IsTrue (has_entered k g)
  pub outside_unplaced : (g : Agent) → IsTrue (is_on (agents m) g) → IsFalse (has_entered k g) → IsTrue (none_placed w.places (members m g))
  pub none_blocks : (g : Agent) → IsTrue (is_on (agents m) g) → IsTrue (has_entered k g) → IsFalse (is_on w.waiting g) → IsFalse (blocks m w.places g)

-- Between two rounds from any match that fits: the match fits, and on the work list are agents of the market.
pub record IsFittingState (m : Market) (w : Work) : Type 0 where
  pub fitting : IsTrue (fits m w.places)
  pub waiting_agents : (g : Agent) → IsTrue (is_on w.waiting g) → IsTrue (is_on (agents m) g)

-- The rounds that a stage makes are those that it needs. They are within the budget. Any budget of at least that
-- number gives the same, and any smaller one is spent.
pub record NeedsRounds (m : Market) (places : Places) (budget : ℕ) (r : Places × ℕ) : Type 0 where
  pub within : r.1 ≤ budget
  pub enough : (b : ℕ) → r.1 ≤ b → stage m places b ≡ Some r
  pub too_few : (b : ℕ) → b < r.1 → stage m places b ≡ None
