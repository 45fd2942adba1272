-- What a move of an agent changes, in parts.
use Rattle.std.specs.Prelude.{ℕ, Bool, false, not, ◌&&◌, List, Option, Some, None, Contains, IsTrue}
use Rattle.std.specs.List.{list_any, flat_map}
use Rattle.mt_terms.specs.Lists.{has, count}
use Rattle.mt_terms.specs.Market.{Market, program_of, agent_of, members, agents}
use Rattle.mt_terms.specs.Matching.{Places, Placement, is_program, at, send, unplaced, options, better}
use Rattle.mt_terms.specs.Choice.{choice}
use Rattle.mt_terms.specs.Stability.{fits, would_be_taken}
use Rattle.mt_terms.specs.WellFormed.{IsWellFormed}
use Rattle.mt_terms.specs.Rounds.{is_on, move_of, displaced, left_programs}
use Rattle.mt_terms.specs.declared.numbers.Agent.{Agent}
use Rattle.mt_assignment.specs.Assigned.{is_ahead, with_places, Assigned}

-- the match with everybody sent
abbrev pub seated : Assigned → Placement → Assigned
seated s sent = with_places s (send sent s.places)

-- how many of those that are sent are at a program now, with a rank below this one
abbrev pub leaving : Assigned → ℕ → ℕ → Placement → ℕ
leaving s p rank sent = count (λ x. at s.places p x.0 && is_ahead s p rank x.0) sent

-- how many are sent to a program that have a rank below this one there
abbrev pub coming : Assigned → ℕ → ℕ → Placement → ℕ
coming s p rank sent = count (λ x. is_program p x.1 && is_ahead s p rank x.0) sent

-- whether one of those that are sent is at a program now, and is sent elsewhere
abbrev pub is_left_by_movers : Places → Placement → ℕ → Bool
is_left_by_movers places sent p = list_any (λ s. at places p s.0 && not (is_program p s.1)) sent

-- whether an applicant is at a program, and the program chooses it
abbrev pub is_kept_at : Market → Places → ℕ → ℕ → Bool
is_kept_at m places p a = at places p a && choice (program_of m p) (at places p) a

-- all members of the agents of these applicants
abbrev pub all_members : Market → List ℕ → List ℕ
all_members m xs = flat_map (λ a. members m (agent_of m a)) xs

-- the match with the agents of these applicants unplaced
abbrev pub without_agents : Assigned → List ℕ → Assigned
without_agents s xs = with_places s (unplaced (all_members s.market xs) s.places)

-- whether one of those that are sent leaves a program
abbrev pub movers_leave : Assigned → Placement → ℕ → Bool
movers_leave s sent p = is_left_by_movers s.places sent p

-- whether an applicant is at a program that chooses it
abbrev pub is_kept : Assigned → ℕ → ℕ → Bool
is_kept s a p = is_kept_at s.market s.places p a

-- whether a member of these applicants' agents is at a program that chooses it
abbrev pub any_kept : Assigned → List ℕ → ℕ → Bool
any_kept s xs p = list_any (is_kept_at s.market s.places p) (all_members s.market xs)

-- the match after an agent's move to an option
abbrev pub moved : Assigned → Placement → Assigned
moved s sent = with_places s (move_of s.market s.places sent).after

-- whom that move displaces: by the option's programs in its order, and in a program by its list
abbrev pub displaced_by : Assigned → Placement → List ℕ
displaced_by s sent = displaced s.market (send sent s.places) sent

-- the programs that the move leaves, by number
abbrev pub left_by : Assigned → Placement → List ℕ
left_by s sent = left_programs s.market (move_of s.market s.places sent)

-- whether a place is one of these programs
abbrev pub some_has : List ℕ → Option ℕ → Bool
some_has ps None = false
some_has ps (Some p) = has ps p

-- whether a placement sends somebody to one of these programs
abbrev pub names_one_of : List ℕ → Placement → Bool
names_one_of ps sent = list_any (λ s. some_has ps s.1) sent

-- whether an agent has a better option at one of these programs that would be taken
abbrev pub opens : Assigned → List ℕ → Agent → Bool
opens s ps g = list_any (λ o. names_one_of ps o && would_be_taken s.market s.places o) (better s.market s.places g)

-- In a match that fits, an agent of the market has an option on its list that would be taken.
pub record IsTaking (m : Market) (places : Places) (g : Agent) (sent : Placement) : Type 0 where
  pub well_formed : IsWellFormed m
  pub fitting : IsTrue (fits m places)
  pub agent : IsTrue (is_on (agents m) g)
  pub option : Contains (options m g) sent
  pub taken : IsTrue (would_be_taken m places sent)
