-- Which matches are stable. Without couples this is the stability of Gusfield and Irving 1989 for hospitals and
-- residents. How a couple blocks is this project's own rule.
use Rattle.std.specs.Prelude.{ℕ, Bool, true, not, ◌&&◌, ◌||◌, ◌==◌, nat_le, Option, Some, None, length}
use Rattle.std.specs.List.{list_any, list_all}
use Rattle.mt_terms.specs.Lists.{has, below}
use Rattle.mt_terms.specs.Market.{Market, applicants, program_of, members, agents}
use Rattle.mt_terms.specs.Matching.{Places, Placement, place_of, at, filled, options, send, holds, none_placed, better}
use Rattle.mt_terms.specs.Choice.{choice}
use Rattle.mt_terms.specs.declared.numbers.Agent.{Agent}

-- whether an applicant may be at this place: unplaced, or at a program whose list has it
abbrev pub is_listed : Market → ℕ → Option ℕ → Bool
is_listed m a None = true
is_listed m a (Some p) = has (program_of m p).ranking a

-- whether a place is none, or chosen by its program from those who would be there
abbrev pub is_chosen : Market → Places → ℕ → Option ℕ → Bool
is_chosen m places a None = true
is_chosen m places a (Some p) = choice (program_of m p) (at places p) a

-- whether an agent has an option of its list, or none of its members is placed
abbrev pub has_own_option : Market → Places → Agent → Bool
has_own_option m places agent = list_any (holds places) (options m agent) || none_placed places (members m agent)

-- A match fits if it has one place for each applicant, and each agent has an option of its list or nothing. Each
-- placed applicant is on its program's list, and no program has more applicants than its quota.
abbrev pub fits : Market → Places → Bool
fits m places =
    (length places == applicants m)
    && list_all (has_own_option m places) (agents m)
    && list_all (λ a. is_listed m a (place_of places a)) (below (applicants m))
    && list_all (λ p. nat_le (filled places p) (program_of m p).quota) (below (length m.programs))

-- An option would be taken if each program that a member is sent to chooses that member. All of the agent's members
-- are first sent where the option sends them.
abbrev pub would_be_taken : Market → Places → Placement → Bool
would_be_taken m places sent = list_all (λ s. is_chosen m (send sent places) s.0 s.1) sent

-- An agent blocks a match if one of the options that it wants more than what it has would be taken.
abbrev pub blocks : Market → Places → Agent → Bool
blocks m places agent = list_any (would_be_taken m places) (better m places agent)

-- A match is stable if it fits and no agent blocks it.
abbrev pub stable : Market → Places → Bool
stable m places = fits m places && not (list_any (blocks m places) (agents m))
