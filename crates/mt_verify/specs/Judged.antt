-- A match beside the market that it is judged by, and what is asked of the two.
use Rattle.std.specs.Prelude.{ℕ, ◌<◌, Bool, ◌&&◌, ◌||◌, List, length, nat_lt, take, Option, IsFalse}
use Rattle.std.specs.List.{find, position}
use Rattle.std.specs.Option.{option_map}
use Rattle.mt_terms.specs.Lists.{below, count, has}
use Rattle.mt_terms.specs.Market.{Pair, Registered, agents, applicants, program_of}
use Rattle.mt_terms.specs.Matching.{Places, at, better, couple_placement, place_of, send}
use Rattle.mt_terms.specs.Stability.{blocks, is_chosen, is_listed, would_be_taken}
use Rattle.mt_terms.specs.Registration.Accepted.{is_none_or_below}
use Rattle.mt_terms.specs.Verdict.{is_over, is_unlisted}
use Rattle.mt_terms.specs.declared.numbers.Agent.{Agent}
use Rattle.mt_terms.specs.declared.verdict.Blocker.{Blocker}
use Rattle.mt_verify.specs.Blocking.{blocker, leads_blocker}
use Rattle.mt_verify.specs.Moved.{at_moved}

-- a market with its ids, and a match
pub record Judged : Type 0 where
  pub registered : Registered
  pub places : Places

-- whether an applicant is unplaced, or its program lists it
abbrev pub is_place_listed : Judged → ℕ → Bool
is_place_listed j a = is_listed j.registered.market a (place_of j.places a)

-- whether a place is none, or a program of the market
abbrev pub is_known : Judged → Option ℕ → Bool
is_known j place = is_none_or_below (length j.registered.market.programs) place

-- each applicant's place is allowed
abbrev pub AreAllowed : Judged → Type 0
AreAllowed j = (a : ℕ) → a < applicants j.registered.market → IsFalse (is_unlisted j.registered.market j.places a)

-- the first applicant whose place isn't allowed
abbrev pub first_unlisted : Judged → Option ℕ
first_unlisted j = find (is_unlisted j.registered.market j.places) (below (applicants j.registered.market))

-- whether an applicant's place isn't allowed or, if blocking counts too, it leads an agent that blocks
abbrev pub is_found : Judged → Bool → ℕ → Bool
is_found j with_blocking a =
    (with_blocking && leads_blocker j.registered.market j.places a) || is_unlisted j.registered.market j.places a

-- the first such applicant
abbrev pub first_found : Judged → Bool → Option ℕ
first_found j with_blocking = find (is_found j with_blocking) (below (applicants j.registered.market))

-- the first program with more applicants than its quota
abbrev pub first_over : Judged → Option ℕ
first_over j = find (is_over j.registered.market j.places) (below (length j.registered.market.programs))

-- the first agent that blocks
abbrev pub first_blocking : Judged → Option Agent
first_blocking j = find (blocks j.registered.market j.places) (agents j.registered.market)

-- the same, with the first option with which it does
abbrev pub first_blocker : Judged → Option Blocker
first_blocker j = option_map (blocker j.registered.market j.places) (first_blocking j)

-- the place on an agent's list of its first better option that would be taken
abbrev pub first_taken : Judged → Agent → Option ℕ
first_taken j g = position (would_be_taken j.registered.market j.places) (better j.registered.market j.places g)

-- whether a pair's programs would take both members
abbrev pub takes_pair : Judged → ℕ → ℕ → Pair → Bool
takes_pair j a b pair = would_be_taken j.registered.market j.places (couple_placement a b pair)

-- whether a member would be chosen at its new place, if any, with its partner sent to another one at once
abbrev pub takes_member : Judged → ℕ → Option ℕ → ℕ → Option ℕ → Bool
takes_member j a place b other = is_chosen j.registered.market sent a place
  where
    sent : Places
    sent = send (couple_placement a b (place, other)) j.places

-- whether a program lists an applicant
abbrev pub is_listed_at : Judged → ℕ → ℕ → Bool
is_listed_at j p a = has (program_of j.registered.market p).ranking a

-- the applicants above a rank on a program's list
abbrev pub front : Judged → ℕ → ℕ → List ℕ
front j p rank = take rank (program_of j.registered.market p).ranking

-- how many of those at a program are above a rank on its list
abbrev pub count_above : Judged → ℕ → ℕ → ℕ
count_above j p rank = count (at j.places p) (front j p rank)

-- whether fewer than its quota of those at a program are above a rank on its list
abbrev pub has_post : Judged → ℕ → ℕ → Bool
has_post j p rank = nat_lt (count_above j p rank) (program_of j.registered.market p).quota

-- how many of them are above the rank, with an applicant moved to a place
abbrev pub count_above_moved : Judged → ℕ → ℕ → ℕ → Option ℕ → ℕ
count_above_moved j p rank a place = count (at_moved j.places a place p) (front j p rank)
