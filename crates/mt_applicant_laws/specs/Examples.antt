-- What the laws of the applicants say on small markets, and what isn't so.
use Rattle.std.specs.Prelude.{◌≡◌, ◌==◌, true, [], ◌∷◌, Some, None}
use Rattle.mt_terms.specs.Lists.{has, until}
use Rattle.mt_terms.specs.Market.{Market, program_of}
use Rattle.mt_terms.specs.Best.{IsBest, better_programs}
use Rattle.mt_terms.specs.Rounds.{stage}
use Rattle.mt_terms.specs.Examples.Markets.{chain, crossed, market, one_post, couple, both}
use Rattle.mt_applicant_laws.specs.Changes.{with_list, with_program, with_quota}

-- A lie that doesn't help: in the rejection chain the first applicant has its second wish. If it lists its first wish
-- alone, it is unplaced.
pub record LieThatDoesNotHelp : Type 0 where
  pub honest : IsBest chain (Some 1 ∷ Some 0 ∷ None ∷ [])
  pub lie : IsBest (with_list chain 0 (0 ∷ [])) (None ∷ Some 1 ∷ Some 0 ∷ [])

-- A program can gain by a lie (Roth 1982): in the market of the crossed wishes the first program takes the applicant
-- that it wants least. If it lists the other one alone, it takes that one.
pub record LieOfAProgram : Type 0 where
  pub honest : IsBest crossed (Some 0 ∷ Some 1 ∷ [])
  pub lie : IsBest (with_program crossed 0 (one_post (1 ∷ []))) (Some 1 ∷ Some 0 ∷ [])
  pub gains : has (until (λ a. a == 0) (program_of crossed 0).ranking) 1 ≡ true

-- Of two applicants that lie together one can gain while the other loses nothing. (Dubins and Freedman 1981 show that
-- not both can gain.) In the rejection chain the third applicant lists nothing, and the first its first wish alone.
pub record LieOfTwo : Type 0 where
  pub honest : IsBest chain (Some 1 ∷ Some 0 ∷ None ∷ [])
  pub lie : IsBest (with_list (with_list chain 0 (0 ∷ [])) 2 []) (Some 0 ∷ Some 1 ∷ None ∷ [])
  pub first_gains : has (better_programs chain (Some 1 ∷ Some 0 ∷ None ∷ []) 0) 0 ≡ true

-- With one post more at the first program, each applicant of the chain has its first wish. The first two have theirs if
-- the third one wants nothing. If the third one, who is unplaced, then adds a program to its list, the first one loses:
-- so the law of a longer list speaks of placed applicants alone.
pub record ChangedChain : Type 0 where
  pub one_post_more : IsBest (with_quota chain 0 2) (Some 0 ∷ Some 1 ∷ Some 0 ∷ [])
  pub one_less : IsBest (with_list chain 2 []) (Some 0 ∷ Some 1 ∷ None ∷ [])
  pub list_added : with_list (with_list chain 2 []) 2 (0 ∷ []) ≡ chain
  pub then_hurt : has (better_programs chain (Some 1 ∷ Some 0 ∷ None ∷ []) 0) 0 ≡ true

-- A longer list that changes nothing: in the market of the crossed wishes the first applicant has its first wish, also
-- if it lists that one alone.
pub record LongerListOfTheFirst : Type 0 where
  pub first_wish_alone : IsBest (with_list crossed 0 (0 ∷ [])) (Some 0 ∷ Some 1 ∷ [])
  pub list_added : with_list (with_list crossed 0 (0 ∷ [])) 0 (0 ∷ 1 ∷ []) ≡ crossed
  pub both_wishes : IsBest crossed (Some 0 ∷ Some 1 ∷ [])

-- With a couple a single can gain by a lie. By its own list it has its last wish after the couple has entered. If it
-- lists its second wish alone, it keeps that one: the couple finds the single's first wish open, and takes it.
--
--     program,x,1,s,a    program,y,1,b,s    program,z,1,a,s,b    applicant,s,z,y,x    couple,c,a,b,x,z,z,y
abbrev pub seat_left_open : Market
seat_left_open =
    market (one_post (0 ∷ 1 ∷ []) ∷ one_post (2 ∷ 0 ∷ []) ∷ one_post (1 ∷ 0 ∷ 2 ∷ []) ∷ []) ((2 ∷ 1 ∷ 0 ∷ []) ∷ [] ∷ [] ∷ [])
    (couple 1 2 (both 0 2 ∷ both 2 1 ∷ []) ∷ [])

pub record LieBesideACouple : Type 0 where
  pub honest : IsBest seat_left_open (Some 2 ∷ None ∷ None ∷ [])
  pub honest_stage : stage seat_left_open (Some 2 ∷ None ∷ None ∷ []) 10 ≡ Some (Some 0 ∷ Some 2 ∷ Some 1 ∷ [], 3)
  pub lie : IsBest (with_list seat_left_open 0 (1 ∷ [])) (Some 1 ∷ None ∷ None ∷ [])
  pub lie_stage : stage (with_list seat_left_open 0 (1 ∷ [])) (Some 1 ∷ None ∷ None ∷ []) 10 ≡ Some (Some 1 ∷ Some 0 ∷ Some 2 ∷ [], 1)
  pub gains : has (better_programs seat_left_open (Some 0 ∷ Some 2 ∷ Some 1 ∷ []) 0) 1 ≡ true
