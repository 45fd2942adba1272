-- Which matches of the small markets are stable or best, and the finding against each other one.
use Rattle.std.specs.Prelude.{◌≡◌, true, false, [], ◌∷◌, Some, None}
use Rattle.mt_terms.specs.Best.{IsBest, proposals}
use Rattle.mt_terms.specs.Examples.Markets
use Rattle.mt_terms.specs.Examples.Registration as Withdrawn
use Rattle.mt_terms.specs.Stability.{stable}
use Rattle.mt_terms.specs.Verdict.{verdict_of}
use Rattle.mt_terms.specs.WellFormed.{is_well_formed}
use Rattle.mt_terms.specs.declared.numbers.Agent.TheVariants.{Single, Couple}
use Rattle.mt_terms.specs.declared.verdict.Verdict.TheVariants.{Unlisted, Over, Blocks}

-- Of the two stable matches, the one that gives each applicant its first wish is best.
pub record CrossedWishes : Type 0 where
  pub first_wishes : stable Markets.crossed (Some 0 ∷ Some 1 ∷ []) ≡ true
  pub second_wishes : stable Markets.crossed (Some 1 ∷ Some 0 ∷ []) ≡ true
  pub nobody : stable Markets.crossed (None ∷ None ∷ []) ≡ false
  pub best : IsBest Markets.crossed (Some 0 ∷ Some 1 ∷ [])
  pub to_first : proposals Markets.crossed (Some 0 ∷ Some 1 ∷ []) 0 ≡ 1
  pub to_second : proposals Markets.crossed (Some 0 ∷ Some 1 ∷ []) 1 ≡ 1

-- The third applicant keeps the first wishes from being stable: it blocks with its first option.
pub record RejectionChain : Type 0 where
  pub stable_one : stable Markets.chain (Some 1 ∷ Some 0 ∷ None ∷ []) ≡ true
  pub first_wishes : verdict_of Markets.chain (Some 0 ∷ Some 1 ∷ None ∷ []) ≡ Blocks (record { agent = Single 2; option = 0 })
  pub to_first : proposals Markets.chain (Some 1 ∷ Some 0 ∷ None ∷ []) 0 ≡ 3
  pub to_second : proposals Markets.chain (Some 1 ∷ Some 0 ∷ None ∷ []) 1 ≡ 2

-- A program without posts takes nobody, and still receives proposals.
pub record ClosedProgram : Type 0 where
  pub stable_one : stable Markets.closed (None ∷ Some 1 ∷ []) ≡ true
  pub taken_in : verdict_of Markets.closed (Some 0 ∷ Some 1 ∷ []) ≡ Over 0
  pub one_too_many : stable Markets.closed (Some 0 ∷ Some 1 ∷ []) ≡ false
  pub to_closed : proposals Markets.closed (None ∷ Some 1 ∷ []) 0 ≡ 2
  pub to_open : proposals Markets.closed (None ∷ Some 1 ∷ []) 1 ≡ 1

-- An entry of one side alone is no place, and no proposal.
pub record OneSided : Type 0 where
  pub stable_one : stable Markets.one_sided (None ∷ None ∷ []) ≡ true
  pub not_listed_by_program : verdict_of Markets.one_sided (Some 1 ∷ None ∷ []) ≡ Unlisted 0
  pub not_listed_by_applicant : verdict_of Markets.one_sided (Some 0 ∷ None ∷ []) ≡ Unlisted 0
  pub to_first : proposals Markets.one_sided (None ∷ None ∷ []) 0 ≡ 0
  pub to_second : proposals Markets.one_sided (None ∷ None ∷ []) 1 ≡ 0

-- Two posts go to the two that the program wants most.
pub record TwoPosts : Type 0 where
  pub stable_one : stable Markets.two_posts (Some 0 ∷ None ∷ Some 0 ∷ []) ≡ true
  pub first_comers : verdict_of Markets.two_posts (Some 0 ∷ Some 0 ∷ None ∷ []) ≡ Blocks (record { agent = Single 2; option = 0 })
  pub all_three : verdict_of Markets.two_posts (Some 0 ∷ Some 0 ∷ Some 0 ∷ []) ≡ Over 0
  pub to_it : proposals Markets.two_posts (Some 0 ∷ None ∷ Some 0 ∷ []) 0 ≡ 3

-- A couple is taken together: with a single in between there is room for one of them only.
pub record SingleBetween : Type 0 where
  pub single_alone : stable Markets.single_between (Some 0 ∷ None ∷ None ∷ []) ≡ true
  pub couple_alone : verdict_of Markets.single_between (None ∷ Some 0 ∷ Some 0 ∷ []) ≡ Blocks (record { agent = Single 0; option = 0 })
  pub all_three : verdict_of Markets.single_between (Some 0 ∷ Some 0 ∷ Some 0 ∷ []) ≡ Over 0
  pub single_last : stable Markets.single_last (None ∷ Some 0 ∷ Some 0 ∷ []) ≡ true

-- A couple's places are a pair of its list, and not half of one.
pub record CoupleShutOut : Type 0 where
  pub single_alone : stable Markets.single_elsewhere (Some 1 ∷ None ∷ None ∷ []) ≡ true
  pub half_placed : verdict_of Markets.single_elsewhere (Some 1 ∷ Some 0 ∷ None ∷ []) ≡ Unlisted 1
  pub with_half_pair : stable Markets.half_pair (Some 1 ∷ Some 0 ∷ None ∷ []) ≡ true

-- Somebody blocks each match that fits the unstable market, and all of these matches are here.
pub record NoneStable : Type 0 where
  pub nobody : verdict_of Markets.unstable (None ∷ None ∷ None ∷ []) ≡ Blocks (record { agent = Single 0; option = 0 })
  pub single_first : verdict_of Markets.unstable (Some 0 ∷ None ∷ None ∷ []) ≡ Blocks (record { agent = Couple 0; option = 0 })
  pub single_second : verdict_of Markets.unstable (Some 1 ∷ None ∷ None ∷ []) ≡ Blocks (record { agent = Single 0; option = 0 })
  pub couple_alone : verdict_of Markets.unstable (None ∷ Some 0 ∷ Some 1 ∷ []) ≡ Blocks (record { agent = Single 0; option = 1 })

-- The couple that moved judges with both its members taken out: its own seat is open to its other member.
pub record OwnSeat : Type 0 where
  pub blocks_itself : verdict_of Markets.own_seat (None ∷ Some 1 ∷ Some 2 ∷ []) ≡ Blocks (record { agent = Couple 0; option = 0 })

-- Every market of the examples is well formed, those of the examples of files included.
pub record AllWellFormed : Type 0 where
  pub crossed : is_well_formed Markets.crossed ≡ true
  pub chain : is_well_formed Markets.chain ≡ true
  pub closed : is_well_formed Markets.closed ≡ true
  pub one_sided : is_well_formed Markets.one_sided ≡ true
  pub two_posts : is_well_formed Markets.two_posts ≡ true
  pub single_between : is_well_formed Markets.single_between ≡ true
  pub single_last : is_well_formed Markets.single_last ≡ true
  pub unstable : is_well_formed Markets.unstable ≡ true
  pub single_elsewhere : is_well_formed Markets.single_elsewhere ≡ true
  pub half_pair : is_well_formed Markets.half_pair ≡ true
  pub three_couples : is_well_formed Markets.three_couples ≡ true
  pub three_couples_half : is_well_formed Markets.three_couples_half ≡ true
  pub partner_withdraws : is_well_formed Markets.partner_withdraws ≡ true
  pub own_seat : is_well_formed Markets.own_seat ≡ true
  pub chain_without_applicant : is_well_formed Withdrawn.chain_without_applicant ≡ true
  pub unstable_without_couple : is_well_formed Withdrawn.unstable_without_couple ≡ true
  pub three_couples_without_program : is_well_formed Withdrawn.three_couples_without_program ≡ true
  pub one_applicant : is_well_formed Withdrawn.one_applicant ≡ true
  pub each_member_alone : is_well_formed Withdrawn.each_member_alone ≡ true
  pub one_name_without_program : is_well_formed Withdrawn.one_name_without_program ≡ true
  pub full : is_well_formed Withdrawn.full ≡ true
  pub couple_outside : is_well_formed Markets.couple_outside ≡ true

-- A list with a repeat, and a couple of one member, make no well-formed market.
pub record IllFormed : Type 0 where
  pub repeat : is_well_formed (Markets.market (Markets.one_post (0 ∷ 0 ∷ []) ∷ []) ([] ∷ []) []) ≡ false
  pub one_member : is_well_formed (Markets.market [] ([] ∷ []) (Markets.couple 0 0 [] ∷ [])) ≡ false
