-- The laws of a program's choice and of the singles' market. They say whom a program chooses, what stability means,
-- who is excluded where, and that one match at most is best.
use Rattle.std.specs.Prelude.{◌≡◌, ◌⊎◌, ◌↔◌, ℕ, ◌<◌, ◌≤◌, ◌==◌, true, false, [], ◌∷◌, length, IsTrue, IsFalse}
use Rattle.mt_terms.specs.Lists.{Set, has, until, above, with_one}
use Rattle.mt_terms.specs.Market.{Market, Program, applicants, program_of, list_of, live, singles_market}
use Rattle.mt_terms.specs.Matching.{Places, at, filled}
use Rattle.mt_terms.specs.Choice.{choice}
use Rattle.mt_terms.specs.Stability.{stable}
use Rattle.mt_terms.specs.Best.{IsExcluded, IsBest, better_programs}
use Rattle.mt_terms.specs.WellFormed.{IsWellFormed, is_well_formed}
use Rattle.mt_terms.specs.Examples.Markets.{chain, two_posts}

-- A program chooses each applicant that is on its list and of the set, and has fewer than quota of the set above it.
abbrev pub ChoiceInWords : Type 0
ChoiceInWords =
    (p : Program) (set : Set) (a : ℕ)
    → IsTrue (choice p set a) ↔ (IsTrue (has p.ranking a) × IsTrue (set a) × (above set p.ranking a < p.quota))

-- The choice of a set with one member more is of the old choice and that member.
abbrev pub GrowingChoice : Type 0
GrowingChoice = (p : Program) (set : Set) (a b : ℕ) → IsTrue (choice p (with_one set a) b) → (b ≡ a) ⊎ IsTrue (choice p set b)

-- Nobody who fell out comes back as the set grows.
abbrev pub NoneComesBack : Type 0
NoneComesBack =
    (p : Program) (s t : Set) → ((b : ℕ) → IsTrue (s b) → IsTrue (t b))
    → (a : ℕ) → IsTrue (s a) → IsTrue (choice p t a) → IsTrue (choice p s a)

-- A match of the singles is stable if each has one place, on both lists, and programs keep their quotas. Also no
-- program that a single wants more would choose it from those there and the single.
pub record IsStableForSingles (m : Market) (places : Places) : Type 0 where
  pub one_each : length places ≡ applicants m
  pub on_list : (a p : ℕ) → IsTrue (at places p a) → IsTrue (has (list_of m a) p)
  pub listed : (a p : ℕ) → IsTrue (at places p a) → IsTrue (has (program_of m p).ranking a)
  pub within : (p : ℕ) → filled places p ≤ (program_of m p).quota
  pub none_block : (a p : ℕ) → IsTrue (has (better_programs m places a) p) → IsFalse (choice (program_of m p) (with_one (at places p) a) a)

abbrev pub StabilityOfSingles : Type 0
StabilityOfSingles = (m : Market) (places : Places) → IsTrue (stable (singles_market m) places) ↔ IsStableForSingles m places

-- The set has singles that have the program on their lists, and only excluded programs above it on their live lists.
-- Each of them that the program doesn't choose from the set is excluded there.
abbrev pub Exclusion : Type 0
Exclusion =
    (m : Market) → IsWellFormed m → (p : ℕ) (set : Set)
    → ((b : ℕ) → IsTrue (set b) → IsTrue (has (list_of m b) p))
    → ((b q : ℕ) → IsTrue (set b) → IsTrue (has (until (λ x. x == p) (live m b)) q) → IsExcluded m b q)
    → (a : ℕ) → IsTrue (set a) → IsFalse (choice (program_of m p) set a) → IsExcluded m a p

-- An applicant with quota or more of such a set above it on the program's list is excluded there.
abbrev pub ExclusionByQuota : Type 0
ExclusionByQuota =
    (m : Market) → IsWellFormed m → (p : ℕ) (set : Set)
    → ((b : ℕ) → IsTrue (set b) → IsTrue (has (list_of m b) p))
    → ((b q : ℕ) → IsTrue (set b) → IsTrue (has (until (λ x. x == p) (live m b)) q) → IsExcluded m b q)
    → (a : ℕ) → (program_of m p).quota ≤ above set (program_of m p).ranking a → IsExcluded m a p

-- No more than one match is best, since lists are strict.
abbrev pub BestIsUnique : Type 0
BestIsUnique = (m : Market) (s t : Places) → IsBest m s → IsBest m t → s ≡ t

-- No stable match has a single at a program that it wants more than its place in the best match.
abbrev pub BestIsAtLeast : Type 0
BestIsAtLeast =
    (m : Market) (best places : Places) → IsBest m best → IsTrue (stable (singles_market m) places)
    → (a p : ℕ) → IsTrue (at places p a) → IsFalse (has (better_programs m best a) p)

-- The test of a well-formed market tests just that.
abbrev pub WellFormedTest : Type 0
WellFormedTest = (m : Market) → IsTrue (is_well_formed m) ↔ IsWellFormed m

-- Two posts and three applicants: the program chooses both of the first two. The third one, whom the program wants
-- most, displaces the one that it wants least.
pub record ChosenForTwoPosts : Type 0 where
  pub room_for_both : choice (program_of two_posts 0) (has (0 ∷ 1 ∷ [])) 1 ≡ true
  pub newcomer : choice (program_of two_posts 0) (with_one (has (0 ∷ 1 ∷ [])) 2) 2 ≡ true
  pub kept : choice (program_of two_posts 0) (with_one (has (0 ∷ 1 ∷ [])) 2) 0 ≡ true
  pub driven_out : choice (program_of two_posts 0) (with_one (has (0 ∷ 1 ∷ [])) 2) 1 ≡ false

-- In the market of the rejection chain exclusion applies twice. The first program doesn't choose the first applicant
-- from the first and the third. Then the second program doesn't choose the second applicant from the first two.
pub record ExcludedInChain : Type 0 where
  pub well_formed : IsWellFormed chain
  pub first_at_first : IsExcluded chain 0 0
  pub second_at_second : IsExcluded chain 1 1
