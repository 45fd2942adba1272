-- What a change of one list or of one quota does to the applicants, in the best match of the singles.
use Rattle.std.specs.Prelude.{◌≡◌, ◌≢◌, ℕ, ◌≤◌, List, [], ◌++◌, is_some, IsTrue}
use Rattle.mt_terms.specs.Market.{Market, program_of, list_of, singles_market}
use Rattle.mt_terms.specs.Matching.{Places, place_of}
use Rattle.mt_terms.specs.Stability.{stable}
use Rattle.mt_terms.specs.Best.{IsBest}
use Rattle.mt_terms.specs.WellFormed.{IsWellFormed}
use Rattle.mt_applicant_laws.specs.Changes.{with_list, with_quota, HasAtLeast}

-- No applicant gains by another list. By its own list it has at least as much in the best match as in the match that
-- is best with the other list. (Dubins and Freedman 1981; Roth 1982)
abbrev pub NoneGainsByAnotherList : Type 0
NoneGainsByAnotherList =
    (m : Market) (a : ℕ) (list : List ℕ) → IsWellFormed m
    → (best other : Places) → IsBest m best → IsBest (with_list m a list) other → HasAtLeast m a best other

-- Nor does any match give it more that is stable with the other list. (Demange, Gale and Sotomayor 1987)
abbrev pub NoStableMatchGivesMore : Type 0
NoStableMatchGivesMore =
    (m : Market) (a : ℕ) (list : List ℕ) → IsWellFormed m
    → (best other : Places) → IsBest m best → IsTrue (stable (singles_market (with_list m a list)) other) → HasAtLeast m a best other

-- More posts at a program hurt no applicant. (After Gale and Sotomayor 1985; Konishi and Ünver 2006)
abbrev pub MorePostsHurtNone : Type 0
MorePostsHurtNone =
    (m : Market) (p quota : ℕ) → IsWellFormed m → (program_of m p).quota ≤ quota
    → (best more : Places) → IsBest m best → IsBest (with_quota m p quota) more → (a : ℕ) → HasAtLeast m a more best

-- If an applicant's list is cut short, no other applicant is hurt. (Gale and Sotomayor 1985)
abbrev pub ShorterListHurtsNoOther : Type 0
ShorterListHurtsNoOther =
    (m : Market) (a : ℕ) (front back : List ℕ) → IsWellFormed m → list_of m a ≡ front ++ back
    → (best fewer : Places) → IsBest m best → IsBest (with_list m a front) fewer
    → (b : ℕ) → b ≢ a → HasAtLeast m b fewer best

-- So no other applicant is hurt if one of them wants nothing any more.
abbrev pub OneLessHurtsNoOther : Type 0
OneLessHurtsNoOther =
    (m : Market) (a : ℕ) → IsWellFormed m
    → (best fewer : Places) → IsBest m best → IsBest (with_list m a []) fewer
    → (b : ℕ) → b ≢ a → HasAtLeast m b fewer best

-- A longer list doesn't hurt. If an applicant is placed, and adds programs at the end of its list, the best match
-- stays best. (After Gale and Sotomayor 1985)
abbrev pub LongerListKeepsBest : Type 0
LongerListKeepsBest =
    (m : Market) (a : ℕ) (more : List ℕ) → IsWellFormed (with_list m a (list_of m a ++ more))
    → (best : Places) → IsBest m best → IsTrue (is_some (place_of best a)) → IsBest (with_list m a (list_of m a ++ more)) best
