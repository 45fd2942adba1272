-- What the explanations say of small markets and their matches.
use Rattle.std.specs.Prelude.{◌≡◌, ℕ, false, true, [], ◌∷◌, Some, None}
use Rattle.mt_terms.specs.Examples.Markets
use Rattle.mt_terms.specs.declared.numbers.Agent.TheVariants.{Couple, Single}
use Rattle.mt_explain.specs.Lines.{explanation, has_open_option}
use Rattle.mt_verify.specs.Held.{held_option}
use Rattle.mt_explain.specs.declared.line.Line.{Line}

-- a line of a program that lists the member
abbrev pub listed_line : ℕ → ℕ → ℕ → ℕ → ℕ → ℕ → Line
listed_line option program member quota rank ahead =
    record { option = option; program = program; member = member; quota = quota; prospect = Some (record { rank = rank; ahead = ahead }) }

-- a line of a program that doesn't
abbrev pub unlisted_line : ℕ → ℕ → ℕ → ℕ → Line
unlisted_line option program member quota =
    record { option = option; program = program; member = member; quota = quota; prospect = None }

-- Two posts are full for the applicant whom the program ranks last, and the others have their first wish.
pub record TwoPosts : Type 0 where
  pub last : explanation Markets.two_posts (Some 0 ∷ None ∷ Some 0 ∷ []) (Single 1) ≡ listed_line 0 0 1 2 2 2 ∷ []
  pub first : explanation Markets.two_posts (Some 0 ∷ None ∷ Some 0 ∷ []) (Single 0) ≡ []
  pub has_first : held_option Markets.two_posts (Some 0 ∷ None ∷ Some 0 ∷ []) (Single 0) ≡ Some 0
  pub has_none : held_option Markets.two_posts (Some 0 ∷ None ∷ Some 0 ∷ []) (Single 1) ≡ None

-- Of a couple that wants one program twice, one member would be in and the other is behind its partner and a single.
pub record SingleBetween : Type 0 where
  pub couple : explanation Markets.single_between (Some 0 ∷ None ∷ None ∷ []) (Couple 0) ≡ listed_line 0 0 1 2 0 0 ∷ listed_line 0 0 2 2 2 2 ∷ []
  pub none_open : has_open_option (explanation Markets.single_between (Some 0 ∷ None ∷ None ∷ []) (Couple 0)) ≡ false

-- A program that doesn't list an applicant tells it so.
pub record OneSided : Type 0 where
  pub first : explanation Markets.one_sided (None ∷ None ∷ []) (Single 0) ≡ unlisted_line 0 1 0 1 ∷ []
  pub second : explanation Markets.one_sided (None ∷ None ∷ []) (Single 1) ≡ unlisted_line 0 0 1 1 ∷ []

-- The couple's first member leaves its post at one program before its second member is judged there: the post is open,
-- and the option blocks.
pub record OwnSeat : Type 0 where
  pub lines : explanation Markets.own_seat (None ∷ Some 1 ∷ Some 2 ∷ []) (Couple 0) ≡ listed_line 0 0 1 1 0 0 ∷ listed_line 0 1 2 1 2 0 ∷ []
  pub is_open : has_open_option (explanation Markets.own_seat (None ∷ Some 1 ∷ Some 2 ∷ []) (Couple 0)) ≡ true

-- A pair with one member unplaced has one line.
pub record HalfPair : Type 0 where
  pub couple : explanation Markets.half_pair (Some 1 ∷ None ∷ None ∷ []) (Couple 0)
      ≡ listed_line 0 0 1 1 0 0 ∷ listed_line 0 1 2 1 1 1 ∷ listed_line 1 0 1 1 0 0 ∷ []
  pub held : held_option Markets.half_pair (Some 1 ∷ Some 0 ∷ None ∷ []) (Couple 0) ≡ Some 1
