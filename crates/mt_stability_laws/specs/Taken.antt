-- The laws of which options would be taken. They say what the one definition means for a single, for a couple at two
-- programs or at one, and for one member unplaced. The rule for couples is this project's own.
use Rattle.std.specs.Prelude.{◌≡◌, ◌≢◌, ◌↔◌, ℕ, ◌<◌, ◌≤◌, true, false, [], ◌∷◌, length, Some, None, IsTrue, IsFalse}
use Rattle.mt_terms.specs.Lists.{with_one}
use Rattle.mt_terms.specs.Market.{Market, program_of}
use Rattle.mt_terms.specs.Matching.{Places, at, single_placement, couple_placement, unplaced}
use Rattle.mt_terms.specs.Choice.{choice}
use Rattle.mt_terms.specs.Stability.{would_be_taken}
use Rattle.mt_terms.specs.Examples.Markets

-- A program would take a single that it chooses from those there and the single.
abbrev pub SingleTaken : Type 0
SingleTaken =
    (m : Market) (places : Places) (a p : ℕ) → a < length places
    → would_be_taken m places (single_placement a p) ≡ choice (program_of m p) (with_one (at places p) a) a

-- A couple is taken out first: below, the applicants at a program are seen with both its members unplaced.
abbrev pub taken_out : Places → ℕ → ℕ → Places
taken_out places a b = unplaced (a ∷ b ∷ []) places

-- Two programs would take a couple exactly if each chooses its member from those there and the member.
abbrev pub PairTaken : Type 0
PairTaken =
    (m : Market) (places : Places) (a b x y : ℕ) → a < length places → b < length places → a ≢ b → x ≢ y
    → IsTrue (would_be_taken m places (couple_placement a b (Some x, Some y)))
    ↔ (IsTrue (choice (program_of m x) (with_one (at (taken_out places a b) x) a) a)
    × IsTrue (choice (program_of m y) (with_one (at (taken_out places a b) y) b) b))

-- One program would take both members exactly if it chooses both from those there and the two.
abbrev pub SameProgramTaken : Type 0
SameProgramTaken =
    (m : Market) (places : Places) (a b x : ℕ) → a < length places → b < length places
    → IsTrue (would_be_taken m places (couple_placement a b (Some x, Some x)))
    ↔ (IsTrue (choice (program_of m x) (with_one (with_one (at (taken_out places a b) x) a) b) a)
    × IsTrue (choice (program_of m x) (with_one (with_one (at (taken_out places a b) x) a) b) b))

-- A pair with one member unplaced would be taken exactly if the other one's program chooses it.
abbrev pub FirstAloneTaken : Type 0
FirstAloneTaken =
    (m : Market) (places : Places) (a b x : ℕ) → a < length places → b < length places → a ≢ b
    → would_be_taken m places (couple_placement a b (Some x, None)) ≡ choice (program_of m x) (with_one (at (taken_out places a b) x) a) a

abbrev pub SecondAloneTaken : Type 0
SecondAloneTaken =
    (m : Market) (places : Places) (a b y : ℕ) → a < length places → b < length places
    → would_be_taken m places (couple_placement a b (None, Some y)) ≡ choice (program_of m y) (with_one (at (taken_out places a b) y) b) b

-- A pair that names one program twice is never taken at quota 0 or 1.
abbrev pub NeverTwiceAtOne : Type 0
NeverTwiceAtOne =
    (m : Market) (places : Places) (a b x : ℕ) → a ≢ b → (program_of m x).quota ≤ 1
    → IsFalse (would_be_taken m places (couple_placement a b (Some x, Some x)))

-- On the example markets: an option of a single, and options of a couple. The couple's options are two programs, of
-- which it has one seat now, and one program, with room for both or for one alone. They are also one member unplaced,
-- and one program with one post.
pub record TakenInExamples : Type 0 where
  pub single : would_be_taken Markets.crossed (None ∷ Some 0 ∷ []) (single_placement 0 1) ≡ true
  pub pair : would_be_taken Markets.own_seat (None ∷ Some 1 ∷ Some 2 ∷ []) (couple_placement 1 2 (Some 0, Some 1)) ≡ true
  pub same_program : would_be_taken Markets.single_last (Some 0 ∷ None ∷ None ∷ []) (couple_placement 1 2 (Some 0, Some 0)) ≡ true
  pub room_for_one : would_be_taken Markets.single_between (Some 0 ∷ None ∷ None ∷ []) (couple_placement 1 2 (Some 0, Some 0)) ≡ false
  pub first_alone : would_be_taken Markets.half_pair (Some 1 ∷ None ∷ None ∷ []) (couple_placement 1 2 (Some 0, None)) ≡ true
  pub second_alone : would_be_taken Markets.half_pair (Some 1 ∷ None ∷ None ∷ []) (couple_placement 1 2 (None, Some 1)) ≡ false
  pub twice_at_one : would_be_taken Markets.crossed (None ∷ None ∷ []) (couple_placement 0 1 (Some 0, Some 0)) ≡ false
