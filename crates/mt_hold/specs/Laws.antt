-- What a holding by ranks says of a program's own list of applicants.
use Rattle.std.specs.Prelude.{◌≡◌, ℕ, ◌<◌, length, slice_index, IsTrue, false}
use Rattle.mt_terms.specs.Lists.{Set, has, with_one, count, count_below, is_distinct}
use Rattle.mt_terms.specs.Market.{Program}
use Rattle.mt_terms.specs.Choice.{choice}
use Rattle.mt_hold.specs.Holding.{Holding, ranks, has_received, received_count, held, opened, receive}

-- the holding has received just the ranks of the members of the set on the program's list
abbrev pub HasReceived : Program → Set → Holding → Type 0
HasReceived p set h =
    (rank : ℕ) → rank < length p.ranking → has_received h rank ≡ set (slice_index p.ranking rank)

-- The holding is this program's, with this set of applicants received. It has the program's quota and a rank for each
-- applicant on the program's list. It has received just the ranks of the members of the set.
pub record IsHoldingOf (p : Program) (set : Set) (h : Holding) : Type 0 where
  pub quota : h.quota ≡ p.quota
  pub listed : ranks h ≡ length p.ranking
  pub received : HasReceived p set h

-- the holding holds a rank exactly if the program chooses the applicant at that rank from the set
abbrev pub HeldIsChoice : Type 0
HeldIsChoice =
    (p : Program) (set : Set) (h : Holding) → IsTrue (is_distinct p.ranking) → IsHoldingOf p set h
    → (rank : ℕ) → rank < length p.ranking → held h rank ≡ choice p set (slice_index p.ranking rank)

-- a program that has received nobody has the opened holding
abbrev pub OpenedIsEmpty : Type 0
OpenedIsEmpty = (p : Program) → IsHoldingOf p (λ a. false) (opened p.quota (length p.ranking))

-- a proposal from a rank adds the applicant at that rank to the set
abbrev pub ReceiveAddsOne : Type 0
ReceiveAddsOne =
    (p : Program) (set : Set) (h : Holding) → IsTrue (is_distinct p.ranking) → IsHoldingOf p set h
    → (rank : ℕ) → rank < length p.ranking
    → IsHoldingOf p (with_one set (slice_index p.ranking rank)) (receive h rank)

-- as many ranks are received as members of the set are on the program's list
abbrev pub CountIsMembers : Type 0
CountIsMembers =
    (p : Program) (set : Set) (h : Holding) → IsHoldingOf p set h
    → received_count h ≡ count set p.ranking

-- the program lists each member of the set
abbrev pub ListsAll : Program → Set → Type 0
ListsAll p set = (a : ℕ) → IsTrue (set a) → IsTrue (has p.ranking a)

-- each member of the set is below n
abbrev pub AreBelow : ℕ → Set → Type 0
AreBelow n set = (a : ℕ) → IsTrue (set a) → a < n

-- as many ranks are received as the set has members, if all members are on the program's list and below n
abbrev pub CountIsSize : Type 0
CountIsSize =
    (p : Program) (set : Set) (h : Holding) (n : ℕ) → IsTrue (is_distinct p.ranking)
    → IsHoldingOf p set h → ListsAll p set → AreBelow n set → received_count h ≡ count_below set n
