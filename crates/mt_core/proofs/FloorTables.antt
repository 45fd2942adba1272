-- What tables say of a floor, and how a proposal changes both.
use Rattle.std.proofs.Common.{◌≡◌, ◌≢◌, ◌==◌, ℕ, ◌+◌, ◌<◌, List, Bool, true, false, not, ◌&&◌, Option, Some, None, IsTrue, length, get_or, set, refl, ap, ◌∙◌, inl, inr, arith, eq-eqb, ne_eqb, get_or-set_same, get_or-set_other, length-set, cond}
use Rattle.std.specs.List.{position}
use Rattle.std.specs.Option.{option_map_or, is_some}
use Rattle.std.proofs.Math.Path.{fun_ext}
use Rattle.std.proofs.lemmas.Bool.{cases_eq, false≢true}
use Rattle.mt_terms.specs.Lists.{has, is_distinct, with_one, without, count_below}
use Rattle.mt_terms.specs.Market.{Market, Program, program_of, applicants}
use Rattle.mt_terms.specs.Choice.{choice}
use Rattle.mt_terms.specs.WellFormed.{IsWellFormed}
use Rattle.mt_terms.specs.Floor as model
use Rattle.mt_terms.specs.Floor.{Floor, proposed_at, receives_one}
use Rattle.mt_hold.specs.Holding.{Holding, ranks, has_received, received_count, held, opened, receive, received_from}
use Rattle.mt_hold.specs.Laws.{IsHoldingOf}
use Rattle.mt_hold.proofs.Lists.{held_is_choice, receive_adds_one, count_is_size}
use Rattle.mt_ranks.specs.Ranked.{IsRank, rank_of}
use Rattle.mt_ranks.proofs.Positions.{has-position}
use Rattle.mt_core.specs.Floors.{Tables, hold_of, received_by, floor_of, IsOpenedWith, entered, with_standing}
use Rattle.mt_hold.proofs.ReceivedFacts.{holding_of_received, received_at_rank, received_more}

-- floors that agree at each number are the same
pub same_floor : (f g : Floor) → ((a : ℕ) → f.made a ≡ g.made a) → ((a : ℕ) → f.standing a ≡ g.standing a) → ((p a : ℕ) → f.received p a ≡ g.received p a) → f ≡ g
same_floor f g makes stands receives =
    ap {B = Floor} (λ x. record { made = x; standing = f.standing; received = f.received }) (fun_ext makes)
    ∙ ap {B = Floor} (λ x. record { made = g.made; standing = x; received = f.received }) (fun_ext stands)
    ∙ ap {B = Floor} (λ x. record { made = g.made; standing = g.standing; received = x }) (fun_ext (λ p. fun_ext (receives p)))

-- what tables say of an applicant
pub made_of : (m : Market) (t : Tables) (a : ℕ) → (floor_of m t).made a ≡ get_or t.made a 0
unfolding floor_of
made_of m t a = refl

pub standing_of : (m : Market) (t : Tables) (a : ℕ) → (floor_of m t).standing a ≡ get_or t.standing a false
unfolding floor_of
standing_of m t a = refl

-- a program's holding is its holding on the floor
pub is_holding_of : (m : Market) (t : Tables) (p : ℕ) → IsTrue (is_distinct (program_of m p).ranking) → IsOpenedWith m t
    → IsHoldingOf (program_of m p) ((floor_of m t).received p) (hold_of t p)
unfolding floor_of
is_holding_of m t p d o = holding_of_received (program_of m p) (hold_of t p) d (o.quotas p) (o.lists p)

-- whom a program has received is on its list
pub received_is_listed : (p : Program) (h : Holding) (a : ℕ) → IsTrue (received_from p h a) → IsTrue (has p.ranking a)
received_is_listed p h a on = by_cases (position (λ x. x == a) p.ranking) refl on
  where
    by_cases : (o : Option ℕ) → position (λ x. x == a) p.ranking ≡ o → IsTrue (option_map_or (has_received h) o false) → IsTrue (has p.ranking a)
    by_cases None e f = absurd (false≢true f)
    by_cases (Some k) e f = has-position p.ranking a ∙ ap is_some e

received_listed : (m : Market) (t : Tables) (p a : ℕ) → IsTrue ((floor_of m t).received p a) → IsTrue (has (program_of m p).ranking a)
unfolding floor_of
received_listed m t p a on = received_is_listed (program_of m p) (hold_of t p) a on

-- a program's holding counts whom it has received
pub count_is : (m : Market) → IsWellFormed m → (t : Tables) → IsOpenedWith m t → (p : ℕ) → received_count (hold_of t p) ≡ count_below ((floor_of m t).received p) (applicants m)
count_is m wf t o p =
    count_is_size (program_of m p) ((floor_of m t).received p) (hold_of t p) (applicants m) (wf.rankings_distinct p) (is_holding_of m t p (wf.rankings_distinct p) o)
    (received_listed m t p) (λ a on. wf.rankings_within p a (received_listed m t p a on))

-- a rank is held if and only if the applicant that has it is
pub held_by_rank : (m : Market) (t : Tables) (p a r : ℕ) → IsTrue (is_distinct (program_of m p).ranking) → IsOpenedWith m t
    → IsRank (program_of m p).ranking a r → held (hold_of t p) r ≡ model.held_set m (floor_of m t) p a
held_by_rank m t p a r d o is =
    held_is_choice (program_of m p) ((floor_of m t).received p) (hold_of t p) d (is_holding_of m t p d o) r is.within
    ∙ ap (choice (program_of m p) ((floor_of m t).received p)) is.stands

-- a rank is received on the floor if and only if the applicant that has it is
pub received_by_rank : (m : Market) (t : Tables) (p a r : ℕ) → IsRank (program_of m p).ranking a r → (floor_of m t).received p a ≡ has_received (hold_of t p) r
unfolding floor_of
received_by_rank m t p a r is = received_at_rank (program_of m p) (hold_of t p) a r is.found

-- the holding of a program after a proposal there, and of another one
hold_there : (t : Tables) (a p r : ℕ) → p < length t.holds → hold_of (entered t a p r) p ≡ receive (hold_of t p) r
hold_there t a p r within = get_or-set_same t.holds p (receive (hold_of t p) r) (opened 0 0) within

hold_elsewhere : (t : Tables) (a p q r : ℕ) → q ≢ p → hold_of (entered t a p r) q ≡ hold_of t q
hold_elsewhere t a p q r other = get_or-set_other t.holds p q (receive (hold_of t p) r) (opened 0 0) other

-- what is so of the program's new holding and of the others' old ones is so of each one's holding
hold_cases : (t : Tables) (a p r : ℕ) → p < length t.holds → (P : ℕ → Holding → Type 0) → P p (receive (hold_of t p) r) → ((q : ℕ) → q ≢ p → P q (hold_of t q))
    → (q : ℕ) → P q (hold_of (entered t a p r) q)
hold_cases t a p r within P there others q =
    elim (cases_eq q p) [
      | inl same ↦ rw (same, hold_there t a p r within) there
      | inr other ↦ rw (hold_elsewhere t a p q r other) (others q other)
    ]

-- a proposal keeps tables opened
pub entered_opened : (m : Market) (t : Tables) (a p r : ℕ) → p < length t.holds → IsOpenedWith m t → IsOpenedWith m (entered t a p r)
entered_opened m t a p r within o = record {
  made = length-set t.made a (get_or t.made a 0 + 1) ∙ o.made;
  standing = length-set t.standing a (held (receive (hold_of t p) r) r) ∙ o.standing;
  holds = length-set t.holds p (receive (hold_of t p) r) ∙ o.holds;
  quotas = hold_cases t a p r within (λ q h. h.quota ≡ (program_of m q).quota) (o.quotas p) (λ q other. o.quotas q);
  lists = hold_cases t a p r within (λ q h. ranks h ≡ length (program_of m q).ranking) (length-set (hold_of t p).received r true ∙ o.lists p) (λ q other. o.lists q);
}

-- an element of a list after a write of one
set_cases : {X : Type 0} (xs : List X) (i : ℕ) (y d : X) → i < length xs → (k : ℕ) → get_or (set xs i y) k d ≡ cond (k == i) y (get_or xs k d)
set_cases xs i y d within k =
    elim (cases_eq k i) [
      | inl same ↦ rw (same, eq-eqb i i refl) (get_or-set_same xs i y d within)
      | inr other ↦ rw (ne_eqb k i other) (get_or-set_other xs i k y d other)
    ]

-- A proposal that can be made: the applicant and the program are in the market, and the applicant has this rank
-- on the program's list.
pub record CanEnter (m : Market) (a p r : ℕ) : Type 0 where
  pub applicant : a < applicants m
  pub program : p < length m.programs
  pub distinct : IsTrue (is_distinct (program_of m p).ranking)
  pub is_rank : IsRank (program_of m p).ranking a r

-- after a proposal the applicant's rank is held if and only if the program chooses it
chosen_by_rank : (m : Market) (t : Tables) (a p r : ℕ) → IsOpenedWith m t → CanEnter m a p r
    → held (receive (hold_of t p) r) r ≡ choice (program_of m p) (receives_one (floor_of m t) p a) a
chosen_by_rank m t a p r o can =
    held_is_choice (program_of m p) (with_one ((floor_of m t).received p) (get_or (program_of m p).ranking r 0)) (receive (hold_of t p) r) can.distinct
    (receive_adds_one (program_of m p) ((floor_of m t).received p) (hold_of t p) can.distinct (is_holding_of m t p can.distinct o) r can.is_rank.within) r can.is_rank.within
    ∙ ap (λ b. choice (program_of m p) (with_one ((floor_of m t).received p) b) b) can.is_rank.stands

-- the tables after a proposal show the floor after it
pub entered_floor : (m : Market) (t : Tables) (a p r : ℕ) → IsOpenedWith m t → CanEnter m a p r → floor_of m (entered t a p r) ≡ proposed_at m (floor_of m t) a p
unfolding floor_of
entered_floor m t a p r o can =
    same_floor (floor_of m (entered t a p r)) (proposed_at m (floor_of m t) a p)
    (set_cases t.made a (get_or t.made a 0 + 1) 0 (omega (arith, o.made, can.applicant)))
    (λ b. set_cases t.standing a (held (receive (hold_of t p) r) r) false (omega (arith, o.standing, can.applicant)) b
    ∙ ap (λ x. cond (b == a) x (get_or t.standing b false)) (chosen_by_rank m t a p r o can))
    (λ q b.
    hold_cases t a p r (omega (arith, o.holds, can.program))
    (λ q h. option_map_or (has_received h) (rank_of m q b) false ≡ cond (q == p) (receives_one (floor_of m t) p a) (received_by m t q) b)
    (rw (eq-eqb p p refl) (received_more (program_of m p) (hold_of t p) a r (omega (arith, o.lists p, can.is_rank.within)) can.is_rank.found b))
    (λ q other. rw (ne_eqb q p other) refl) q)

-- the tables after a notice show the floor after it
pub unseated_floor : (m : Market) (t : Tables) (a : ℕ) → IsOpenedWith m t → a < applicants m
    → floor_of m (with_standing t a false) ≡ record (floor_of m t) { standing = without (floor_of m t).standing a }
unfolding floor_of
unseated_floor m t a o low =
    same_floor (floor_of m (with_standing t a false)) (record (floor_of m t) { standing = without (floor_of m t).standing a })
    (λ b. refl)
    (λ b. set_cases t.standing a false false (omega (arith, o.standing)) b ∙ by_test (b == a) (get_or t.standing b false))
    (λ q b. refl)
  where
    by_test : (x y : Bool) → cond x false y ≡ (not x && y)
    by_test true y = refl
    by_test false y = refl
