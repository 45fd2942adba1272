-- What it means that events led from one floor to another, and that applicants have no event left.
use Rattle.std.specs.Prelude.{◌≡◌, ◌≢◌, ℕ, ◌<◌, List, IsTrue, IsFalse}
use Rattle.mt_terms.specs.Market.{Market}
use Rattle.mt_terms.specs.Floor.{Floor, held_set, is_settled, after, after_all, reply_of}
use Rattle.mt_floor_laws.specs.Floors.{due_proposals}
use Rattle.mt_terms.specs.declared.events.Event.{Event}
use Rattle.mt_terms.specs.declared.events.Event.TheVariants.{Propose, Notice}
use Rattle.mt_terms.specs.declared.events.Reply.{Reply}
use Rattle.mt_terms.specs.declared.events.Reply.TheVariants.{KeptInstead}

-- Events lead from one floor to another, and this many of them are proposals that are due.
pub record IsReached (m : Market) (old new : Floor) (proposals : ℕ) : Type 0 where
  pub events : List Event
  pub floor : new ≡ after_all m old events
  pub count : proposals ≡ due_proposals m old events

-- at most one applicant was displaced, the one that the reply names
abbrev pub NamesDisplaced : Market → Floor → Floor → Reply → Type 0
NamesDisplaced m old new answer =
    (b p : ℕ) → IsTrue (held_set m old p b) → IsFalse (held_set m new p b) → answer ≡ KeptInstead b

-- An applicant's notice and then its proposal, each if it is due, with the reply to the proposal. At most one
-- applicant was displaced, the one that the reply names.
pub record IsStep (m : Market) (old new : Floor) (a : ℕ) (answer : Reply) : Type 0 where
  pub floor : new ≡ after m (after m old (Notice a)) (Propose a)
  pub reply : answer ≡ reply_of m (after m old (Notice a)) (Propose a)
  pub displaced : NamesDisplaced m old new answer

-- no event is due for any applicant below n
abbrev pub AreSettled : Market → Floor → ℕ → Type 0
AreSettled m f n = (a : ℕ) → a < n → IsTrue (is_settled m f a)

-- the same of all of them but one
abbrev pub AreSettledBut : Market → Floor → ℕ → ℕ → Type 0
AreSettledBut m f n b = (a : ℕ) → a < n → a ≢ b → IsTrue (is_settled m f a)
