-- What a call did to the floor that tables show: old are the tables before it, and new those after it.
use Rattle.std.specs.Prelude.{◌≡◌, ℕ, Bool, List}
use Rattle.mt_terms.specs.Market.{Market}
use Rattle.mt_terms.specs.Matching.{Places}
use Rattle.mt_terms.specs.Floor.{IsLegal, IsStrict, after, after_all, due_count, is_due, result_of}
use Rattle.mt_terms.specs.declared.events.Event.{Event}
use Rattle.mt_terms.specs.declared.events.Reply.{Reply}
use Rattle.mt_core.specs.Floors.{Tables, floor_of}
use Rattle.mt_core.specs.Ends.{IsReached, IsStep, AreSettled, AreSettledBut}

-- the tables show the floor after the event
abbrev pub IsAfter : Market → Tables → Tables → Event → Type 0
IsAfter m old new event = floor_of m new ≡ after m (floor_of m old) event

-- the tables show the floor after the events, in order
abbrev pub IsAfterAll : Market → Tables → Tables → List Event → Type 0
IsAfterAll m old new events = floor_of m new ≡ after_all m (floor_of m old) events

-- a legal floor stays legal
abbrev pub StaysLegal : Market → Tables → Tables → Type 0
StaysLegal m old new = IsLegal m (floor_of m old) → IsLegal m (floor_of m new)

-- a strict floor stays strict
abbrev pub StaysStrict : Market → Tables → Tables → Type 0
StaysStrict m old new = IsStrict m (floor_of m old) → IsStrict m (floor_of m new)

-- events led from one floor to the other, and this many of them were proposals that were due
abbrev pub IsLedOn : Market → Tables → Tables → ℕ → Type 0
IsLedOn m old new proposals = IsReached m (floor_of m old) (floor_of m new) proposals

-- an applicant's notice and then its proposal led there, each if it was due, with this reply
abbrev pub IsOneStepOn : Market → Tables → Tables → ℕ → Reply → Type 0
IsOneStepOn m old new a answer = IsStep m (floor_of m old) (floor_of m new) a answer

-- if an applicant was the only one with events due, none has any
abbrev pub Settles : Market → Tables → Tables → ℕ → Type 0
Settles m old new a =
    (n : ℕ) → AreSettledBut m (floor_of m old) n a → AreSettled m (floor_of m new) n

-- whether an event is due on the floor that tables show
abbrev pub is_due_on : Market → Tables → Event → Bool
is_due_on m t event = is_due m (floor_of m t) event

-- how many of the events, in order, are due from the floor that tables show
abbrev pub due_count_on : Market → Tables → List Event → ℕ
due_count_on m t events = due_count m (floor_of m t) events

-- the result of the floor that tables show
abbrev pub result_on : Market → Tables → Places
result_on m t = result_of m (floor_of m t)
