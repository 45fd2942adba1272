-- The laws of floors: what an event keeps, and how many events are due. A strict floor on which no event is due is
-- the best match, however it was reached (McVitie and Wilson 1971).
use Rattle.std.specs.Prelude.{◌≡◌, ◌≢◌, ◌↔◌, ℕ, ◌+◌, ◌*◌, ◌≤◌, Bool, true, false, ◌&&◌, List, [], ◌∷◌, Some, None, IsTrue, IsFalse, if◌then◌else◌}
use Rattle.mt_terms.specs.Lists.{has, count_below}
use Rattle.mt_terms.specs.Market.{Market, live_entries}
use Rattle.mt_terms.specs.Matching.{Places}
use Rattle.mt_terms.specs.Best.{IsExcluded, IsBest}
use Rattle.mt_terms.specs.WellFormed.{IsWellFormed}
use Rattle.mt_terms.specs.Floor.{Floor, IsResult, result_of, proposals_made, HasProposalsOf, EndAlike, passed_programs, IsRecorded, IsLegal, IsStrict, opening, is_due, is_quiet, after, after_all, reply_of, due_count}
use Rattle.mt_terms.specs.Examples.Markets.{chain}
use Rattle.mt_terms.specs.Examples.Events.{by_wishes, from_the_last}
use Rattle.mt_terms.specs.declared.events.Event.{Event}
use Rattle.mt_terms.specs.declared.events.Event.TheVariants.{Propose, Notice}
use Rattle.mt_terms.specs.declared.events.Reply.TheVariants.{NotDue}

-- a match is the result of a floor exactly if it is the one that `result_of` gives
abbrev pub ResultOfFloor : Type 0
ResultOfFloor = (m : Market) (f : Floor) (places : Places) → IsResult m f places ↔ (places ≡ result_of m f)

-- the opening floor is strict, and so legal and recorded
abbrev pub OpeningIsStrict : Type 0
OpeningIsStrict = (m : Market) → IsStrict m opening

-- the third clause of a legal floor follows from the first two
abbrev pub LegalFromPassed : Type 0
LegalFromPassed =
    (m : Market) → IsWellFormed m → (f : Floor) → IsRecorded m f
    → ((a p : ℕ) → IsTrue (has (passed_programs m f a) p) → IsExcluded m a p) → IsLegal m f

-- each event, and so each list of events, keeps a floor recorded, legal and strict
abbrev pub EventKeepsRecorded : Type 0
EventKeepsRecorded = (m : Market) (f : Floor) (e : Event) → IsRecorded m f → IsRecorded m (after m f e)

abbrev pub EventKeepsLegal : Type 0
EventKeepsLegal = (m : Market) → IsWellFormed m → (f : Floor) (e : Event) → IsLegal m f → IsLegal m (after m f e)

abbrev pub EventKeepsStrict : Type 0
EventKeepsStrict = (m : Market) → IsWellFormed m → (f : Floor) (e : Event) → IsStrict m f → IsStrict m (after m f e)

abbrev pub EventsKeepRecorded : Type 0
EventsKeepRecorded = (m : Market) (f : Floor) (es : List Event) → IsRecorded m f → IsRecorded m (after_all m f es)

abbrev pub EventsKeepLegal : Type 0
EventsKeepLegal = (m : Market) → IsWellFormed m → (f : Floor) (es : List Event) → IsLegal m f → IsLegal m (after_all m f es)

abbrev pub EventsKeepStrict : Type 0
EventsKeepStrict = (m : Market) → IsWellFormed m → (f : Floor) (es : List Event) → IsStrict m f → IsStrict m (after_all m f es)

-- an event that isn't due changes nothing, and the reply says that it isn't due
abbrev pub EventNotDue : Type 0
EventNotDue = (m : Market) (f : Floor) (e : Event) → IsFalse (is_due m f e) → (after m f e ≡ f) × (reply_of m f e ≡ NotDue)

-- the reply to an event that is due is another one
abbrev pub EventDue : Type 0
EventDue = (m : Market) (f : Floor) (e : Event) → IsTrue (is_due m f e) → reply_of m f e ≢ NotDue

-- no list of events has more due ones than twice the live entries
abbrev pub DueAtMost : Type 0
DueAtMost = (m : Market) (f : Floor) → IsRecorded m f → (es : List Event) → due_count m f es ≤ 2 * live_entries m

-- from each recorded floor, some list of events ends on a floor on which no event is due
abbrev pub QuietIsReached : Type 0
QuietIsReached = (m : Market) (f : Floor) → IsRecorded m f → (es : List Event) × IsTrue (is_quiet m (after_all m f es))

-- whether an event is a proposal
abbrev pub is_proposal : Event → Bool
is_proposal (Propose a) = true
is_proposal (Notice a) = false

-- how many of the events, in order, were due proposals
abbrev pub due_proposals : Market → Floor → List Event → ℕ
due_proposals m f [] = 0
due_proposals m f (e ∷ es) = (if is_due m f e && is_proposal e then 1 else 0) + due_proposals m (after m f e) es

-- the number of proposals made rises by the due proposals
abbrev pub DueProposalsAreMade : Type 0
DueProposalsAreMade =
    (m : Market) (f : Floor) → IsRecorded m f → (es : List Event)
    → proposals_made m (after_all m f es) ≡ due_proposals m f es + proposals_made m f

-- no more proposals are made than there are live entries
abbrev pub MadeAtMost : Type 0
MadeAtMost = (m : Market) (f : Floor) → IsRecorded m f → proposals_made m f ≤ live_entries m

-- a strict floor on which no event is due has the best match as its result
abbrev pub StrictBest : Type 0
StrictBest =
    (m : Market) → IsWellFormed m → (f : Floor) → IsStrict m f → IsTrue (is_quiet m f)
    → (places : Places) → IsResult m f places → IsBest m places

-- The premises of that law, together. A strict floor is legal, so they are premises of the law of legal floors too.
pub record HasStrictEnd (m : Market) (f : Floor) (places : Places) : Type 0 where
  pub well_formed : IsWellFormed m
  pub strict : IsStrict m f
  pub quiet : IsTrue (is_quiet m f)
  pub result : IsResult m f places

-- An example: after the events of the rejection chain its floor meets them, with the chain's stable match.
abbrev pub ChainHasStrictEnd : Type 0
ChainHasStrictEnd = HasStrictEnd chain (after_all chain opening by_wishes) (Some 1 ∷ Some 0 ∷ None ∷ [])

-- there is a best match
abbrev pub BestExists : Type 0
BestExists = (m : Market) → IsWellFormed m → (places : Places) × IsBest m places

-- on a floor on which no event is due, the proposals are those of its result
abbrev pub QuietCounts : Type 0
QuietCounts =
    (m : Market) → IsWellFormed m → (f : Floor) → IsRecorded m f → IsTrue (is_quiet m f)
    → (places : Places) → IsResult m f places → HasProposalsOf m f places

-- any two lists of events from the opening floor until no event is due end alike
abbrev pub OrderFree : Type 0
OrderFree =
    (m : Market) → IsWellFormed m → (es fs : List Event)
    → IsTrue (is_quiet m (after_all m opening es)) → IsTrue (is_quiet m (after_all m opening fs))
    → EndAlike m (after_all m opening es) (after_all m opening fs)

-- An example: two lists of events in the rejection chain.
pub record ChainInTwoOrders : Type 0 where
  pub wishes_quiet : IsTrue (is_quiet chain (after_all chain opening by_wishes))
  pub last_quiet : IsTrue (is_quiet chain (after_all chain opening from_the_last))
  pub wishes_result : result_of chain (after_all chain opening by_wishes) ≡ Some 1 ∷ Some 0 ∷ None ∷ []
  pub last_result : result_of chain (after_all chain opening from_the_last) ≡ Some 1 ∷ Some 0 ∷ None ∷ []
  pub received_by_first : count_below ((after_all chain opening from_the_last).received 0) 3 ≡ 3
  pub received_by_second : count_below ((after_all chain opening from_the_last).received 1) 3 ≡ 2
