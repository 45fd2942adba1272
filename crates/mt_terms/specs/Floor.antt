-- Deferred acceptance one event at a time, in any order (McVitie and Wilson 1971). Each applicant proposes to the
-- programs of its live list, one after another. These are the programs of its list that list it too. Each program
-- holds its choice of all that have proposed to it. A program that displaces an applicant doesn't notify it. The
-- applicant learns of that by an event of its own, a notice, which is this project's own rule.
use Rattle.std.specs.Prelude.{◌≡◌, ℕ, ◌+◌, ◌-◌, ◌<◌, ◌≤◌, Bool, false, not, ◌&&◌, ◌==◌, List, [], ◌∷◌, length, map, take, Option, Some, None, is_some, slice_get, IsTrue, IsFalse, if◌then◌else◌}
use Rattle.std.specs.List.{find, list_all}
use Rattle.mt_terms.specs.Lists.{Set, has, with_one, without, below, total_below, count_below}
use Rattle.mt_terms.specs.Market.{Market, program_of, applicants, live}
use Rattle.mt_terms.specs.Choice.{choice}
use Rattle.mt_terms.specs.Matching.{Places, place_of}
use Rattle.mt_terms.specs.Best.{IsExcluded, IsBest, proposed_to, proposals}
use Rattle.mt_terms.specs.declared.events.Event.{Event}
use Rattle.mt_terms.specs.declared.events.Event.TheVariants.{Propose, Notice}
use Rattle.mt_terms.specs.declared.events.Reply.{Reply}
use Rattle.mt_terms.specs.declared.events.Reply.TheVariants.{Kept, KeptInstead, Refused, Noticed, NotDue}

-- The floor is the state between two events. It has how many proposals each applicant has made, whether it
-- stands, and from whom each program has received a proposal. An applicant stands if it believes that the
-- program to which it proposed last holds it.
pub record Floor : Type 0 where
  pub made : ℕ → ℕ
  pub standing : Set
  pub received : ℕ → Set

-- whom a program holds: its choice of all that have proposed to it
abbrev pub held_set : Market → Floor → ℕ → Set
held_set m f p = choice (program_of m p) (f.received p)

-- the programs that an applicant has proposed to: as many from the front of its live list as it made
-- proposals
abbrev pub proposed_to_on : Market → Floor → ℕ → List ℕ
proposed_to_on m f a = take (f.made a) (live m a)

-- the programs that an applicant has passed: all that it proposed to, but for the last one while it is standing
abbrev pub passed_programs : Market → Floor → ℕ → List ℕ
passed_programs m f a = take (f.made a - (if f.standing a then 1 else 0)) (live m a)

-- the program that an applicant proposed to last: none before its first proposal
abbrev pub last_proposed_to : Market → Floor → ℕ → Option ℕ
last_proposed_to m f a = if f.made a == 0 then None else slice_get (live m a) (f.made a - 1)

-- the program that an applicant would propose to next: none while it stands, and none after its whole
-- live list
abbrev pub next_entry : Market → Floor → ℕ → Option ℕ
next_entry m f a = if f.standing a then None else slice_get (live m a) (f.made a)

-- whether an applicant is held by the program given: never if none is
abbrev pub is_held_by : Market → Floor → ℕ → Option ℕ → Bool
is_held_by m f a None = false
is_held_by m f a (Some p) = held_set m f p a

-- A floor is recorded if its parts agree. Nobody has made more proposals than it has live entries, and an
-- applicant that stands has made one. The programs have received exactly the proposals that were made.
pub record IsRecorded (m : Market) (f : Floor) : Type 0 where
  pub within : (a : ℕ) → f.made a ≤ length (live m a)
  pub proposed : (a : ℕ) → IsTrue (f.standing a) → 0 < f.made a
  pub receives : (a p : ℕ) → f.received p a ≡ has (proposed_to_on m f a) p

-- A floor is legal if each program that an applicant has passed is excluded for it: no stable match of the
-- singles has the applicant there. So is each program that has its proposal and doesn't hold it.
pub record IsLegal (m : Market) (f : Floor) : Type 0 where
  pub recorded : IsRecorded m f
  pub passed_excluded : (a p : ℕ) → IsTrue (has (passed_programs m f a) p) → IsExcluded m a p
  pub refused_excluded : (a p : ℕ) → IsTrue (f.received p a) → IsFalse (held_set m f p a) → IsExcluded m a p

-- A legal floor is strict if no program that an applicant has passed holds it.
pub record IsStrict (m : Market) (f : Floor) : Type 0 where
  pub legal : IsLegal m f
  pub let_go : (a p : ℕ) → IsTrue (has (passed_programs m f a) p) → IsFalse (held_set m f p a)

-- the opening floor: nobody has proposed, and nobody stands
abbrev pub opening : Floor
opening = record { made = λ a. 0; standing = λ a. false; received = λ p a. false }

-- whether an event is due: a proposal if the applicant has a program to propose to next, and a notice if it stands
-- and isn't held
abbrev pub is_due : Market → Floor → Event → Bool
is_due m f (Propose a) = is_some (next_entry m f a)
is_due m f (Notice a) = f.standing a && not (is_held_by m f a (last_proposed_to m f a))

-- whether no event is due for an applicant: it stands and is held, or has used its whole live list
abbrev pub is_settled : Market → Floor → ℕ → Bool
is_settled m f a = if f.standing a then is_held_by m f a (last_proposed_to m f a) else (f.made a == length (live m a))

-- whether no event is due
abbrev pub is_quiet : Market → Floor → Bool
is_quiet m f = list_all (is_settled m f) (below (applicants m))

-- from whom a program has received a proposal, after one more of this applicant
abbrev pub receives_one : Floor → ℕ → ℕ → Set
receives_one f p a = with_one (f.received p) a

-- the floor after an applicant's proposal to a program: the applicant stands if the program chooses it
abbrev pub proposed_at : Market → Floor → ℕ → ℕ → Floor
proposed_at m f a p = record {
  made = λ b. if b == a then (f.made a + 1) else f.made b;
  standing = λ b. if b == a then choice (program_of m p) (receives_one f p a) a else f.standing b;
  received = λ q. if q == p then receives_one f p a else f.received q;
}

-- the floor after a proposal to the program given, if one is
abbrev pub after_proposal : Market → Floor → ℕ → Option ℕ → Floor
after_proposal m f a None = f
after_proposal m f a (Some p) = proposed_at m f a p

-- the floor after an event: one that isn't due changes nothing, and after a notice the applicant stands
-- no longer
abbrev pub after : Market → Floor → Event → Floor
after m f (Propose a) = after_proposal m f a (next_entry m f a)
after m f (Notice a) = if is_due m f (Notice a) then (record f { standing = without f.standing a }) else f

-- the applicant that a program holds no longer after another one's proposal, the first such on its list
abbrev pub dropped : Market → Floor → ℕ → ℕ → Option ℕ
dropped m f p a = find (λ b. held_set m f p b && not (choice (program_of m p) (receives_one f p a) b)) (program_of m p).ranking

-- the reply to an applicant that a program holds now, with the one that it holds no longer, if any
abbrev pub kept_reply : Option ℕ → Reply
kept_reply None = Kept
kept_reply (Some b) = KeptInstead b

-- the reply to a proposal to the program given: if none is, the proposal wasn't due
abbrev pub reply_of_proposal : Market → Floor → ℕ → Option ℕ → Reply
reply_of_proposal m f a None = NotDue
reply_of_proposal m f a (Some p) = if choice (program_of m p) (receives_one f p a) a then kept_reply (dropped m f p a) else Refused

-- the reply to an event
abbrev pub reply_of : Market → Floor → Event → Reply
reply_of m f (Propose a) = reply_of_proposal m f a (next_entry m f a)
reply_of m f (Notice a) = if is_due m f (Notice a) then Noticed else NotDue

-- the floor after events, in order
abbrev pub after_all : Market → Floor → List Event → Floor
after_all m f [] = f
after_all m f (e ∷ es) = after_all m (after m f e) es

-- the replies to events, in order
abbrev pub replies : Market → Floor → List Event → List Reply
replies m f [] = []
replies m f (e ∷ es) = reply_of m f e ∷ replies m (after m f e) es

-- how many of the events, in order, were due
abbrev pub due_count : Market → Floor → List Event → ℕ
due_count m f [] = 0
due_count m f (e ∷ es) = (if is_due m f e then 1 else 0) + due_count m (after m f e) es

-- where a floor has an applicant: at the program that it proposed to last while it stands, and else nowhere
abbrev pub place_on : Market → Floor → ℕ → Option ℕ
place_on m f a = if f.standing a then last_proposed_to m f a else None

-- A match is the result of a floor if it places each applicant where the floor has it.
pub record IsResult (m : Market) (f : Floor) (places : Places) : Type 0 where
  pub one_each : length places ≡ applicants m
  pub each_place : (a : ℕ) → a < applicants m → place_of places a ≡ place_on m f a

-- the result of a floor: the match in which each applicant is where the floor has it
abbrev pub result_of : Market → Floor → Places
result_of m f = map (place_on m f) (below (applicants m))

-- how many proposals have been made
abbrev pub proposals_made : Market → Floor → ℕ
proposals_made m f = total_below f.made (applicants m)

-- The proposals made are those on the way to a match. Each applicant has proposed to the programs of its live
-- list down to its place, or to all of them if it has none. Each program has received as many as that makes.
pub record HasProposalsOf (m : Market) (f : Floor) (places : Places) : Type 0 where
  pub same_tried : (a : ℕ) → proposed_to_on m f a ≡ proposed_to m places a
  pub same_counts : (p : ℕ) → count_below (f.received p) (applicants m) ≡ proposals m places p

-- Two floors end alike if they have the same proposals made and received and the same result. That result is the best
-- match, and the proposals are those on the way to it.
pub record EndAlike (m : Market) (f g : Floor) : Type 0 where
  pub same_made : (a : ℕ) → f.made a ≡ g.made a
  pub same_received : (p a : ℕ) → f.received p a ≡ g.received p a
  pub same_result : result_of m f ≡ result_of m g
  pub best : IsBest m (result_of m f)
  pub on_the_way : HasProposalsOf m f (result_of m f)
