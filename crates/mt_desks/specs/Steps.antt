-- What a step does to the desk, the door and the pass that it is lent, and what its reply shows.
use Rattle.std.specs.Prelude.{◌≡◌, ℕ, ◌+◌, ◌-◌, ◌<◌, Bool, true, false, Some, slice_get, length, take, if◌then◌else◌}
use Rattle.mt_terms.specs.Lists.{has, with_one}
use Rattle.mt_terms.specs.Market.{Market, applicants, program_of, live}
use Rattle.mt_terms.specs.Choice.{choice}
use Rattle.mt_terms.specs.Best.{IsExcluded}
use Rattle.mt_terms.specs.Floor.{Floor, after, reply_of}
use Rattle.mt_terms.specs.declared.events.Event.{Event}
use Rattle.mt_terms.specs.declared.events.Event.TheVariants.{Propose, Notice}
use Rattle.mt_terms.specs.declared.events.Reply.{Reply}
use Rattle.mt_terms.specs.declared.events.Reply.TheVariants.{Kept, KeptInstead, Refused, Noticed, NotDue}
use Rattle.mt_hold.specs.Replies.{reply_to}
use Rattle.mt_desks.specs.Parts.{DeskView, DoorView, AllAboveExcluded, passed_count, received_at, held_at}

-- The desk's next event is about the door's program: its next live entry, or its last one while the
-- applicant is standing there.
pub record IsDue (m : Market) (d : DeskView) (v : DoorView) : Type 0 where
  pub applicant : d.applicant < applicants m
  pub program : v.program < length m.programs
  pub entry : slice_get (live m d.applicant) (passed_count d.made d.standing) ≡ Some v.program

-- the desk after its next event, by the door as it is then
abbrev pub stepped : Market → DeskView → DoorView → DeskView
stepped m d w =
    let standing = held_at m w d.applicant in
    if d.standing then (record d { standing = standing })
    else (record { applicant = d.applicant; made = d.made + 1; standing = standing; credits = d.credits - 1 })

-- a desk's next event: a notice if its applicant stands, and else a proposal
abbrev pub event_of : DeskView → Event
event_of d = if d.standing then (Notice d.applicant) else Propose d.applicant

-- the reply to a desk's next event, by the door as it was before
abbrev pub reply_of_step : Market → DeskView → DoorView → Reply
reply_of_step m d v =
    let set = received_at m v in
    let p = program_of m v.program in
    if d.standing then (if choice p (with_one set d.applicant) d.applicant then NotDue else Noticed) else reply_to p set d.applicant

-- whether a reply to a proposal says that the program holds the applicant
abbrev pub is_kept : Reply → Bool
is_kept Kept = true
is_kept (KeptInstead b) = true
is_kept Refused = false
is_kept Noticed = false
is_kept NotDue = false

-- whom the reply to a proposal to a program shows to be excluded there
abbrev pub ShowsExcluded : Market → ℕ → ℕ → Reply → Type 0
ShowsExcluded m a p Kept = Unit {0}
ShowsExcluded m a p (KeptInstead b) = IsExcluded m b p
ShowsExcluded m a p Refused = IsExcluded m a p
ShowsExcluded m a p Noticed = Unit {0}
ShowsExcluded m a p NotDue = Unit {0}

-- What the reply to an event shows. An applicant that is refused or displaced, or learns that it isn't held,
-- is excluded at the program. If no event is due, all live entries above the program are excluded for the
-- applicant.
abbrev pub Shows : Market → ℕ → ℕ → Reply → Type 0
Shows m a p Kept = Unit {0}
Shows m a p (KeptInstead b) = IsExcluded m b p
Shows m a p Refused = IsExcluded m a p
Shows m a p Noticed = IsExcluded m a p
Shows m a p NotDue = AllAboveExcluded m a p

-- a floor has this desk and this door
pub record HasParts (m : Market) (d : DeskView) (v : DoorView) (f : Floor) : Type 0 where
  pub made : f.made d.applicant ≡ d.made
  pub standing : f.standing d.applicant ≡ d.standing
  pub received : (b : ℕ) → f.received v.program b ≡ received_at m v b

-- the door has received the applicant exactly if its program is among those that the desk has proposed to
abbrev pub IsInStep : Market → DeskView → DoorView → Type 0
IsInStep m d v = received_at m v d.applicant ≡ has (take d.made (live m d.applicant)) v.program

-- on a floor that has the parts as they were, the event leads to one that has them as they are, with this reply
pub record IsAsApply (m : Market) (d e : DeskView) (w : DoorView) (f : Floor) (answer : Reply) : Type 0 where
  pub parts : HasParts m e w (after m f (event_of d))
  pub reply : answer ≡ reply_of m f (event_of d)
