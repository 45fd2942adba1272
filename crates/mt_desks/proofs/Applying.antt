-- A step is an event of every floor that has its parts and is in step with them.
use Rattle.std.proofs.Common.{◌≡◌, ◌==◌, ◌||◌, ◌&&◌, not, ℕ, suc, ◌+◌, ◌-◌, ◌<◌, Bool, true, false, Option, Some, None, if◌then◌else◌, slice_get, take, refl, sym, ap, ap₂, ◌∙◌, subst, arith, eq-eqb}
use Rattle.std.specs.List.{find}
use Rattle.std.proofs.Math.Path.{fun_ext}
use Rattle.std.proofs.lemmas.Bool.{eqb-true, or_right}
use Rattle.std.proofs.lemmas.Bool.Decides.{nat_tests}
use Rattle.mt_terms.specs.Lists.{Set, has, with_one, without}
use Rattle.mt_terms.specs.Market.{Market, Program, program_of, live}
use Rattle.mt_terms.specs.Choice.{choice}
use Rattle.mt_terms.specs.Floor.{Floor, after, after_proposal, kept_reply, proposed_at, receives_one, next_entry, last_proposed_to, is_due, is_held_by, reply_of, reply_of_proposal}
use Rattle.mt_terms.specs.declared.events.Event.TheVariants.{Propose, Notice}
use Rattle.mt_terms.specs.declared.events.Reply.{Reply}
use Rattle.mt_terms.specs.declared.events.Reply.TheVariants.{Noticed, NotDue, Refused}
use Rattle.mt_floor_laws.proofs.FloorLists.{has-take-suc}
use Rattle.mt_hold.specs.Replies.{reply_to}
use Rattle.mt_desks.specs.Parts.{DeskView, DoorView, passed_count, received_at, held_at}
use Rattle.mt_desks.specs.Steps.{HasParts, IsAsApply, IsDue, IsInStep, event_of, is_kept, reply_of_step, stepped}

-- the door has received the desk's applicant too, and nobody else has come to it
abbrev pub Receives : Market → DeskView → DoorView → DoorView → Type 0
Receives m d v w = (b : ℕ) → received_at m w b ≡ ((b == d.applicant) || received_at m v b)

-- as one set
set_is : (m : Market) (d : DeskView) (v w : DoorView) → Receives m d v w → with_one (received_at m v) d.applicant ≡ received_at m w
set_is m d v w got = fun_ext (λ b. sym (got b))

-- the floor's program has received whom the door has
floor_set : (m : Market) (d : DeskView) (v : DoorView) (f : Floor) → HasParts m d v f → f.received v.program ≡ received_at m v
floor_set m d v f parts = fun_ext parts.received

-- after a proposal, too
set_after : (m : Market) (d : DeskView) (v w : DoorView) (f : Floor) → Receives m d v w → HasParts m d v f → receives_one f v.program d.applicant ≡ received_at m w
set_after m d v w f got parts = ap (λ s. with_one s d.applicant) (floor_set m d v f parts) ∙ set_is m d v w got

-- an applicant that wasn't refused is held
pub stands_if_kept : (p : Program) (set : Set) (a : ℕ) (answer : Reply) (s : Bool) → answer ≡ reply_to p set a → (answer ≡ Refused → s ≡ false) → ((answer ≡ Refused → ⊥) → s ≡ true) → s ≡ is_kept answer
stands_if_kept p set a answer s replied refused taken = by (choice p (with_one set a) a) (find (λ b. choice p set b && not (choice p (with_one set a) b)) p.ranking) replied
  where
    differs : (o : Option ℕ) → kept_reply o ≡ Refused → ⊥
    differs None e = cc
    differs (Some b) e = cc

    kept : (o : Option ℕ) → is_kept (kept_reply o) ≡ true
    kept None = refl
    kept (Some b) = refl

    by : (b : Bool) (o : Option ℕ) → answer ≡ (if b then kept_reply o else Refused) → s ≡ is_kept answer
    by true o e = taken (λ r. differs o (sym e ∙ r)) ∙ sym (ap is_kept e ∙ kept o)
    by false o e = refused e ∙ sym (ap is_kept e)

-- the desk after a proposal, by its parts
abbrev moved_desk : ℕ → ℕ → Bool → ℕ → DeskView
moved_desk a made standing credits = record { applicant = a; made = made; standing = standing; credits = credits }

pub desk_moves : (m : Market) (i d : DeskView) (w : DoorView) (left : ℕ) (s : Bool) → i ≡ d → d.standing ≡ false → left + 1 ≡ i.credits → s ≡ held_at m w i.applicant
    → moved_desk i.applicant (i.made + 1) s left ≡ stepped m d w
desk_moves m i d w left s same free one held =
    let less : left ≡ i.credits - 1 = omega (arith, one) in
    ap₂ (moved_desk i.applicant (i.made + 1)) held less
    ∙ ap (λ (x : DeskView). moved_desk x.applicant (x.made + 1) (held_at m w x.applicant) (x.credits - 1)) same
    ∙ ap (λ b. if b then (record d { standing = held_at m w d.applicant }) else moved_desk d.applicant (d.made + 1) (held_at m w d.applicant) (d.credits - 1)) (sym free)

pub proposed : (m : Market) (d : DeskView) (v : DoorView) (e : DeskView) (w : DoorView) (f : Floor) (answer : Reply) → d.standing ≡ false → IsDue m d v → e ≡ stepped m d w → w.program ≡ v.program
    → Receives m d v w → answer ≡ reply_of_step m d v → HasParts m d v f → IsAsApply m d e w f answer
proposed m d v e w f answer free due desk same got replied parts = record {
  parts = subst (λ (g : Floor). HasParts m e w g) (sym leads) (subst (λ (x : DeskView). HasParts m x w (proposed_at m f a p)) (sym desk_is) there);
  reply = replied ∙ ap (λ b. if b then (if choice (program_of m p) (with_one (received_at m v) a) a then NotDue else Noticed) else reply_to (program_of m p) (received_at m v) a) free
      ∙ ap (λ s. reply_to (program_of m p) s a) (sym (floor_set m d v f parts)) ∙ ap (reply_of_proposal m f a) (sym next) ∙ ap (reply_of m f) (sym is_event);
}
  where
    a : ℕ
    a = d.applicant

    p : ℕ
    p = v.program

    is_event : event_of d ≡ Propose a
    is_event = ap (λ b. if b then (Notice a) else Propose a) free

    entry : slice_get (live m a) (d.made - 0) ≡ Some p
    entry = subst (λ (b : Bool). slice_get (live m a) (passed_count d.made b) ≡ Some p) free due.entry

    off : d.made ≡ d.made - 0
    off = omega arith

    next : next_entry m f a ≡ Some p
    next = ap (λ b. if b then None else slice_get (live m a) (f.made a)) (parts.standing ∙ free) ∙ ap (slice_get (live m a)) (parts.made ∙ off) ∙ entry

    leads : after m f (event_of d) ≡ proposed_at m f a p
    leads = ap (after m f) is_event ∙ ap (after_proposal m f a) next

    moved : DeskView
    moved = record { applicant = a; made = d.made + 1; standing = held_at m w a; credits = d.credits - 1 }

    desk_is : e ≡ moved
    desk_is = desk ∙ ap (λ b. if b then (record d { standing = held_at m w a }) else moved) free

    held_then : choice (program_of m p) (receives_one f p a) a ≡ held_at m w a
    held_then = ap (λ s. choice (program_of m p) s a) (set_after m d v w f got parts) ∙ ap (λ q. choice (program_of m q) (received_at m w) a) (sym same)

    there : HasParts m moved w (proposed_at m f a p)
    there = record {
      made = ap (λ b. if b then (f.made a + 1) else f.made a) (eq-eqb a a refl) ∙ ap (λ k. k + 1) parts.made;
      standing = ap (λ b. if b then (choice (program_of m p) (receives_one f p a) a) else f.standing a) (eq-eqb a a refl) ∙ held_then;
      received = λ b. ap (λ t. (if t then (receives_one f p a) else f.received w.program) b) (eq-eqb w.program p same) ∙ ap (λ (s : Set). s b) (set_after m d v w f got parts);
    }

-- a door in step has received each applicant that stands there
received_last : (m : Market) (d : DeskView) (v : DoorView) → d.standing ≡ true → IsDue m d v → 0 < d.made → IsInStep m d v → received_at m v d.applicant ≡ true
received_last m d v stands due some in_step =
    let k = d.made - 1 in
    let entry : slice_get (live m d.applicant) k ≡ Some v.program = subst (λ (b : Bool). slice_get (live m d.applicant) (passed_count d.made b) ≡ Some v.program) stands due.entry in
    let last : suc k ≡ d.made = omega (arith, some) in
    in_step ∙ ap (λ n. has (take n (live m d.applicant)) v.program) (sym last) ∙ has-take-suc (live m d.applicant) k v.program v.program entry
    ∙ or_right (has (take k (live m d.applicant)) v.program) (v.program == v.program) (eq-eqb v.program v.program refl)

-- so nothing has come to it
set_stays : (m : Market) (d : DeskView) (v w : DoorView) → Receives m d v w → received_at m v d.applicant ≡ true → received_at m w ≡ received_at m v
set_stays m d v w got has_it = fun_ext (λ b. got b ∙ by_test b (b == d.applicant) refl)
  where
    by_test : (b : ℕ) (t : Bool) → (b == d.applicant) ≡ t → (t || received_at m v b) ≡ received_at m v b
    by_test b true e = sym (ap (received_at m v) (eqb-true b d.applicant e) ∙ has_it)
    by_test b false e = refl

-- the floor after a notice that is due if the applicant isn't held
noticed_at : (m : Market) (d : DeskView) (w : DoorView) (f : Floor) (h : Bool) → f.made d.applicant ≡ d.made → f.standing d.applicant ≡ true → ((b : ℕ) → f.received w.program b ≡ received_at m w b)
    → HasParts m (record d { standing = h }) w (if not h then (record f { standing = without f.standing d.applicant }) else f)
noticed_at m d w f true made stands got = record { made = made; standing = stands; received = got }
noticed_at m d w f false made stands got = record { made = made; standing = ap (λ t. not t && f.standing d.applicant) (eq-eqb d.applicant d.applicant refl); received = got }

not_if : (h : Bool) → (if h then NotDue else Noticed) ≡ (if not h then Noticed else NotDue)
not_if true = refl
not_if false = refl

pub noticed : (m : Market) (d : DeskView) (v : DoorView) (e : DeskView) (w : DoorView) (f : Floor) (answer : Reply) → d.standing ≡ true → IsDue m d v → e ≡ stepped m d w → w.program ≡ v.program
    → Receives m d v w → answer ≡ reply_of_step m d v → 0 < d.made → HasParts m d v f → IsInStep m d v → IsAsApply m d e w f answer
noticed m d v e w f answer stands due desk same got replied some parts in_step = record {
  parts = subst (λ (g : Floor). HasParts m e w g) (sym leads) (subst (λ (x : DeskView). HasParts m x w (if not h then (record f { standing = without f.standing a }) else f)) (sym desk_is) there);
  reply = replied ∙ ap (λ b. if b then (if choice (program_of m p) (with_one (received_at m v) a) a then NotDue else Noticed) else reply_to (program_of m p) (received_at m v) a) stands
      ∙ ap (λ b. if b then NotDue else Noticed) held_is ∙ not_if h ∙ ap (λ b. if b then Noticed else NotDue) (sym is_due_is) ∙ ap (reply_of m f) (sym is_event);
}
  where
    a : ℕ
    a = d.applicant

    p : ℕ
    p = v.program

    h : Bool
    h = held_at m w a

    stays : received_at m w ≡ received_at m v
    stays = set_stays m d v w got (received_last m d v stands due some in_step)

    is_event : event_of d ≡ Notice a
    is_event = ap (λ b. if b then (Notice a) else Propose a) stands

    held_is : choice (program_of m p) (with_one (received_at m v) a) a ≡ h
    held_is = ap (λ s. choice (program_of m p) s a) (set_is m d v w got) ∙ ap (λ q. choice (program_of m q) (received_at m w) a) (sym same)

    entry : slice_get (live m a) (d.made - 1) ≡ Some p
    entry = subst (λ (b : Bool). slice_get (live m a) (passed_count d.made b) ≡ Some p) stands due.entry

    made_some : (f.made a == 0) ≡ false
    made_some = let made = parts.made in grind (arith, nat_tests)

    last : last_proposed_to m f a ≡ Some p
    last = ap (λ b. if b then None else slice_get (live m a) (f.made a - 1)) made_some ∙ ap (λ k. slice_get (live m a) (k - 1)) parts.made ∙ entry

    held_on : is_held_by m f a (last_proposed_to m f a) ≡ h
    held_on = ap (is_held_by m f a) last ∙ ap (λ s. choice (program_of m p) s a) (floor_set m d v f parts ∙ sym stays) ∙ ap (λ q. choice (program_of m q) (received_at m w) a) (sym same)

    is_due_is : is_due m f (Notice a) ≡ not h
    is_due_is = ap (λ t. t && not (is_held_by m f a (last_proposed_to m f a))) (parts.standing ∙ stands) ∙ ap not held_on

    leads : after m f (event_of d) ≡ (if not h then (record f { standing = without f.standing a }) else f)
    leads = ap (after m f) is_event ∙ ap (λ b. if b then (record f { standing = without f.standing a }) else f) is_due_is

    desk_is : e ≡ record d { standing = h }
    desk_is = desk ∙ ap (λ b. if b then (record d { standing = h }) else (record { applicant = a; made = d.made + 1; standing = h; credits = d.credits - 1 })) stands

    there : HasParts m (record d { standing = h }) w (if not h then (record f { standing = without f.standing a }) else f)
    there = noticed_at m d w f h parts.made (parts.standing ∙ stands) (λ b. ap (λ q. f.received q b) same ∙ parts.received b ∙ ap (λ (s : Set). s b) (sym stays))
