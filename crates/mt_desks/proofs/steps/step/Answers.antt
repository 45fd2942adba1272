use Rattle.std.proofs.Common.{◌≡◌, ◌+◌, ◌<◌, ◌==◌, ◌||◌, ℕ, Bool, false, if◌then◌else◌, Some, slice_get, length, rules, sym, ap, ap₂, ◌∙◌, subst, arith}
use Rattle.mt_terms.specs.Best.{IsExcluded}
use Rattle.mt_terms.specs.Lists.{with_one}
use Rattle.mt_terms.specs.Choice.{choice}
use Rattle.mt_terms.specs.declared.events.Reply.TheVariants.{Refused, Noticed, NotDue}
use Rattle.mt_floor_laws.proofs.FloorEvents.{within_get}
use Rattle.mt_ranks.proofs.LiveMarket.{live_few}
use Rattle.mt_terms.specs.Market.{Market, applicants, live, program_of}
use Rattle.mt_ranks.specs.Ranked.{Ranked, IsRank, ranking_of}
use Rattle.mt_hold.specs.Replies.{reply_to}
use Rattle.mt_desks.specs.Parts.{DeskView, DoorView, IsComer, IsDesk, one_more, passed_count, received_at}
use Rattle.mt_desks.specs.Steps.{IsDue, ShowsExcluded, reply_of_step}
use Rattle.mt_desks.proofs.Applying.{desk_moves, noticed, proposed, stands_if_kept}
use Rattle.mt_desks.proofs.Keeping.{entry_comes, desk_proposes}
use Rattle.mt_desks.proofs.steps.step.Goals as goal

-- what is due if the desk doesn't stand: its next entry, of which there is one, and a credit for it
at_made : (m : Market) (d : DeskView) (v : DoorView) → d.standing ≡ false → IsDue m d v → slice_get (live m d.applicant) d.made ≡ Some v.program
at_made m d v free due =
    let passed : passed_count d.made d.standing ≡ d.made = ap (passed_count d.made) free ∙ omega arith in
    ap (slice_get (live m d.applicant)) (sym passed) ∙ due.entry

made_within : (m : Market) (d : DeskView) (v : DoorView) → d.standing ≡ false → IsDue m d v → d.made < length (live m d.applicant)
made_within m d v free due = within_get (live m d.applicant) d.made v.program (at_made m d v free due)

credit_left : (m : Market) (d : DeskView) → IsDesk m d → d.made < length (live m d.applicant) → 0 < d.credits
credit_left m d keeps within = omega (arith, keeps.left)

same_some : (p q : ℕ) → Some p ≡ Some q → p ≡ q
same_some p q e = cc

reply_where_free : (m : Market) (d : DeskView) (v : DoorView) → d.standing ≡ false → reply_to (program_of m v.program) (received_at m v) d.applicant ≡ reply_of_step m d v
reply_where_free m d v free =
    ap (λ (s : Bool). if s then (if choice (program_of m v.program) (with_one (received_at m v) d.applicant) d.applicant then NotDue else Noticed) else reply_to (program_of m v.program) (received_at m v) d.applicant) (sym free)

pub overflow_add-desk : goal.overflow_add-desk
overflow_add-desk g c =
    let r = c.args.ranks.now in
    let few = live_few r c.entry_at-entry.ensures.ranked c.desk.inside.applicant in
    record { fits = omega (arith, few, within_get (live r.market c.desk.inside.applicant) c.desk.inside.made c.entry_at-entry.result.program c.entry_at-entry.ensures.program) }

pub meet-reply-requires-clause-comer : goal.meet-reply-requires-clause-comer
meet-reply-requires-clause-comer g c =
    let m = g.K.HallName.ranked.market in
    let keeps : IsDesk m c.args.desk.now = subst (λ d. IsDesk m d) c.desk.view_is c.desk.invariant in
    subst (λ (d : DeskView). IsComer m d.applicant c.args.door.now.program) (sym c.desk.view_is) (entry_comes m c.args.desk.now c.args.door.now keeps c.requires.due)

pub invariant_of-desk : goal.invariant_of-desk
invariant_of-desk g c =
    let m = g.K.HallName.ranked.market in
    let p = c.args.door.now.program in
    let keeps : IsDesk m c.args.desk.now = subst (λ d. IsDesk m d) c.desk.view_is c.desk.invariant in
    let one : c.count.new.desk + 1 ≡ c.args.desk.now.credits = c.count.ensures.desk ∙ ap (λ (d : DeskView). d.credits) c.desk.view_is in
    let out : c.ne-desk-inside.result ≡ false → IsExcluded m c.args.desk.now.applicant p = λ e.
    let refused : c.meet-reply.result ≡ Refused = search rules in
    let shown : IsExcluded m c.desk.inside.applicant p = subst (ShowsExcluded m c.desk.inside.applicant p) refused c.meet-reply.ensures.excluded in
    subst (λ (d : DeskView). IsExcluded m d.applicant p) c.desk.view_is shown in
    subst (λ (d : DeskView). IsDesk m (record { applicant = d.applicant; made = d.made + 1; standing = c.ne-desk-inside.result; credits = c.count.new.desk })) (sym c.desk.view_is)
    (desk_proposes m c.args.desk.now p c.count.new.desk c.ne-desk-inside.result keeps (sym c.standing.ensures ∙ c.if-standing.false) c.requires.due.entry one out)

pub entry_at-entry-requires-clause-applicant : goal.entry_at-entry-requires-clause-applicant
entry_at-entry-requires-clause-applicant g c =
    let m = g.K.HallName.ranked.market in
    subst (λ (r : Ranked). c.desk.inside.applicant < applicants r.market) (sym c.requires.ranks) (subst (λ (d : DeskView). d.applicant < applicants m) (sym c.desk.view_is) c.requires.due.applicant)

pub entry_at-entry-requires-clause-place : goal.entry_at-entry-requires-clause-place
entry_at-entry-requires-clause-place g c =
    let m = g.K.HallName.ranked.market in
    subst (λ (r : Ranked). c.desk.inside.made < length (live r.market c.desk.inside.applicant)) (sym c.requires.ranks)
    (subst (λ (d : DeskView). d.made < length (live m d.applicant)) (sym c.desk.view_is) (made_within m c.args.desk.now c.args.door.now (sym c.standing.ensures ∙ c.if-standing.false) c.requires.due))

pub count-requires-clause-any : goal.count-requires-clause-any
count-requires-clause-any g c =
    let m = g.K.HallName.ranked.market in
    let keeps : IsDesk m c.args.desk.now = subst (λ d. IsDesk m d) c.desk.view_is c.desk.invariant in
    subst (λ (d : DeskView). 0 < d.credits) (sym c.desk.view_is) (credit_left m c.args.desk.now keeps (made_within m c.args.desk.now c.args.door.now (sym c.standing.ensures ∙ c.if-standing.false) c.requires.due))

pub count-requires-clause-program : goal.count-requires-clause-program
count-requires-clause-program g c = subst (λ (r : Ranked). c.entry_at-entry.result.program < length r.market.programs) c.requires.ranks c.entry_at-entry.ensures.in_market

pub count-requires-clause-applicant : goal.count-requires-clause-applicant
count-requires-clause-applicant g c =
    let m = g.K.HallName.ranked.market in
    subst (λ (d : DeskView). d.applicant < applicants m) (sym c.desk.view_is) c.requires.due.applicant

pub meet-reply-requires-clause-rank : goal.meet-reply-requires-clause-rank
meet-reply-requires-clause-rank g c =
    let m = g.K.HallName.ranked.market in
    let same : c.entry_at-entry.result.program ≡ c.args.door.now.program =
    same_some _ _ (sym c.entry_at-entry.ensures.program
    ∙ ap (λ (r : Ranked). slice_get (live r.market c.desk.inside.applicant) c.desk.inside.made) c.requires.ranks
    ∙ ap (λ (d : DeskView). slice_get (live m d.applicant) d.made) c.desk.view_is
    ∙ at_made m c.args.desk.now c.args.door.now (sym c.standing.ensures ∙ c.if-standing.false) c.requires.due) in
    subst (λ (p : ℕ). IsRank (ranking_of m p) c.desk.inside.applicant c.entry_at-entry.result.rank) same
    (subst (λ (r : Ranked). IsRank (ranking_of r.market c.entry_at-entry.result.program) c.desk.inside.applicant c.entry_at-entry.result.rank) c.requires.ranks c.entry_at-entry.ensures.rank)

pub returns-clause-received : goal.returns-clause-received
returns-clause-received g c =
    let m = g.K.HallName.ranked.market in
    λ b. c.meet-reply.ensures.received b ∙ ap (λ (d : DeskView). (b == d.applicant) || received_at m c.args.door.now b) c.desk.view_is

pub returns-clause-pass : goal.returns-clause-pass
returns-clause-pass g c =
    let m = g.K.HallName.ranked.market in
    let free : c.args.desk.now.standing ≡ false = sym c.standing.ensures ∙ c.if-standing.false in
    let same : c.entry_at-entry.result.program ≡ c.args.door.now.program =
    same_some _ _ (sym c.entry_at-entry.ensures.program
    ∙ ap (λ (r : Ranked). slice_get (live r.market c.desk.inside.applicant) c.desk.inside.made) c.requires.ranks
    ∙ ap (λ (d : DeskView). slice_get (live m d.applicant) d.made) c.desk.view_is
    ∙ at_made m c.args.desk.now c.args.door.now free c.requires.due) in
    c.count.ensures.pass ∙ ap₂ (λ p a. one_more c.args.pass.now p a) same (ap (λ (d : DeskView). d.applicant) c.desk.view_is)
    ∙ ap (λ (b : Bool). if b then c.args.pass.now else one_more c.args.pass.now c.args.door.now.program c.args.desk.now.applicant) (sym free)

pub returns-clause-reply : goal.returns-clause-reply
returns-clause-reply g c =
    let m = g.K.HallName.ranked.market in
    c.meet-reply.ensures.reply
    ∙ ap (λ (d : DeskView). reply_to (program_of m c.args.door.now.program) (received_at m c.args.door.now) d.applicant) c.desk.view_is
    ∙ reply_where_free m c.args.desk.now c.args.door.now (sym c.standing.ensures ∙ c.if-standing.false)

pub returns-clause-desk : goal.returns-clause-desk
returns-clause-desk g c =
    let m = g.K.HallName.ranked.market in
    let replied = c.meet-reply.ensures.reply in
    let stands = stands_if_kept (program_of m c.args.door.now.program) (received_at m c.args.door.now) c.desk.inside.applicant c.meet-reply.result c.ne-desk-inside.result replied (λ e. search rules) (λ e. search rules) in
    desk_moves m (record { applicant = c.desk.inside.applicant; made = c.desk.inside.made; standing = c.desk.inside.standing; credits = c.desk.inside.credits }) c.args.desk.now c.meet-reply.new.self c.count.new.desk c.ne-desk-inside.result
    c.desk.view_is (sym c.standing.ensures ∙ c.if-standing.false) c.count.ensures.desk (stands ∙ sym c.meet-reply.ensures.held)

pub returns-clause-as_apply : goal.returns-clause-as_apply
returns-clause-as_apply g c f parts in_step =
    proposed g.K.HallName.ranked.market c.args.desk.now c.args.door.now _ c.meet-reply.new.self f c.meet-reply.result (sym c.standing.ensures ∙ c.if-standing.false) c.requires.due
    (returns-clause-desk g c) c.meet-reply.ensures.program (returns-clause-received g c) (returns-clause-reply g c) parts

pub returns-then-standing-clause-as_apply : goal.returns-then-standing-clause-as_apply
returns-then-standing-clause-as_apply g c f parts in_step =
    noticed g.K.HallName.ranked.market c.args.desk.now c.args.door.now c.notice.new.desk c.notice.new.door f c.notice.result (sym c.standing.ensures ∙ c.if-standing.true) c.requires.due
    c.notice.ensures.desk c.notice.ensures.door c.notice.ensures.received c.notice.ensures.reply c.notice.ensures.proposed parts in_step
