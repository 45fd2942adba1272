use Rattle.std.proofs.Common.{◌≡◌, ◌==◌, ◌||◌, ◌<◌, length, ℕ, IsTrue, IsFalse, ◌↔◌, if◌then◌else◌, refl, sym, ap, ◌∙◌, subst, arith, get_or}
use Rattle.std.proofs.lemmas.List.{get_or_read}
use Rattle.mt_terms.specs.Market.{program_of}
use Rattle.mt_terms.specs.declared.events.Reply.TheVariants as reply
use Rattle.mt_hold.specs.Holding.{Holding, held}
use Rattle.mt_hold.specs.declared.holding.Taken.TheVariants as taken
use Rattle.mt_ranks.specs.Ranked.{Ranked}
use Rattle.mt_hold.specs.Replies.{reply_from, reply_to}
use Rattle.mt_hold.proofs.ReplyFacts.{IsAnswer, reply_is, held_within}
use Rattle.mt_desks.specs.Parts.{DoorView, IsDoor, received_at, held_at}
use Rattle.mt_desks.specs.Steps.{is_kept, ShowsExcluded}
use Rattle.mt_desks.proofs.Meeting.{comes_as, may_receive, comer_received, door_receives, held_after, shows, stays_received, met_again}
use Rattle.mt_desks.proofs.door.Door.meet.Goals as goal
use Rattle.mt_desks.proofs.door.Door.meet.Goals.{then-holds, else-holds, in-Kept, in-KeptInstead, in-Refused, Joined-holds, Joined-propose}

-- who was received before is answered by whether it is held
again : (g : _) (c : Joined-holds g) → let m = g.K.HallName.ranked.market in let v : DoorView = record { program = c.self.inside.program; holding = c.self.inside.hold } in
    IsTrue (received_at m v c.args.applicant) × (c.if-holds.result ≡ reply_to (program_of m v.program) (received_at m v) c.args.applicant)
again g c =
    let m = g.K.HallName.ranked.market in
    let a = c.args.applicant in
    let v : DoorView = record { program = c.self.inside.program; holding = c.self.inside.hold } in
    let comes = comes_as c.args.ranks.now g.K.HallName.ranked c.requires.ranks c.applicants.ensures.ranked v c.args.self.now c.self.view_is c.self.invariant a c.args.rank c.requires.rank c.requires.comer in
    let kept : c.if-holds.result ≡ (if held v.holding c.args.rank then reply.Kept else reply.Refused) = elim c.if-holds.branch [
      | then-holds w ↦ w.result-is ∙ ap (λ t. if t then reply.Kept else reply.Refused) (sym w.if-holds.true ∙ c.holds.ensures)
      | else-holds w ↦ w.result-is ∙ ap (λ t. if t then reply.Kept else reply.Refused) (sym w.if-holds.false ∙ c.holds.ensures)
    ] in
    met_again m v a c.args.rank comes (sym c.received.ensures ∙ c.if-received.true) c.if-holds.result kept

pub returns-then-received-clause-reply : goal.returns-then-received-clause-reply
returns-then-received-clause-reply g c = (again g c).1 ∙ ap (λ (x : DoorView). reply_to (program_of g.K.HallName.ranked.market x.program) (received_at g.K.HallName.ranked.market x) c.args.applicant) c.self.view_is

pub returns-then-received-clause-held : goal.returns-then-received-clause-held
returns-then-received-clause-held g c =
    let m = g.K.HallName.ranked.market in
    let a = c.args.applicant in
    let v : DoorView = record { program = c.self.inside.program; holding = c.self.inside.hold } in
    let met = again g c in
    subst (λ (x : DoorView). held_at m x a ≡ is_kept c.if-holds.result) c.self.view_is (held_after m v v a refl (stays_received m v a met.0) ∙ ap is_kept (sym met.1))

pub returns-then-received-clause-excluded : goal.returns-then-received-clause-excluded
returns-then-received-clause-excluded g c =
    let m = g.K.HallName.ranked.market in
    let a = c.args.applicant in
    let v : DoorView = record { program = c.self.inside.program; holding = c.self.inside.hold } in
    let comes = comes_as c.args.ranks.now g.K.HallName.ranked c.requires.ranks c.applicants.ensures.ranked v c.args.self.now c.self.view_is c.self.invariant a c.args.rank c.requires.rank c.requires.comer in
    let met = again g c in
    subst (λ (x : DoorView). ShowsExcluded m a x.program c.if-holds.result) c.self.view_is
    (subst (ShowsExcluded m a v.program) (sym met.1) (shows m comes.well_formed v v a comes.door refl (stays_received m v a met.0)))

pub bounds-by_rank-other : goal.bounds-by_rank-other
bounds-by_rank-other g c =
    let m = g.K.HallName.ranked.market in
    let on = ((c.propose.ensures.dropped c.in-KeptInstead.other).0 c.in-KeptInstead.is).0 in
    let ranking = c.by_rank.ensures ∙ ap (λ (r : Ranked). (program_of r.market c.self.inside.program).ranking) c.requires.ranks in
    omega (arith, held_within (program_of m c.self.inside.program) c.self.inside.hold c.in-KeptInstead.other c.self.invariant.listed on, ap length ranking)

-- a proposal is received beside those before it, and answered by what the hold says
received : (g : _) (c : Joined-propose g) → let m = g.K.HallName.ranked.market in let v : DoorView = record { program = c.self.inside.program; holding = c.self.inside.hold } in let w : DoorView = record { program = c.self.inside.program; holding = c.propose.new.self } in
    (b : ℕ) → received_at m w b ≡ ((b == c.args.applicant) || received_at m v b)
received g c b =
    let m = g.K.HallName.ranked.market in
    let a = c.args.applicant in
    let v : DoorView = record { program = c.self.inside.program; holding = c.self.inside.hold } in
    let comes = comes_as c.args.ranks.now g.K.HallName.ranked c.requires.ranks c.applicants.ensures.ranked v c.args.self.now c.self.view_is c.self.invariant a c.args.rank c.requires.rank c.requires.comer in
    ap (λ (h : Holding). received_at m (record { program = c.self.inside.program; holding = h }) b) c.propose.ensures.received ∙ comer_received m v a c.args.rank comes b

is_door : (g : _) (c : Joined-propose g) → IsDoor g.K.HallName.ranked.market (record { program = c.self.inside.program; holding = c.propose.new.self })
is_door g c =
    let m = g.K.HallName.ranked.market in
    let a = c.args.applicant in
    let v : DoorView = record { program = c.self.inside.program; holding = c.self.inside.hold } in
    let comes = comes_as c.args.ranks.now g.K.HallName.ranked c.requires.ranks c.applicants.ensures.ranked v c.args.self.now c.self.view_is c.self.invariant a c.args.rank c.requires.rank c.requires.comer in
    subst (λ (h : Holding). IsDoor m (record { program = c.self.inside.program; holding = h })) (sym c.propose.ensures.received) (door_receives m v a c.args.rank comes)

answered : (g : _) (c : Joined-propose g) → let m = g.K.HallName.ranked.market in let v : DoorView = record { program = c.self.inside.program; holding = c.self.inside.hold } in
    c.match-propose.result ≡ reply_to (program_of m v.program) (received_at m v) c.args.applicant
answered g c =
    let m = g.K.HallName.ranked.market in
    let a = c.args.applicant in
    let v : DoorView = record { program = c.self.inside.program; holding = c.self.inside.hold } in
    let comes = comes_as c.args.ranks.now g.K.HallName.ranked c.requires.ranks c.applicants.ensures.ranked v c.args.self.now c.self.view_is c.self.invariant a c.args.rank c.requires.rank c.requires.comer in
    let p = program_of m v.program in
    let h = c.self.inside.hold in
    let told : IsAnswer h c.args.rank c.propose.result = record {
      refused = subst (λ (x : Holding). (c.propose.result ≡ taken.Refused) ↔ IsFalse (held x c.args.rank)) c.propose.ensures.received c.propose.ensures.refused;
      dropped = λ other. subst (λ (x : Holding). (c.propose.result ≡ taken.KeptInstead other) ↔ (IsTrue (held h other) × IsFalse (held x other))) c.propose.ensures.received (c.propose.ensures.dropped other);
    } in
    let replied : c.match-propose.result ≡ reply_from p.ranking c.propose.result = elim c.match-propose.branch [
      | in-Kept w ↦ w.result-is ∙ ap (reply_from p.ranking) (sym w.in-Kept.is)
      | in-KeptInstead w ↦
          let ranking : w.by_rank.result.now ≡ p.ranking = w.by_rank.ensures ∙ ap (λ (r : Ranked). (program_of r.market c.self.inside.program).ranking) c.requires.ranks in
          let other = w.in-KeptInstead.other in
          let on = ((c.propose.ensures.dropped other).0 w.in-KeptInstead.is).0 in
          let low : other < length w.by_rank.result.now = omega (arith, held_within p h other c.self.invariant.listed on, ap length ranking) in
          let named = get_or_read w.by_rank.result.now other w.index-by_rank-other.result low w.index-by_rank-other.is 0 ∙ ap (λ xs. get_or xs other 0) ranking in
          w.result-is ∙ ap (λ x. reply.KeptInstead x) named ∙ ap (reply_from p.ranking) (sym w.in-KeptInstead.is)
      | in-Refused w ↦ w.result-is ∙ ap (reply_from p.ranking) (sym w.in-Refused.is)
    ] in
    replied ∙ reply_is p (received_at m v) h a c.args.rank c.propose.result (may_receive m v a c.args.rank comes) told

pub invariant_of-self : goal.invariant_of-self
invariant_of-self g c = is_door g c

pub returns-clause-received : goal.returns-clause-received
returns-clause-received g c = λ b. received g c b ∙ ap (λ (x : DoorView). (b == c.args.applicant) || received_at g.K.HallName.ranked.market x b) c.self.view_is

pub returns-clause-reply : goal.returns-clause-reply
returns-clause-reply g c = answered g c ∙ ap (λ (x : DoorView). reply_to (program_of g.K.HallName.ranked.market x.program) (received_at g.K.HallName.ranked.market x) c.args.applicant) c.self.view_is

pub returns-clause-held : goal.returns-clause-held
returns-clause-held g c =
    let m = g.K.HallName.ranked.market in
    let a = c.args.applicant in
    let v : DoorView = record { program = c.self.inside.program; holding = c.self.inside.hold } in
    held_after m v (record { program = c.self.inside.program; holding = c.propose.new.self }) a refl (received g c) ∙ ap is_kept (sym (answered g c))

pub returns-clause-excluded : goal.returns-clause-excluded
returns-clause-excluded g c =
    let m = g.K.HallName.ranked.market in
    let a = c.args.applicant in
    let v : DoorView = record { program = c.self.inside.program; holding = c.self.inside.hold } in
    subst (λ (x : DoorView). ShowsExcluded m a x.program c.match-propose.result) c.self.view_is
    (subst (ShowsExcluded m a v.program) (sym (answered g c)) (shows m (comes_as c.args.ranks.now g.K.HallName.ranked c.requires.ranks c.applicants.ensures.ranked v c.args.self.now c.self.view_is c.self.invariant a c.args.rank c.requires.rank c.requires.comer).well_formed v (record { program = c.self.inside.program; holding = c.propose.new.self }) a (is_door g c) refl (received g c)))
