use Rattle.std.proofs.lemmas.Grind.{common_steps}
use Rattle.std.proofs.Common.{arith, ◌≡◌, ◌<◌, ◌==◌, ◌&&◌, ℕ, Bool, Option, None, Some, find, if◌then◌else◌, true, false, not, IsTrue, refl, sym, ap, ◌∙◌, subst}
use Rattle.std.proofs.lemmas.Bool.{eqb-true, false≢true, true≢false}
use Rattle.mt_terms.specs.Lists.{has, with_one}
use Rattle.mt_terms.specs.Market.{Market, applicants, live, program_of}
use Rattle.mt_terms.specs.Choice.{choice}
use Rattle.mt_hold.specs.Replies.{reply_to}
use Rattle.mt_terms.specs.Floor.{kept_reply}
use Rattle.mt_ranks.specs.Ranked.{Ranked}
use Rattle.mt_floor_laws.proofs.FloorLists.{has-get}
use Rattle.mt_hall.specs.Answers.{is_of_proposal}
use Rattle.mt_desks.specs.Singles.{is_single}
use Rattle.mt_terms.specs.declared.events.Reply.{Reply}
use Rattle.mt_terms.specs.declared.events.Reply.TheVariants.{Refused, Noticed, NotDue}
use Rattle.mt_desks.specs.Parts.{DeskView, DoorView, PassView, one_more, received_at}
use Rattle.mt_desks.specs.Steps.{Shows}
use Rattle.mt_hall.proofs.hall.Hall.advance.Goals as goal

-- what a lock holds bears the number that it was asked for
same_field : {X : Type 0} (field : X → ℕ) (now read held : X) (told asked : ℕ) → now ≡ held → read ≡ held → told ≡ field read → false ≡ not (told == asked) → field now ≡ asked
same_field field now read held told asked is was tells same = ap field (is ∙ sym was) ∙ sym tells ∙ eqb-true told asked (passes (told == asked) same)
  where
    passes : (b : Bool) → false ≡ not b → b ≡ true
    passes true h = refl
    passes false h = absurd (false≢true h)

-- a reply to a program's own proposal is one to a proposal
made_to_program : (held : Bool) (other : Option ℕ) → is_of_proposal (if held then kept_reply other else Refused) ≡ true
made_to_program true None = refl
made_to_program true (Some b) = refl
made_to_program false other = refl

-- the pass has one proposal more if the desk doesn't stand, and then the reply is one to a proposal
passed : (stands held : Bool) (reply other : Reply) (old mid new : PassView) (p q a b : ℕ) → reply ≡ (if stands then (if held then NotDue else Noticed) else other) → is_of_proposal other ≡ true
    → mid ≡ old → new ≡ (if stands then mid else one_more mid p a) → p ≡ q → a ≡ b → new ≡ (if is_of_proposal reply then one_more old q b else old)
passed true true reply other old mid new p q a b said made same is there who = rw said (is ∙ same)
passed true false reply other old mid new p q a b said made same is there who = rw said (is ∙ same)
passed false held reply other old mid new p q a b said made same is there who =
    let proposed : is_of_proposal reply ≡ true = ap is_of_proposal said ∙ made in
    rw proposed (is ∙ ap (λ s. one_more s p a) same ∙ ap (λ k. one_more old k a) there ∙ ap (λ k. one_more old q k) who)

-- what a reply shows, if the parts' numbers are those that were asked for
shows_at : (m : Market) (reply : Reply) (a b p q : ℕ) → a ≡ b → p ≡ q → Shows m a p reply → Shows m b q reply
shows_at m reply a b p q who there shown = subst (λ k. Shows m k q reply) who (subst (λ k. Shows m a k reply) there shown)

pub live_len-entries-requires : goal.live_len-entries-requires
live_len-entries-requires g c = c.is_single.ensures.known c.if-not-is_single.false

pub unknown-requires : goal.unknown-requires
unknown-requires g c = subst (λ (r : Ranked). c.args.applicant < applicants r.market) c.args.self.now.its_ranks (c.is_single.ensures.known c.if-not-is_single.false)

pub returns-then-ne-clause-stranger : goal.returns-then-ne-clause-stranger
returns-then-ne-clause-stranger g c =
    let single : is_single g.K.HallName.ranked c.args.applicant ≡ true = ap (λ (r : Ranked). is_single r c.args.applicant) (sym c.args.self.now.its_ranks) ∙ sym c.is_single.ensures.single ∙ c.if-not-is_single.false in
    (λ e. absurd (c.unknown.ensures.known e), λ e. absurd (true≢false (sym single ∙ e)))

pub returns-clause-tells : goal.returns-clause-tells
returns-clause-tells g c =
    let m = g.K.HallName.ranked.market in
    let p = c.entry_at-program.result.program in
    let there : c.deref_mut-2.result.now.program ≡ p = same_field (λ (d : DoorView). d.program) _ _ _ _ _ c.deref_mut-2.ensures.value c.deref-4.ensures c.program.ensures c.if-ne-2.ensures in
    let who : c.deref_mut.result.now.applicant ≡ c.args.applicant = same_field (λ (d : DeskView). d.applicant) _ _ _ _ _ c.deref_mut.ensures.value c.deref.ensures c.applicant.ensures c.if-ne.ensures in
    let is_live = subst (λ (r : Ranked). IsTrue (has (live r.market c.args.applicant) p)) c.args.self.now.its_ranks (has-get _ c.if-standing.place p c.entry_at-program.ensures.program) in
    c.answer_to.ensures.tells m c.args.applicant is_live (shows_at m _ _ _ _ _ who there c.step-reply.ensures.excluded)

pub returns-then-made-entries : goal.returns-then-made-entries
returns-then-made-entries g c = grind (arith, common_steps)

pub returns-clause-stranger : goal.returns-clause-stranger
returns-clause-stranger g c =
    let single : is_single g.K.HallName.ranked c.args.applicant ≡ true = ap (λ (r : Ranked). is_single r c.args.applicant) (sym c.args.self.now.its_ranks) ∙ sym c.is_single.ensures.single ∙ c.if-not-is_single.false in
    (λ e. absurd (c.answer_to.ensures.known e), λ e. absurd (true≢false (sym single ∙ e)))

pub returns-clause-pass : goal.returns-clause-pass
returns-clause-pass g c =
    let v = c.deref_mut-2.result.now in
    let set = received_at g.K.HallName.ranked.market v in
    let p = program_of g.K.HallName.ranked.market v.program in
    let a = c.deref_mut.result.now.applicant in
    let there : v.program ≡ c.entry_at-program.result.program = same_field (λ (d : DoorView). d.program) _ _ _ _ _ c.deref_mut-2.ensures.value c.deref-4.ensures c.program.ensures c.if-ne-2.ensures in
    let who : a ≡ c.args.applicant = same_field (λ (d : DeskView). d.applicant) _ _ _ _ _ c.deref_mut.ensures.value c.deref.ensures c.applicant.ensures c.if-ne.ensures in
    let made : is_of_proposal (reply_to p set a) ≡ true = made_to_program (choice p (with_one set a) a) (find (λ b. choice p set b && not (choice p (with_one set a) b)) p.ranking) in
    passed _ _ _ _ _ _ _ _ _ _ _ c.step-reply.ensures.reply made c.lock-door.ensures c.step-reply.ensures.pass there who ∙ sym (c.answer_to.ensures.pass _ _)
