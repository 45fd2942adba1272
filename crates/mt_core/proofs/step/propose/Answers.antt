use Rattle.std.proofs.Common.{◌≡◌, ℕ, List, sym, ap, ◌∙◌, subst, arith, Some, None}
use Rattle.mt_terms.specs.Market.{program_of}
use Rattle.mt_terms.specs.Floor as model
use Rattle.mt_terms.specs.declared.events.Reply.TheVariants.{NotDue}
use Rattle.mt_hold.specs.declared.holding.Taken.{Taken}
use Rattle.mt_hold.specs.declared.holding.Taken.TheVariants as taken
use Rattle.mt_core.specs.Floors.{IsOpenedWith, Tables, floor_of, hold_of}
use Rattle.mt_hold.specs.Replies.{reply_from}
use Rattle.mt_core.proofs.FloorTables.{made_of, received_by_rank, entered_floor, entered_opened}
use Rattle.mt_core.proofs.NextFacts.{next_entry_facts, next_by_list, no_entry, IsFirstTime}
use Rattle.mt_core.proofs.ReplyFacts.{displaced_is, may_receive}
use Rattle.mt_hold.proofs.ReplyFacts.{reply_is, held_within}
use Rattle.mt_core.proofs.step.propose.Goals as goal
use Rattle.mt_core.proofs.step.propose.Goals.{In-Some, After-next_entry}

-- what became of a proposal is never that it isn't due
reply_differs : (ranking : List ℕ) (t : Taken) → reply_from ranking t ≡ NotDue → ⊥
reply_differs ranking taken.Kept e = cc
reply_differs ranking (taken.KeptInstead rank) e = cc
reply_differs ranking taken.Refused e = cc

-- the entry that was read is the next one, and its program hasn't received the applicant
entry_is : (c : In-Some) → (model.next_entry c.args.ranks.now.market (floor_of c.args.ranks.now.market c.args.floor.now) c.args.applicant ≡ Some c.in-Some.entry.program)
    × IsFirstTime c.args.ranks.now.market (floor_of c.args.ranks.now.market c.args.floor.now) c.args.applicant c.in-Some.entry.program c.in-Some.entry.rank
entry_is c =
    let r = c.args.ranks.now in
    let t = c.args.floor.now in
    let a = c.args.applicant in
    next_entry_facts r c.requires.ranked (floor_of r.market t) c.requires.recorded a c.in-Some.entry
    (sym (next_by_list r c.requires.ranked t c.args.list.now a c.requires.list) ∙ sym (c.next_entry.ensures r.market) ∙ c.in-Some.is)

-- no proposal is due without a next entry
none_next : (c : After-next_entry) → c.next_entry.result ≡ None → model.next_entry c.args.ranks.now.market (floor_of c.args.ranks.now.market c.args.floor.now) c.args.applicant ≡ None
none_next c none =
    let r = c.args.ranks.now in
    let t = c.args.floor.now in
    let a = c.args.applicant in
    no_entry r.market a (model.next_entry r.market (floor_of r.market t) a)
    (sym (next_by_list r c.requires.ranked t c.args.list.now a c.requires.list) ∙ sym (c.next_entry.ensures r.market) ∙ none)

pub returns-in_default-clause-floor : goal.returns-in_default-clause-floor
returns-in_default-clause-floor c =
    let m = c.args.ranks.now.market in
    ap (model.after_proposal m (floor_of m c.args.floor.now) c.args.applicant) (sym (none_next (goal.at.returns-in_default-clause-floor c).After-next_entry c.in_default.is))

pub returns-in_default-clause-reply : goal.returns-in_default-clause-reply
returns-in_default-clause-reply c =
    let m = c.args.ranks.now.market in
    ap (model.reply_of_proposal m (floor_of m c.args.floor.now) c.args.applicant) (sym (none_next (goal.at.returns-in_default-clause-reply c).After-next_entry c.in_default.is))

pub enter-taken-requires-clause-program : goal.enter-taken-requires-clause-program
enter-taken-requires-clause-program c = omega (arith, (entry_is (goal.at.enter-taken-requires-clause-program c).In-Some).1.can.program, c.requires.opened.holds)

pub enter-taken-requires-clause-fits : goal.enter-taken-requires-clause-fits
enter-taken-requires-clause-fits c = omega (arith, (entry_is (goal.at.enter-taken-requires-clause-fits c).In-Some).1.few, made_of c.args.ranks.now.market c.args.floor.now c.args.applicant)

pub enter-taken-requires-clause-on_list : goal.enter-taken-requires-clause-on_list
enter-taken-requires-clause-on_list c = omega (arith, (entry_is (goal.at.enter-taken-requires-clause-on_list c).In-Some).1.can.is_rank.within, c.requires.opened.lists c.in-Some.entry.program)

pub enter-taken-requires-clause-first_time : goal.enter-taken-requires-clause-first_time
enter-taken-requires-clause-first_time c =
    let facts = entry_is (goal.at.enter-taken-requires-clause-first_time c).In-Some in
    sym (received_by_rank c.args.ranks.now.market c.args.floor.now c.in-Some.entry.program c.args.applicant c.in-Some.entry.rank facts.1.can.is_rank) ∙ facts.1.not_received

pub reply_at-requires-clause-program : goal.reply_at-requires-clause-program
reply_at-requires-clause-program c = (entry_is (goal.at.reply_at-requires-clause-program c).In-Some).1.can.program

pub reply_at-requires-clause-rank : goal.reply_at-requires-clause-rank
reply_at-requires-clause-rank c rank named =
    held_within (program_of c.args.ranks.now.market c.in-Some.entry.program) (hold_of c.args.floor.now c.in-Some.entry.program) rank (c.requires.opened.lists c.in-Some.entry.program) ((c.enter-taken.ensures.dropped rank).0 named).0

pub returns-clause-floor : goal.returns-clause-floor
returns-clause-floor c =
    let r = c.args.ranks.now in
    let t = c.args.floor.now in
    let a = c.args.applicant in
    let entry = c.in-Some.entry in
    let facts = entry_is (goal.at.returns-clause-floor c).In-Some in
    ap (floor_of r.market) c.enter-taken.ensures.tables
    ∙ entered_floor r.market t a entry.program entry.rank c.requires.opened facts.1.can
    ∙ ap (model.after_proposal r.market (floor_of r.market t) a) (sym facts.0)

pub returns-clause-reply : goal.returns-clause-reply
returns-clause-reply c =
    let r = c.args.ranks.now in
    let t = c.args.floor.now in
    let a = c.args.applicant in
    let entry = c.in-Some.entry in
    let facts = entry_is (goal.at.returns-clause-reply c).In-Some in
    c.reply_at.ensures
    ∙ reply_is (program_of r.market entry.program) ((floor_of r.market t).received entry.program) (hold_of t entry.program) a entry.rank c.enter-taken.result (may_receive r.market t a entry.program entry.rank c.requires.opened facts.1.can) (record { refused = c.enter-taken.ensures.refused; dropped = c.enter-taken.ensures.dropped })
    ∙ ap (model.reply_of_proposal r.market (floor_of r.market t) a) (sym facts.0)

pub returns-clause-displaced : goal.returns-clause-displaced
returns-clause-displaced c b p on out =
    let r = c.args.ranks.now in
    let t = c.args.floor.now in
    let a = c.args.applicant in
    let entry = c.in-Some.entry in
    let facts = entry_is (goal.at.returns-clause-displaced c).In-Some in
    let now = ap (floor_of r.market) c.enter-taken.ensures.tables ∙ entered_floor r.market t a entry.program entry.rank c.requires.opened facts.1.can in
    c.reply_at.ensures
    ∙ displaced_is r.market t a entry.program entry.rank c.enter-taken.result c.requires.opened facts.1.can (record { refused = c.enter-taken.ensures.refused; dropped = c.enter-taken.ensures.dropped }) b p on
    (ap (λ f. model.held_set r.market f p b) (sym now) ∙ out)

pub returns-clause-not_due : goal.returns-clause-not_due
returns-clause-not_due c e = absurd (reply_differs (program_of c.args.ranks.now.market c.in-Some.entry.program).ranking c.enter-taken.result (sym c.reply_at.ensures ∙ e))

pub returns-clause-opened : goal.returns-clause-opened
returns-clause-opened c =
    let r = c.args.ranks.now in
    let t = c.args.floor.now in
    let entry = c.in-Some.entry in
    let facts = entry_is (goal.at.returns-clause-opened c).In-Some in
    subst (λ (x : Tables). IsOpenedWith r.market x) (sym c.enter-taken.ensures.tables)
    (entered_opened r.market t c.args.applicant entry.program entry.rank (omega (arith, facts.1.can.program, c.requires.opened.holds)) c.requires.opened)
