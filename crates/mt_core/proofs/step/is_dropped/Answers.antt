use Rattle.std.proofs.Common.{refl, sym, ap, ◌∙◌, arith, not}
use Rattle.mt_terms.specs.Floor.{is_held_by, last_proposed_to}
use Rattle.mt_core.specs.Floors.{floor_of}
use Rattle.mt_core.proofs.FloorTables.{held_by_rank, received_by_rank, standing_of}
use Rattle.mt_core.proofs.NextFacts.{last_entry_facts, last_is_tried, no_entry}
use Rattle.mt_core.proofs.step.is_dropped.Goals as goal

pub keeps-requires-clause-program : goal.keeps-requires-clause-program
keeps-requires-clause-program c =
    let r = c.args.ranks.now in
    let facts = last_entry_facts r c.requires.ranked (floor_of r.market c.args.floor.now) c.args.applicant c.in-Some.entry (sym c.last_proposed_to.ensures ∙ c.in-Some.is) in
    omega (arith, facts.1.program, c.requires.opened.holds)

pub keeps-requires-clause-on_list : goal.keeps-requires-clause-on_list
keeps-requires-clause-on_list c =
    let r = c.args.ranks.now in
    let facts = last_entry_facts r c.requires.ranked (floor_of r.market c.args.floor.now) c.args.applicant c.in-Some.entry (sym c.last_proposed_to.ensures ∙ c.in-Some.is) in
    omega (arith, facts.1.is_rank.within, c.requires.opened.lists c.in-Some.entry.program)

pub keeps-requires-clause-received : goal.keeps-requires-clause-received
keeps-requires-clause-received c =
    let r = c.args.ranks.now in
    let t = c.args.floor.now in
    let f = floor_of r.market t in
    let a = c.args.applicant in
    let entry = c.in-Some.entry in
    let facts = last_entry_facts r c.requires.ranked f a entry (sym c.last_proposed_to.ensures ∙ c.in-Some.is) in
    sym (received_by_rank r.market t entry.program a entry.rank facts.1.is_rank)
    ∙ c.requires.recorded.receives a entry.program
    ∙ last_is_tried r.market f a entry.program facts.0

pub returns-in-Some : goal.returns-in-Some
returns-in-Some c =
    let r = c.args.ranks.now in
    let t = c.args.floor.now in
    let a = c.args.applicant in
    let entry = c.in-Some.entry in
    let stands = standing_of r.market t a ∙ sym c.stands.ensures ∙ c.if-not-stands.false in
    let facts = last_entry_facts r c.requires.ranked (floor_of r.market t) a entry (sym c.last_proposed_to.ensures ∙ c.in-Some.is) in
    let held = c.keeps.ensures
    ∙ held_by_rank r.market t entry.program a entry.rank facts.1.distinct c.requires.opened facts.1.is_rank
    ∙ ap (is_held_by r.market (floor_of r.market t) a) (sym facts.0) in
    rw stands (ap not held)

pub returns-in-None : goal.returns-in-None
returns-in-None c =
    let m = c.args.ranks.now.market in
    let t = c.args.floor.now in
    let a = c.args.applicant in
    let stands = standing_of m t a ∙ sym c.stands.ensures ∙ c.if-not-stands.false in
    let none = no_entry m a (last_proposed_to m (floor_of m t) a) (sym c.last_proposed_to.ensures ∙ c.in-None.is) in
    rw stands (ap (λ o. not (is_held_by m (floor_of m t) a o)) (sym none))

pub returns-then-not-stands : goal.returns-then-not-stands
returns-then-not-stands c =
    let free = standing_of c.args.ranks.now.market c.args.floor.now c.args.applicant ∙ sym c.stands.ensures ∙ c.if-not-stands.true in
    rw free refl
