use Rattle.std.proofs.Common.{sym, ap, ◌∙◌, arith}
use Rattle.mt_terms.specs.Floor.{is_held_by}
use Rattle.mt_core.specs.Floors.{floor_of}
use Rattle.mt_core.proofs.FloorTables.{held_by_rank}
use Rattle.mt_core.proofs.NextFacts.{last_entry_facts}
use Rattle.mt_core.proofs.step.is_held.Goals as goal

pub holds-requires : goal.holds-requires
holds-requires c =
    let r = c.args.ranks.now in
    let facts = last_entry_facts r c.requires.ranked (floor_of r.market c.args.floor.now) c.args.applicant c.in-Some.entry (sym c.last_proposed_to.ensures ∙ c.in-Some.is) in
    omega (arith, facts.1.program, c.requires.opened.holds)

pub returns-in-Some : goal.returns-in-Some
returns-in-Some c =
    let r = c.args.ranks.now in
    let t = c.args.floor.now in
    let a = c.args.applicant in
    let entry = c.in-Some.entry in
    let facts = last_entry_facts r c.requires.ranked (floor_of r.market t) a entry (sym c.last_proposed_to.ensures ∙ c.in-Some.is) in
    c.holds.ensures
    ∙ held_by_rank r.market t entry.program a entry.rank facts.1.distinct c.requires.opened facts.1.is_rank
    ∙ ap (is_held_by r.market (floor_of r.market t) a) (sym facts.0)
