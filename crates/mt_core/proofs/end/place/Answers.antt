use Rattle.std.proofs.Common.{refl, sym, ◌∙◌}
use Rattle.mt_terms.specs.Floor.{last_proposed_to}
use Rattle.mt_core.specs.Floors.{floor_of}
use Rattle.mt_core.proofs.FloorTables.{standing_of}
use Rattle.mt_core.proofs.NextFacts.{entry_facts, no_entry}
use Rattle.mt_core.proofs.end.place.Goals as goal

pub returns-then-not-stands : goal.returns-then-not-stands
returns-then-not-stands c =
    let m = c.args.ranks.now.market in
    let free = standing_of m c.args.floor.now c.args.applicant ∙ sym c.stands.ensures ∙ c.if-not-stands.true in
    rw free refl

pub returns-in_err-entry : goal.returns-in_err-entry
returns-in_err-entry c =
    let m = c.args.ranks.now.market in
    let stands = standing_of m c.args.floor.now c.args.applicant ∙ sym c.stands.ensures ∙ c.if-not-stands.false in
    rw (c.from_residual.ensures, stands) (sym (no_entry m c.args.applicant (last_proposed_to m (floor_of m c.args.floor.now) c.args.applicant) (sym c.last_proposed_to.ensures ∙ c.in_err-entry.was)))

pub returns : goal.returns
returns c =
    let m = c.args.ranks.now.market in
    let stands = standing_of m c.args.floor.now c.args.applicant ∙ sym c.stands.ensures ∙ c.if-not-stands.false in
    rw stands (sym (entry_facts m c.args.applicant (last_proposed_to m (floor_of m c.args.floor.now) c.args.applicant) c.in_ok-entry.entry (sym c.last_proposed_to.ensures ∙ c.in_ok-entry.was)).0)
