use Rattle.std.proofs.Common.{◌≡◌, Some, length, refl, sym, ap, ◌∙◌, ltb-true, ltb-false}
use Rattle.std.specs.Prelude.{slice_get}
use Rattle.std.proofs.lemmas.Option.{slice_get_past, slice_get_read}
use Rattle.mt_core.proofs.FloorTables.{standing_of}
use Rattle.mt_core.proofs.step.next_entry.Goals as goal

pub returns-then-stands : goal.returns-then-stands
returns-then-stands c m =
    let stands = standing_of m c.args.floor.now c.args.applicant ∙ sym c.stands.ensures ∙ c.if-stands.true in
    rw stands refl

pub returns-in_err-entry : goal.returns-in_err-entry
returns-in_err-entry c m =
    let stands = standing_of m c.args.floor.now c.args.applicant ∙ sym c.stands.ensures ∙ c.if-stands.false in
    let list = c.args.list.now in
    let past = slice_get_past list c.made.result (ltb-false _ _ (sym c.in_err-entry.ensures.lookup.0)) in
    rw (stands, ← c.made.ensures m, past) c.from_residual.ensures

pub returns : goal.returns
returns c m =
    let stands = standing_of m c.args.floor.now c.args.applicant ∙ sym c.stands.ensures ∙ c.if-stands.false in
    let list = c.args.list.now in
    let read = c.in_ok-entry.ensures.lookup in
    let there : slice_get list c.made.result ≡ Some c.in_ok-entry.entry.now =
    slice_get_read list (length list) c.made.result c.in_ok-entry.entry.now refl (ltb-true _ _ (sym read.0)) read.1 in
    rw (stands, ← c.made.ensures m, there) (ap (λ e. Some e) c.unpacked.ensures)
