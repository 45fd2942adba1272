use Rattle.std.proofs.Common.{◌<◌, length, get_or, ap, ◌∙◌, arith}
use Rattle.std.proofs.lemmas.List.{get_or_read}
use Rattle.mt_core.specs.Floors.{Tables, floor_of}
use Rattle.mt_core.proofs.floor.made.Goals as goal

pub returns : goal.returns
unfolding floor_of
returns c m =
    let items = c.floor.inside.made.items in
    let same = ap Tables.made c.floor.view_is in
    let low : c.args.applicant < length items = omega (arith, ap length same) in
    get_or_read items c.index.result c.index-2.result.now (omega (arith, c.index.ensures)) c.index-2.ensures 0
    ∙ ap (λ i. get_or items i 0) c.index.ensures
    ∙ ap (λ xs. get_or xs c.args.applicant 0) same
