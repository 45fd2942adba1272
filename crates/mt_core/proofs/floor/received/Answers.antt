use Rattle.std.proofs.Common.{length, get_or, ap, ◌∙◌, arith}
use Rattle.std.proofs.lemmas.List.{get_or_read}
use Rattle.mt_hold.specs.Holding.{opened, received_count}
use Rattle.mt_core.specs.Floors.{Tables}
use Rattle.mt_core.proofs.FloorTables.{count_is}
use Rattle.mt_core.proofs.floor.received.Goals as goal

pub returns : goal.returns
returns c m wf o =
    let items = c.floor.inside.holds.items in
    let same = ap Tables.holds c.floor.view_is in
    let low = ap length same in
    let read = get_or_read items c.index.result c.index-2.result.now (omega (arith, c.index.ensures, low)) c.index-2.ensures (opened 0 0) in
    c.count.ensures
    ∙ ap received_count (read ∙ ap (λ i. get_or items i (opened 0 0)) c.index.ensures ∙ ap (λ xs. get_or xs c.args.program (opened 0 0)) same)
    ∙ count_is m wf c.args.floor.now o c.args.program
