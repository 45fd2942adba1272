use Rattle.std.proofs.Common.{◌==◌, length, sym, ap, ap₂, ◌∙◌}
use Rattle.std.proofs.lemmas.List.{length-map}
use Rattle.mt_terms.specs.Market.{list_of}
use Rattle.mt_ranks.specs.Ranked.{ranked_entry}
use Rattle.mt_core.proofs.FloorTables.{standing_of}
use Rattle.mt_core.proofs.end.is_settled.Goals as goal

pub returns-then-stands : goal.returns-then-stands
returns-then-stands c =
    let m = c.args.ranks.now.market in
    let stands = standing_of m c.args.floor.now c.args.applicant ∙ sym c.stands.ensures ∙ c.if-stands.true in
    rw stands c.is_held.ensures

pub returns-else-stands : goal.returns-else-stands
returns-else-stands c =
    let m = c.args.ranks.now.market in
    let a = c.args.applicant in
    let free = standing_of m c.args.floor.now a ∙ sym c.stands.ensures ∙ c.if-stands.false in
    let len = ap length c.live.ensures.list ∙ length-map (list_of m a) (ranked_entry m a) ∙ ap length (sym (c.requires.ranked.all_live a)) in
    rw free (ap₂ (λ x y. x == y) (c.made.ensures m) len)
