use Rattle.std.proofs.Common.{length, ap, ◌∙◌, sym, arith}
use Rattle.std.proofs.lemmas.List.{length-map}
use Rattle.mt_terms.specs.Market.{list_of}
use Rattle.mt_ranks.specs.Ranked.{ranked_entry}
use Rattle.mt_ranks.proofs.LiveMarket.{live_few}
use Rattle.mt_desks.proofs.entries.live_len.Goals as goal

pub overflow_cast-result : goal.overflow_cast-result
overflow_cast-result c =
    let r = c.args.ranks.now in
    let a = c.args.applicant in
    let len = ap length c.live.ensures.list ∙ length-map (list_of r.market a) (ranked_entry r.market a) ∙ ap length (sym (c.applicants.ensures.ranked.all_live a)) in
    record { fits = omega (arith, len, live_few r c.applicants.ensures.ranked a) }
