use Rattle.std.proofs.Common.{◌∙◌, ap, arith}
use Rattle.mt_terms.specs.Market.{live_entries}
use Rattle.mt_ranks.specs.Ranked.{Ranked}
use Rattle.mt_terms.proofs.LiveFacts.{live_entries-live_market}
use Rattle.mt_fault_text.proofs.mutual.mutual_entries.Goals as goal

pub loop-number-init : goal.loop-number-init
loop-number-init g c =
    let all = c.live_entries-count.ensures.count ∙ ap (λ (r : Ranked). live_entries r.market) c.in_ok-ranks.ensures ∙ live_entries-live_market c.args.roster.now.market in
    record { so_far = omega (arith, all); small = omega (arith, c.live_entries-count.ensures.few) }
