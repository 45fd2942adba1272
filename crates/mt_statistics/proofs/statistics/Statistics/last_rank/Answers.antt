use Rattle.std.proofs.Common.{◌∙◌, ◌<◌, arith, ap, length}
use Rattle.mt_verify.specs.Judged.{Judged}
use Rattle.mt_statistics.specs.Counts.{last_of, last_rank}
use Rattle.mt_statistics.proofs.HeldFacts.{last_at}
use Rattle.mt_statistics.proofs.statistics.Statistics.last_rank.Goals as goal

pub returns : goal.returns
returns c =
    let some : 0 < length c.placed_at-ranks.result.now = omega (arith, c.if-placed-eq0.false) in
    last_at c.placed_at-ranks.result.now some
    ∙ ap last_of c.placed_at-ranks.ensures
    ∙ ap (λ (d : Judged). last_rank d.registered.market d.places c.args.program) c.self.view_is
