use Rattle.std.proofs.Common.{◌≡◌, ◌∙◌, ap, refl, rules}
use Rattle.rayon.specs.Lists.{min_len_base, range_start, range_end}
use Rattle.mt_orders.proofs.FewestFacts.{asides_of_trial}
use Rattle.mt_orders.proofs.fewest.AsideTrial.asides_of.Goals as goal

pub collect-requires-clause-ready : goal.collect-requires-clause-ready
collect-requires-clause-ready g c κs within =
    rw (c.map.ensures.base, c.map.ensures.f, c.with_min_len.ensures.base, c.into_par_iter.ensures.0, c.into_par_iter.ensures.1)
    (λ k d lt. ((c.requires.best, search rules), λ y made. tt))

pub returns : goal.returns
returns g c =
    let t = c.args.self.now in
    let f = c.map.result.f in
    let self : f.0.now ≡ t = rw c.map.ensures.f refl in
    let range = c.map.result.base.base in
    let all = c.in_ok-collect.ensures in
    asides_of_trial f.0.now t self range.start range.end c.args.from c.args.count all.1.0 all.0 c.in_ok-collect.field-0
    (ap (λ m. range_start (min_len_base m)) c.map.ensures.base ∙ ap range_start c.with_min_len.ensures.base ∙ c.into_par_iter.ensures.0)
    (ap (λ m. range_end (min_len_base m)) c.map.ensures.base ∙ ap range_end c.with_min_len.ensures.base ∙ c.into_par_iter.ensures.1)
    all.1.1 all.1.2 all.2
