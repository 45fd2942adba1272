use Rattle.std.proofs.Common.{◌≡◌, ◌∙◌, None, not, arith, ap, sym, get_or, take, ◌+◌}
use Rattle.mt_terms.specs.Text.{unmatched}
use Rattle.std.specs.Prelude.{is_some, if◌then◌else◌}
use Rattle.mt_report.proofs.CountFacts.{read_place, unmatched_more, unmatched-le}
use Rattle.mt_report.proofs.counts.unmatched_count.Goals as goal
use Rattle.mt_report.proofs.counts.unmatched_count.Goals.{then-is_none, else-is_none}

pub overflow_add-count : goal.overflow_add-count
overflow_add-count c = omega (arith, c.loop-place.invariant, unmatched-le c.args.places.now c.loop-place.place-index, c.requires)

pub loop-place-preserved : goal.loop-place-preserved
loop-place-preserved c =
    let read = read_place c.args.places.now c.loop-place.place-index c.place-item.result c.place-item.is c.loop-place-test.true in
    let more = unmatched_more c.args.places.now c.loop-place.place-index c.loop-place-test.true in
    let known : not (is_some (get_or c.args.places.now c.loop-place.place-index None)) ≡ not (not c.is_none.result) =
    ap (λ place. not (is_some place)) (sym read) ∙ ap not c.is_none.ensures in
    elim c.if-is_none.branch [
      | then-is_none w ↦
          let one = more ∙ ap (λ b. unmatched (take c.loop-place.place-index c.args.places.now) + (if b then 1 else 0)) (known ∙ ap (λ b. not (not b)) w.if-is_none.true) in
          omega (arith, w.count-is, c.loop-place.invariant, one)
      | else-is_none w ↦
          let none = more ∙ ap (λ b. unmatched (take c.loop-place.place-index c.args.places.now) + (if b then 1 else 0)) (known ∙ ap (λ b. not (not b)) w.if-is_none.false) in
          omega (arith, w.count-is, c.loop-place.invariant, none)
    ]
