use Rattle.std.proofs.Common.{◌<◌, ◌-◌, drop, length, ap, subst, sym, arith, ◌∙◌}
use Rattle.mt_terms.proofs.BelowFacts.{length-map_below}
use Rattle.mt_reordered.specs.Copied.{place_from}
use Rattle.mt_reordered.proofs.PlaceFacts.{none_from, places_down, places_first}
use Rattle.mt_reordered.proofs.couples.places.Goals as goal

pub loop-place-init : goal.loop-place-init
loop-place-init c = places_first c.args.order.now c.args.couples c.in_ok-places.places.items (c.in_ok-places.ensures.items_if_clones_equal (none_from _ (λ x e. e)))

pub note-requires : goal.note-requires
note-requires c =
    let i : c.loop-place.place - 1 < length c.args.order.now = omega arith in
    let small = subst (λ j. j < c.args.couples) (sym c.index-order-place.is) (c.requires.within (c.loop-place.place - 1) c.index-order-place.result i) in
    omega (
      arith,
      small,
      ap length (c.deref_mut.ensures.value ∙ c.loop-place.invariant),
      length-map_below (place_from (drop c.loop-place.place c.args.order.now) c.loop-place.place) c.args.couples,
    )

pub loop-place-preserved : goal.loop-place-preserved
loop-place-preserved c =
    let i : c.loop-place.place - 1 < length c.args.order.now = omega arith in
    let small = subst (λ j. j < c.args.couples) (sym c.index-order-place.is) (c.requires.within (c.loop-place.place - 1) c.index-order-place.result i) in
    places_down c.args.order.now c.loop-place.place c.args.couples c.index-order-place.result c.loop-place.places.items c.deref_mut.result.now c.note.new.places _
    c.loop-place-test.true c.loop-place.auto.place small c.index-order-place.is c.loop-place.invariant c.deref_mut.ensures.value c.note.ensures c.loop-place.places.ok.0
