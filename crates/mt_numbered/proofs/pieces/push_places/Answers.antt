use Rattle.std.proofs.Common.{◌≡◌, ◌∙◌, ◌+◌, ◌&&◌, [], Bool, true, false, not, List, ap, sym, length, drop, get_or, set}
use Rattle.std.proofs.lemmas.List.{drop_more, drop_all, length-set}
use Rattle.mt_id_lists.specs.Reading.{with_kept}
use Rattle.mt_numbered.proofs.PieceFacts.{meets, meets-once, numbers_at-more, numbers_at-none, numbers-by}
use Rattle.mt_numbered.proofs.pieces.push_places.Goals as goal

pub returns-then-not-meet-clause-reads : goal.returns-then-not-meet-clause-reads
returns-then-not-meet-clause-reads g c list are =
    let places = c.args.places.now in
    let met = c.loop-place.met in
    let rest = drop (c.loop-place.place-index + 1) places in
    let place = get_or places c.loop-place.place-index 0 in
    let again : not (get_or met place false) ≡ false = sym c.meet.ensures.first ∙ c.if-not-meet.true in
    sym (meets-once c.args.ids.now.ids c.args.met.now list places c.requires.len c.requires.none are)
    ∙ sym c.loop-place.invariant.first
    ∙ ap (meets met) (drop_more places c.loop-place.place-index 0 c.loop-place-test.true)
    ∙ ap (λ (b : Bool). b && meets (set met place true) rest) again

pub loop-place-preserved : goal.loop-place-preserved
loop-place-preserved g c =
    let places = c.args.places.now in
    let met = c.loop-place.met in
    let rest = drop (c.loop-place.place-index + 1) places in
    let place = get_or places c.loop-place.place-index 0 in
    let first : not (get_or met place false) ≡ true = sym c.meet.ensures.first ∙ c.if-not-meet.false in
    let is = drop_more places c.loop-place.place-index 0 c.loop-place-test.true in
    record {
      long = ap length c.meet.ensures.met ∙ length-set met place true ∙ c.loop-place.invariant.long;
      count = c.in_ok-push_number.ensures.len ∙ c.loop-place.invariant.count;
      first = ap (λ (m : List Bool). meets m rest) c.meet.ensures.met
          ∙ sym (ap (meets met) is ∙ ap (λ (b : Bool). b && meets (set met place true) rest) first)
          ∙ c.loop-place.invariant.first;
      rest = numbers_at-more c.args.ids.now c.args.kept _ place rest c.loop-place.lists _ is c.in_ok-push_number.ensures.lists ∙ c.loop-place.invariant.rest;
    }

pub returns-clause-reads : goal.returns-clause-reads
returns-clause-reads g c list are =
    let n = c.args.ids.now in
    let places = c.args.places.now in
    let none : drop c.loop-place.place-index places ≡ [] = drop_all c.loop-place.place-index places c.loop-place-test.false in (
      sym (meets-once n.ids c.args.met.now list places c.requires.len c.requires.none are) ∙ sym c.loop-place.invariant.first ∙ ap (meets c.loop-place.met) none,
      numbers_at-none n c.args.kept _ c.loop-place.lists none ∙ c.loop-place.invariant.rest ∙ ap (with_kept c.args.kept c.args.lists.now) (numbers-by n list places are),
    )
