use Rattle.std.proofs.Common.{◌≡◌, ◌<◌, Some, None, refl, arith, ap, sym, ◌∙◌, take, get_or, length-take}
use Rattle.std.proofs.lemmas.Grind.{elements}
use Rattle.std.specs.Prelude.{IsTrue}
use Rattle.std.proofs.lemmas.Bool.Decides.{nat_tests}
use Rattle.std.proofs.lemmas.List.{get_or_read_under, length-set, take_all}
use Rattle.mt_terms.specs.Matching.{at, is_program, filled}
use Rattle.mt_terms.proofs.ListFacts.{count-le-length}
use Rattle.mt_report.proofs.CountFacts.{read_place, AreCounts-placed, AreCounts-unplaced, counts_of_all}
use Rattle.mt_report.proofs.counts.filled_counts.Goals as goal
use Rattle.mt_report.proofs.counts.filled_counts.Goals.{in-Some, in_default}

pub index_mut-requires : goal.index_mut-requires
index_mut-requires c =
    let placed : IsTrue (at c.args.places.now c.in-Some.program c.loop-place.place-index) =
    ap (is_program c.in-Some.program) (sym (read_place c.args.places.now c.loop-place.place-index c.place-item.result c.place-item.is c.loop-place-test.true) ∙ c.in-Some.is)
    ∙ grind (arith, nat_tests) in
    omega (arith, c.requires.within c.loop-place.place-index c.in-Some.program placed, c.loop-place.invariant.programs)

pub overflow_add-index_mut : goal.overflow_add-index_mut
overflow_add-index_mut c =
    let placed : IsTrue (at c.args.places.now c.in-Some.program c.loop-place.place-index) =
    ap (is_program c.in-Some.program) (sym (read_place c.args.places.now c.loop-place.place-index c.place-item.result c.place-item.is c.loop-place-test.true) ∙ c.in-Some.is)
    ∙ grind (arith, nat_tests) in
    let below : c.in-Some.program < c.args.programs = c.requires.within c.loop-place.place-index c.in-Some.program placed in
    let read : c.index_mut.result.now ≡ get_or c.loop-place.counts.items c.in-Some.program 0 =
    get_or_read_under c.loop-place.counts.items c.in-Some.program _ c.index_mut.result.now 0 (rw c.index.ensures at c.index_mut.ensures.value) (rw c.loop-place.invariant.programs below) refl in
    omega (
      arith,
      read,
      c.loop-place.invariant.counts c.in-Some.program below,
      c.requires.few,
      count-le-length (is_program c.in-Some.program) (take c.loop-place.place-index c.args.places.now),
      length-take c.loop-place.place-index c.args.places.now,
    )

pub loop-place-preserved : goal.loop-place-preserved
loop-place-preserved c =
    elim c.match-place.branch [
      | in-Some w ↦
          let is : get_or c.args.places.now c.loop-place.place-index None ≡ Some w.in-Some.program =
          sym (read_place c.args.places.now c.loop-place.place-index c.place-item.result c.place-item.is c.loop-place-test.true) ∙ w.in-Some.is in
          let placed : IsTrue (at c.args.places.now w.in-Some.program c.loop-place.place-index) = ap (is_program w.in-Some.program) is ∙ grind (arith, nat_tests) in
          let below : w.in-Some.program < c.args.programs = c.requires.within c.loop-place.place-index w.in-Some.program placed in
          let read : w.index_mut.result.now ≡ get_or c.loop-place.counts.items w.in-Some.program 0 =
          get_or_read_under c.loop-place.counts.items w.in-Some.program _ w.index_mut.result.now 0 (rw w.index.ensures at w.index_mut.ensures.value) (rw c.loop-place.invariant.programs below) refl in
          let counted = AreCounts-placed c.args.places.now c.args.programs c.loop-place.place-index c.loop-place.counts.items w.in-Some.program
          c.loop-place-test.true is c.loop-place.invariant.programs below c.loop-place.invariant.counts in
          rw (w.counts-is, w.index.ensures, read) (record { programs = length-set c.loop-place.counts.items w.in-Some.program _ ∙ c.loop-place.invariant.programs; counts = counted })
      | in_default w ↦
          let is : get_or c.args.places.now c.loop-place.place-index None ≡ None =
          sym (read_place c.args.places.now c.loop-place.place-index c.place-item.result c.place-item.is c.loop-place-test.true) ∙ w.in_default.is in
          let counted = AreCounts-unplaced c.args.places.now c.args.programs c.loop-place.place-index c.loop-place.counts.items c.loop-place-test.true is c.loop-place.invariant.counts in
          rw w.counts-is (record { programs = c.loop-place.invariant.programs; counts = counted })
    ]

pub returns : goal.returns
returns c =
    let whole : take c.loop-place.place-index c.args.places.now ≡ c.args.places.now = take_all c.loop-place.place-index c.args.places.now c.loop-place-test.false in
    counts_of_all c.args.places.now c.args.programs c.loop-place.counts.items c.loop-place.invariant.programs
    (λ p h. c.loop-place.invariant.counts p h ∙ ap (λ places. filled places p) whole)

pub loop-place-init : goal.loop-place-init
loop-place-init c = grind (arith, elements)
