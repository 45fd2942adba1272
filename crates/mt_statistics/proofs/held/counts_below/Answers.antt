use Rattle.std.proofs.Common.{◌≡◌, ◌<◌, Some, None, refl, arith, ap, ◌∙◌, take, get_or, length-take}
use Rattle.std.proofs.lemmas.Grind.{elements}
use Rattle.std.specs.Prelude.{IsTrue}
use Rattle.std.proofs.lemmas.Bool.Decides.{nat_tests}
use Rattle.std.proofs.lemmas.List.{get_or_read_under, length-set, take_all}
use Rattle.mt_terms.specs.Matching.{at, is_program, filled}
use Rattle.mt_terms.proofs.ListFacts.{count-le-length}
use Rattle.mt_report.proofs.CountFacts.{AreCounts-placed, AreCounts-unplaced, counts_of_all}
use Rattle.mt_statistics.proofs.HeldFacts.{item_is}
use Rattle.mt_statistics.proofs.held.counts_below.Goals as goal
use Rattle.mt_statistics.proofs.held.counts_below.Goals.{in-Some, in_default}

pub index_mut-requires : goal.index_mut-requires
index_mut-requires c =
    let placed : IsTrue (at c.args.held.now c.in-Some.number c.loop-kept.kept-index) =
    ap (is_program c.in-Some.number) (item_is c.args.held.now c.loop-kept.kept-index _ _ c.in-Some.is c.loop-kept-test.true)
    ∙ grind (arith, nat_tests) in
    omega (arith, c.requires.within c.loop-kept.kept-index c.in-Some.number placed, c.loop-kept.invariant.numbers)

pub overflow_add-index_mut : goal.overflow_add-index_mut
overflow_add-index_mut c =
    let placed : IsTrue (at c.args.held.now c.in-Some.number c.loop-kept.kept-index) =
    ap (is_program c.in-Some.number) (item_is c.args.held.now c.loop-kept.kept-index _ _ c.in-Some.is c.loop-kept-test.true)
    ∙ grind (arith, nat_tests) in
    let below : c.in-Some.number < c.args.top = c.requires.within c.loop-kept.kept-index c.in-Some.number placed in
    let read : c.index_mut.result.now ≡ get_or c.loop-kept.counts.items c.in-Some.number 0 =
    get_or_read_under c.loop-kept.counts.items c.in-Some.number _ c.index_mut.result.now 0 c.index_mut.ensures.value (rw c.loop-kept.invariant.numbers below) refl in
    omega (
      arith,
      read,
      c.loop-kept.invariant.counts c.in-Some.number below,
      c.requires.few,
      count-le-length (is_program c.in-Some.number) (take c.loop-kept.kept-index c.args.held.now),
      length-take c.loop-kept.kept-index c.args.held.now,
    )

pub loop-kept-preserved : goal.loop-kept-preserved
loop-kept-preserved c =
    elim c.match-kept.branch [
      | in-Some w ↦
          let is : get_or c.args.held.now c.loop-kept.kept-index None ≡ Some w.in-Some.number =
          item_is c.args.held.now c.loop-kept.kept-index _ _ w.in-Some.is c.loop-kept-test.true in
          let placed : IsTrue (at c.args.held.now w.in-Some.number c.loop-kept.kept-index) = ap (is_program w.in-Some.number) is ∙ grind (arith, nat_tests) in
          let below : w.in-Some.number < c.args.top = c.requires.within c.loop-kept.kept-index w.in-Some.number placed in
          let read : w.index_mut.result.now ≡ get_or c.loop-kept.counts.items w.in-Some.number 0 =
          get_or_read_under c.loop-kept.counts.items w.in-Some.number _ w.index_mut.result.now 0 w.index_mut.ensures.value (rw c.loop-kept.invariant.numbers below) refl in
          let counted = AreCounts-placed c.args.held.now c.args.top c.loop-kept.kept-index c.loop-kept.counts.items w.in-Some.number
          c.loop-kept-test.true is c.loop-kept.invariant.numbers below c.loop-kept.invariant.counts in
          rw (w.counts-is, read) (record { numbers = length-set c.loop-kept.counts.items w.in-Some.number _ ∙ c.loop-kept.invariant.numbers; counts = counted })
      | in_default w ↦
          let is : get_or c.args.held.now c.loop-kept.kept-index None ≡ None =
          item_is c.args.held.now c.loop-kept.kept-index _ _ w.in_default.is c.loop-kept-test.true in
          let counted = AreCounts-unplaced c.args.held.now c.args.top c.loop-kept.kept-index c.loop-kept.counts.items c.loop-kept-test.true is c.loop-kept.invariant.counts in
          rw w.counts-is (record { numbers = c.loop-kept.invariant.numbers; counts = counted })
    ]

pub returns : goal.returns
returns c =
    let whole : take c.loop-kept.kept-index c.args.held.now ≡ c.args.held.now = take_all c.loop-kept.kept-index c.args.held.now c.loop-kept-test.false in
    counts_of_all c.args.held.now c.args.top c.loop-kept.counts.items c.loop-kept.invariant.numbers
    (λ p h. c.loop-kept.invariant.counts p h ∙ ap (λ places. filled places p) whole)

pub loop-kept-init : goal.loop-kept-init
loop-kept-init c = grind (arith, elements)
