use Rattle.std.proofs.Common.{◌≡◌, ◌<◌, ◌∙◌, Option, Vec, Global, ap, arith, get_or, length, sym}
use Rattle.std.proofs.lemmas.List.{at_drop_all, get_or_default}
use Rattle.mt_terms.specs.declared.matching.Match.{Match}
use Rattle.mt_orders.specs.Tried.{first_some}
use Rattle.mt_orders.proofs.TriedFacts.{none_at, some_at}
use Rattle.mt_orders.proofs.tried.first_some.Goals as goal

pub loop-place-preserved : goal.loop-place-preserved
loop-place-preserved c =
    let xs = c.args.ends.items in
    let place = c.loop-place.place in
    let x = c.index.result.now in
    let same = c.loop-place.invariant.same in
    let l : place < length xs = omega (arith, c.args.ends.ok.0) in
    record {
      same = same;
      none = sym (none_at xs place x l (c.index.ensures ∙ ap (λ (v : Vec (Option Match) Global). get_or v.items place x) same) (sym c.is_some.ensures ∙ c.if-is_some.false))
          ∙ c.loop-place.invariant.none;
    }

pub returns-then-is_some : goal.returns-then-is_some
returns-then-is_some c =
    let xs = c.args.ends.items in
    let place = c.loop-place.place in
    let x = c.index.result.now in
    let same = c.loop-place.invariant.same in
    let l : place < length xs = omega (arith, c.args.ends.ok.0) in
    let at : x ≡ get_or xs place x = c.index.ensures ∙ ap (λ (v : Vec (Option Match) Global). get_or v.items place x) same in
    c.swap_remove.ensures.value ∙ ap (λ (v : Vec (Option Match) Global). get_or v.items place c.swap_remove.result) same
    ∙ get_or_default xs place c.swap_remove.result x l ∙ sym at
    ∙ sym (some_at xs place x l at (sym c.is_some.ensures ∙ c.if-is_some.true)) ∙ c.loop-place.invariant.none

pub returns : goal.returns
returns c =
    sym (at_drop_all first_some c.args.ends.items c.loop-place.place (omega (arith, c.args.ends.ok.0))) ∙ c.loop-place.invariant.none
