use Rattle.std.proofs.lemmas.Grind.{common_steps}
use Rattle.std.proofs.Common.{◌≡◌, ◌∙◌, ◌<◌, ◌-◌, Bool, true, false, not, List, [], length, get_or, slice_set, max, refl, ap, ap₂, subst, sym, arith, ltb-true}
use Rattle.std.proofs.lemmas.Bool.{eqb-true}
use Rattle.mt_stage_tables.specs.Indexing.{AddsPair}
use Rattle.mt_stage_tables.specs.declared.couple_list.NamedPairs.{NamedPairs}
use Rattle.mt_stage_tables.proofs.IndexFacts.{named_extended}
use Rattle.mt_stage_tables.proofs.couple_list.CoupleLists.extend.Goals as goal

not_false : (b : Bool) → not b ≡ false → b ≡ true
not_false true e = refl
not_false false e = sym e

pub returns-clause-added : goal.returns-clause-added
returns-clause-added c = λ yes.
    let named = c.self.inside.named in
    let p = c.args.program in
    let row = c.row-row.result.now in
    let last = c.in-Some.last.now in
    let j = length row - 1 in
    let new : NamedPairs = record { couple = c.args.couple; from = last.from; until = c.max.result } in
    let item = c.in-Some.ensures.item in
    let same : last.couple ≡ c.args.couple = eqb-true last.couple c.args.couple (not_false _ (sym c.ne.ensures ∙ c.if-ne.false)) in
    let within : j < length row = omega (arith, ltb-true 0 (length row) (sym item.0)) in
    let extended : AddsPair row (slice_set row j new) last.couple c.args.from =
    named_extended row j c.args.from last new within item.1 c.if-last-from.false (sym same) refl (c.max.ensures ∙ ap (max last.until) c.saturating_add.ensures) in
    record {
      row = slice_set row j new;
      is = c.set.ensures ∙ ap₂ (λ (rows : List (List NamedPairs)) (r : List NamedPairs). slice_set rows p (slice_set r j new)) c.self.view_is (sym c.row-row.ensures);
      adds = subst (λ d. AddsPair (get_or c.args.self.now p []) (slice_set row j new) d c.args.from) same
          (subst (λ r. AddsPair r (slice_set row j new) last.couple c.args.from) (c.row-row.ensures ∙ ap (λ (rows : List (List NamedPairs)). get_or rows p []) c.self.view_is) extended);
    }

pub returns-clause-same : goal.returns-clause-same
returns-clause-same c = grind (arith, common_steps)

pub set-requires-clause-row : goal.set-requires-clause-row
set-requires-clause-row c = grind (arith, common_steps)

pub set-requires-clause-index : goal.set-requires-clause-index
set-requires-clause-index c = grind (arith, common_steps)

pub returns-then-ne-clause-same : goal.returns-then-ne-clause-same
returns-then-ne-clause-same c = grind (arith, common_steps)

pub returns-then-ne-clause-added : goal.returns-then-ne-clause-added
returns-then-ne-clause-added c = grind (arith, common_steps)

pub row-row-requires : goal.row-row-requires
row-row-requires c = grind (arith, common_steps)

pub invariant_of-self : goal.invariant_of-self
invariant_of-self c = grind (arith, common_steps)
