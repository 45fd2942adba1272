use Rattle.std.proofs.Common.{◌≡◌, ◌∙◌, ◌∷◌, length, true, false, refl, sym, ap, arith, rules}
use Rattle.std.proofs.lemmas.Bool.Decides.{nat_tests}
use Rattle.mt_lists.specs.Lines.{ends_line}
use Rattle.mt_line_numbers.specs.LineEnds.{without_line_ends}
use Rattle.mt_line_numbers.proofs.EndFacts.{no_byte, without-end, without-none}
use Rattle.mt_line_numbers.proofs.place.Place.past_line_ends.Goals.{else-byte-ne10-via-then-byte-ne10+else-byte-ne13, else-byte-ne10-via-else-byte-ne10}
use Rattle.mt_line_numbers.proofs.place.Place.past_line_ends.Goals as goal

pub returns-then-byte-ne13-clause-rest : goal.returns-then-byte-ne13-clause-rest
returns-then-byte-ne13-clause-rest c =
    let parts : c.loop-byte.place.rest.now ≡ c.in-Some.byte.now ∷ c.in-Some.rest.now = search rules in
    let goes : ends_line c.in-Some.byte.now ≡ false = grind (arith, nat_tests, c.if-byte-ne10.true, c.if-byte-ne13.true) in
    sym (without-none c.loop-byte.place.rest.now (rw parts goes)) ∙ c.loop-byte.invariant.rest

pub loop-byte-preserved : goal.loop-byte-preserved
loop-byte-preserved c =
    let parts : c.loop-byte.place.rest.now ≡ c.in-Some.byte.now ∷ c.in-Some.rest.now = search rules in
    let ends : ends_line c.in-Some.byte.now ≡ true =
    elim c.else-byte-ne10.branch [
      | else-byte-ne10-via-then-byte-ne10+else-byte-ne13 w ↦ grind (arith, nat_tests, w.if-byte-ne13.false)
      | else-byte-ne10-via-else-byte-ne10 w ↦ grind (arith, nat_tests, w.if-byte-ne10.false)
    ] in
    record {
      rest = ap without_line_ends c.past_byte-place.ensures.rest ∙ sym (without-end c.in-Some.byte.now c.in-Some.rest.now ends) ∙ sym (ap without_line_ends parts) ∙ c.loop-byte.invariant.rest;
      lines = c.past_byte-place.ensures.lines ∙ c.loop-byte.invariant.lines;
    }

pub returns-clause-rest : goal.returns-clause-rest
returns-clause-rest c =
    let none : length c.loop-byte.place.rest.now ≡ 0 = search rules in
    sym (without-none c.loop-byte.place.rest.now (rw (no_byte c.loop-byte.place.rest.now none) refl)) ∙ c.loop-byte.invariant.rest
