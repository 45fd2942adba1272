use Rattle.std.proofs.Common.{◌≡◌, ◌∙◌, ◌∷◌, length, refl, sym, ap, rules}
use Rattle.mt_line_numbers.specs.LineEnds.{without_line_ends}
use Rattle.mt_line_numbers.specs.Within.{state_of}
use Rattle.mt_line_numbers.proofs.EndFacts.{no_byte, without-end}
use Rattle.mt_line_numbers.proofs.ScanFacts.{left_from, left_from-end, left_from-more, left_from-nothing, left_from-start}
use Rattle.mt_line_numbers.proofs.place.Place.record_end.Goals as goal

pub loop-byte-init : goal.loop-byte-init
loop-byte-init c = record { rest = sym (left_from-start c.args.self.rest.now c.requires); lines = refl }

pub returns-in-None-clause-rest : goal.returns-in-None-clause-rest
returns-in-None-clause-rest c =
    let parts : c.loop-byte.here.rest.now ≡ c.in-Some.byte.now ∷ c.in-Some.rest.now = search rules in
    let s = state_of c.loop-byte.within in
    let left = ap (left_from s) parts ∙ left_from-end s c.in-Some.byte.now c.in-Some.rest.now c.in-None.ensures.0 in
    ap without_line_ends parts ∙ without-end c.in-Some.byte.now c.in-Some.rest.now c.in-None.ensures.1 ∙ sym (ap without_line_ends left) ∙ ap without_line_ends c.loop-byte.invariant.rest

pub loop-byte-preserved : goal.loop-byte-preserved
loop-byte-preserved c =
    let parts : c.loop-byte.here.rest.now ≡ c.in-Some.byte.now ∷ c.in-Some.rest.now = search rules in
    let s = state_of c.loop-byte.within in
    let t = state_of c.in-Some-after.next in
    let left = ap (left_from s) parts ∙ left_from-more s t c.in-Some.byte.now c.in-Some.rest.now c.in-Some-after.ensures.0 c.in-Some-after.ensures.1 in
    record {
      rest = ap (left_from t) c.past_byte-here.ensures.rest ∙ sym left ∙ c.loop-byte.invariant.rest;
      lines = c.past_byte-here.ensures.lines ∙ c.loop-byte.invariant.lines;
    }

pub returns-clause-rest : goal.returns-clause-rest
returns-clause-rest c =
    let none : length c.loop-byte.here.rest.now ≡ 0 = search rules in
    let s = state_of c.loop-byte.within in
    let nothing = no_byte c.loop-byte.here.rest.now none in
    ap without_line_ends (nothing ∙ sym (left_from-nothing s) ∙ sym (ap (left_from s) nothing) ∙ c.loop-byte.invariant.rest)
