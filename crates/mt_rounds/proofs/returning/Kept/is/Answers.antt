-- The kept list begins with the front of the work list, and goes on with its back, or it is another one.
use Rattle.std.proofs.Common.{◌∙◌, ◌≡◌, ◌&&◌, ◌↔◌, None, Some, IsTrue, subst, sym}
use Rattle.std.proofs.lemmas.Slice.Eq.{slice_eq-Decides, strip_prefix_is}
use Rattle.mt_rounds.specs.Returning.{kept_state}
use Rattle.mt_rounds.specs.Running.{work_of}
use Rattle.mt_rounds.proofs.ReturningFacts.{agents_decide, other_begin, other_rest, places_decide, same_state}
use Rattle.mt_rounds.proofs.returning.Kept.is.Goals as goal

pub returns-then-eq : goal.returns-then-eq
returns-then-eq c =
    let kept = c.args.self.now in
    let front = c.parts.result.0.now in
    let back = c.parts.result.1.now in
    let rest = c.in-Some.rest.now in
    subst (λ b. IsTrue (b && c.eq-then-eq.result) ↔ (kept_state kept ≡ work_of c.args.assignment.now c.args.waiting.now)) c.if-eq.true
    (same_state c.as_slice-then-eq.result.now c.places.result.now kept.places.items c.args.assignment.now.places kept.waiting.items front back rest c.args.waiting.now.agents
    c.eq.result c.eq-then-eq.result c.as_slice-then-eq.ensures.value c.places.ensures c.parts.ensures
    (sym c.as_slice.ensures.value ∙ strip_prefix_is agents_decide c.as_slice.result.now front (Some c.in-Some.rest) c.in-Some.ensures.cases)
    (slice_eq-Decides agents_decide rest back c.eq.result c.eq.ensures)
    (slice_eq-Decides places_decide c.as_slice-then-eq.result.now c.places.result.now c.eq-then-eq.result c.eq-then-eq.ensures))

pub returns-else-eq : goal.returns-else-eq
returns-else-eq c =
    let kept = c.args.self.now in
    let front = c.parts.result.0.now in
    let back = c.parts.result.1.now in
    let rest = c.in-Some.rest.now in
    other_rest kept.places.items c.args.assignment.now.places kept.waiting.items front back rest c.args.waiting.now.agents c.eq.result c.parts.ensures
    (sym c.as_slice.ensures.value ∙ strip_prefix_is agents_decide c.as_slice.result.now front (Some c.in-Some.rest) c.in-Some.ensures.cases)
    (slice_eq-Decides agents_decide rest back c.eq.result c.eq.ensures) c.if-eq.false

pub returns-in-None : goal.returns-in-None
returns-in-None c =
    let kept = c.args.self.now in
    let front = c.parts.result.0.now in
    other_begin kept.places.items c.args.assignment.now.places kept.waiting.items front c.parts.result.1.now c.args.waiting.now.agents c.parts.ensures
    (λ rest e. strip_prefix_is agents_decide c.as_slice.result.now front None c.in-None.ensures.cases rest (c.as_slice.ensures.value ∙ e))
