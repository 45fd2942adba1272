use Rattle.std.proofs.Common.{◌≡◌, ◌∙◌, ◌++◌, ◌∷◌, [], ◌+◌, take, ap, sym, subst, inl, inr}
use Rattle.std.proofs.lemmas.List.{take_more}
use Rattle.mt_terms.specs.Lists.{has}
use Rattle.mt_watch.specs.Found.{Covers}
use Rattle.mt_stage_tables.proofs.PlaceFacts.{has_read}
use Rattle.mt_stage_tables.proofs.GrowingFacts.{each_all, has_parts}
use Rattle.mt_watch.proofs.FoundFacts.{covers_all}
use Rattle.mt_couples.proofs.recheck.Recheck.reopened_applicants.Goals as goal

pub add_reopened-requires-clause-program : goal.add_reopened-requires-clause-program
add_reopened-requires-clause-program g c κs within =
    c.requires.programs c.program-item.result (has_read c.args.left.now c.loop-program.program-index c.program-item.result c.loop-program-test.true c.program-item.is)

pub loop-program-preserved : goal.loop-program-preserved
loop-program-preserved g c =
    let t = c.args.self.now in
    let left = c.args.left.now in
    let ws = c.args.waiting.now.agents in
    let i = c.loop-program.program-index in
    let p = c.program-item.result in
    let adds = c.in_ok-add_reopened.ensures.adds in
    let so_far = c.loop-program.invariant in
    let front : take (i + 1) left ≡ take i left ++ p ∷ [] = take_more left i p c.loop-program-test.true ∙ ap (λ q. take i left ++ q ∷ []) (sym c.program-item.is) in
    record {
      within = adds.within so_far.within;
      covers = λ q on. elim (has_parts (take i left) p q (ap (λ ps. has ps q) (sym front) ∙ on)) [
        | inl earlier ↦ (λ a known reopened. adds.keeps a (so_far.covers q earlier a known reopened))
        | inr now ↦ subst (λ r. Covers t.last t.assignment.now (r ∷ []) ws c.add_reopened.new.found.items) now c.in_ok-add_reopened.ensures.covers
      ];
    }

pub returns-clause-covers : goal.returns-clause-covers
returns-clause-covers g c =
    let found = c.loop-program.found.items in
    covers_all c.args.self.now.last c.args.self.now.assignment.now c.args.left.now c.args.waiting.now.agents found
    (each_all (λ p. Covers c.args.self.now.last c.args.self.now.assignment.now (p ∷ []) c.args.waiting.now.agents found) c.args.left.now c.loop-program.program-index c.loop-program-test.false c.loop-program.invariant.covers)
