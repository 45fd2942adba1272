use Rattle.std.proofs.lemmas.Grind.{common_steps}
use Rattle.std.proofs.Common.{◌∙◌, ◌&&◌, Bool, ap, sym, arith}
use Rattle.std.specs.List.{list_any}
use Rattle.mt_terms.specs.Matching.{Placement}
use Rattle.mt_terms.specs.Stability.{would_be_taken}
use Rattle.mt_terms.proofs.ListFacts.{list_any-map}
use Rattle.mt_assignment.specs.Assigned.{pair_of}
use Rattle.mt_assignment.specs.Moves.{names_one_of}
use Rattle.mt_assignment.specs.Watched.{better_pairs}
use Rattle.mt_assignment.proofs.LiveFacts.{better_couple}
use Rattle.mt_assignment.proofs.assignment.Assignment.couple_opens.Goals as goal

pub loop-pair-init : goal.loop-pair-init
loop-pair-init c =
    let s = c.args.self.now in
    let d = c.args.couple in
    let passes : Placement → Bool = λ o. names_one_of c.args.programs.now o && would_be_taken s.market s.places o in
    ap (list_any (λ pair. passes (pair_of s d pair))) c.better_pairs-pair-items.ensures.list
    ∙ sym (list_any-map passes (pair_of s d) (better_pairs s d))
    ∙ ap (list_any passes) (sym (better_couple s d))

pub loop-pair-preserved : goal.loop-pair-preserved
loop-pair-preserved c = grind (arith, common_steps)

pub returns : goal.returns
returns c = grind (arith, common_steps)

pub returns-then-would_be_taken : goal.returns-then-would_be_taken
returns-then-would_be_taken c = grind (arith, common_steps)
