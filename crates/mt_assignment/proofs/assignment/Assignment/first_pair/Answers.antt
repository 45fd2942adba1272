use Rattle.std.proofs.lemmas.Grind.{common_steps}
use Rattle.std.proofs.Common.{◌≡◌, ◌∙◌, length, take, ap, sym, arith}
use Rattle.std.specs.List.{find}
use Rattle.std.specs.Option.{option_map}
use Rattle.mt_terms.specs.Market.{couple_of}
use Rattle.mt_terms.specs.Matching.{holds}
use Rattle.mt_terms.specs.Stability.{would_be_taken}
use Rattle.mt_assignment.specs.Assigned.{pair_of}
use Rattle.mt_assignment.specs.Watched.{better_pairs}
use Rattle.mt_assignment.proofs.LiveFacts.{find-map, better_couple}
use Rattle.mt_stage_tables.proofs.FrontFacts.{until_take}
use Rattle.mt_assignment.proofs.assignment.Assignment.first_pair.Goals as goal

-- the pairs that are searched are the better ones
front : (c : goal.After-couple_list) → take c.args.better c.couple_list.result.now ≡ better_pairs c.args.self.now c.args.couple
front c =
    let s = c.args.self.now in
    let d = c.args.couple in
    let pairs = (couple_of s.market d).pairs in
    ap (take c.args.better) (c.couple_list.ensures ∙ ap (λ m. (couple_of m d).pairs) c.roster.ensures.market) ∙ ap (λ n. take n pairs) c.requires.better
    ∙ until_take (λ pair. holds s.places (pair_of s d pair)) pairs

pub loop-pair-init : goal.loop-pair-init
loop-pair-init c =
    let s = c.args.self.now in
    let d = c.args.couple in
    ap (λ ps. option_map (pair_of s d) (find (λ pair. would_be_taken s.market s.places (pair_of s d pair)) ps)) (front c)
    ∙ sym (find-map (would_be_taken s.market s.places) (pair_of s d) (better_pairs s d))
    ∙ ap (find (would_be_taken s.market s.places)) (sym (better_couple s d))

pub slice_bounds-pair-items-end : goal.slice_bounds-pair-items-end
slice_bounds-pair-items-end c = c.requires.better ∙ sym (ap length (front c))

pub loop-pair-preserved : goal.loop-pair-preserved
loop-pair-preserved c = grind (arith, common_steps)

pub returns : goal.returns
returns c = grind (arith, common_steps)

pub returns-then-would_be_taken : goal.returns-then-would_be_taken
returns-then-would_be_taken c = grind (arith, common_steps)

pub offset_bounds-pair-items-pair-index : goal.offset_bounds-pair-items-pair-index
offset_bounds-pair-items-pair-index c = grind (arith, common_steps)
