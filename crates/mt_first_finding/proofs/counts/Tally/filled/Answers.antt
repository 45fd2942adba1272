use Rattle.std.proofs.Common.{◌<◌, arith, ap, refl, ◌∙◌, length, get_or}
use Rattle.std.proofs.lemmas.List.{get_or_read_under}
use Rattle.mt_terms.specs.Matching.{filled}
use Rattle.mt_terms.proofs.BelowFacts.{length-map_below, map_below_at}
use Rattle.mt_first_finding.proofs.counts.Tally.filled.Goals as goal

pub index-requires-2 : goal.index-requires-2
index-requires-2 c =
    let tally = c.args.self.now in
    omega (arith, c.requires, ap length tally.are_at_programs, length-map_below (filled tally.matched.now.places) (length tally.roster.now.market.programs), c.index.ensures)

pub returns : goal.returns
returns c =
    let tally = c.args.self.now in
    let n = length tally.roster.now.market.programs in
    let at = filled tally.matched.now.places in
    let within : c.args.program < length tally.at_programs.items =
    omega (arith, c.requires, ap length tally.are_at_programs, length-map_below at n) in
    let read = get_or_read_under tally.at_programs.items c.args.program (length tally.at_programs.items) c.index-2.result.now 0 (rw c.index.ensures at c.index-2.ensures) within refl in
    read ∙ ap (λ xs. get_or xs c.args.program 0) tally.are_at_programs ∙ map_below_at at n c.args.program 0 c.requires
