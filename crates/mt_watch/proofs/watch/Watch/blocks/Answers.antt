use Rattle.std.proofs.Common.{◌∙◌, sym, ap, is_some}
use Rattle.mt_terms.specs.Market.{couple_of}
use Rattle.mt_terms.specs.Matching.{single_placement, couple_placement, better}
use Rattle.mt_terms.specs.Stability.{would_be_taken, blocks}
use Rattle.mt_terms.specs.declared.numbers.Agent.TheVariants.{Single, Couple}
use Rattle.mt_stage_tables.proofs.ListFacts.{is_some-find, is_some-option_map}
use Rattle.mt_watch.proofs.watch.Watch.blocks.Goals as goal

pub returns-in-Single : goal.returns-in-Single
returns-in-Single c =
    let m = c.args.assignment.now.market in
    let places = c.args.assignment.now.places in
    c.is_some.ensures ∙ is_some-option_map (single_placement c.in-Single.single) c.first_program.result ∙ ap is_some c.first_program.ensures
    ∙ sym (is_some-find (would_be_taken m places) (better m places (Single c.in-Single.single)))
    ∙ ap (blocks m places) (sym c.in-Single.is)

pub returns-in-Couple : goal.returns-in-Couple
returns-in-Couple c =
    let m = c.args.assignment.now.market in
    let places = c.args.assignment.now.places in
    let couple = couple_of m c.in-Couple.couple in
    c.is_some-in-Couple.ensures ∙ is_some-option_map (couple_placement couple.first couple.second) c.first_pair.result ∙ ap is_some c.first_pair.ensures
    ∙ sym (is_some-find (would_be_taken m places) (better m places (Couple c.in-Couple.couple)))
    ∙ ap (blocks m places) (sym c.in-Couple.is)
