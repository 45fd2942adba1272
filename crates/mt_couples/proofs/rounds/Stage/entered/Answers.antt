-- Each couple that has entered is noted in turn, and nothing else changes.
use Rattle.std.proofs.Common.{◌∙◌, ap, arith, length}
use Rattle.mt_assignment.specs.Assigned.{Assigned}
use Rattle.mt_couples.proofs.StageFacts.{at_first}
use Rattle.mt_round_laws.proofs.PlacesFacts.{fits_are_places}
use Rattle.mt_rounds.proofs.RoundFacts.{listed_of_fitting}
use Rattle.mt_couples.proofs.rounds.Stage.entered.Goals as goal

pub new-requires-clause-places : goal.new-requires-clause-places
new-requires-clause-places g c κs within = fits_are_places c.args.roster.now.market c.is_of_a_file.ensures.well_formed c.args.matched.places c.requires.fits

pub new-requires-clause-listed : goal.new-requires-clause-listed
new-requires-clause-listed g c κs within = listed_of_fitting c.args.roster.now.market c.args.matched.places c.is_of_a_file.ensures.well_formed c.requires.fits

pub note_entered-requires-clause-couple : goal.note_entered-requires-clause-couple
note_entered-requires-clause-couple g c =
    omega (arith, ap (λ (s : Assigned). length s.market.couples) c.loop-number.invariant.assigned, c.requires.couples)

pub loop-number-preserved : goal.loop-number-preserved
loop-number-preserved g c = record {
  assigned = c.in_ok-note_entered.ensures.assignment ∙ c.loop-number.invariant.assigned;
  between = c.in_ok-note_entered.ensures.entered;
}

pub loop-number-init : goal.loop-number-init
loop-number-init g c = record {
  assigned = c.in_ok-stage.ensures.assigned;
  between = at_first c.args.roster.now.market c.is_of_a_file.ensures.well_formed c.args.matched.places c.in_ok-stage.stage c.requires.fits c.in_ok-stage.ensures;
}
