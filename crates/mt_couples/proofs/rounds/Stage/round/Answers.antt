use Rattle.std.proofs.lemmas.Grind.{common_steps}
use Rattle.std.proofs.Common.{◌∙◌, Some, sym, ap, ap₂, subst, arith}
use Rattle.mt_terms.specs.Matching.{single_placement, couple_placement}
use Rattle.mt_terms.specs.Rounds.{first_taken}
use Rattle.mt_terms.specs.Market.{IsAgentOf}
use Rattle.mt_rounds.proofs.RoundFacts.{front_within, front_takes}
use Rattle.mt_couples.proofs.rounds.Stage.round.Goals as goal

pub first_program-requires : goal.first_program-requires
first_program-requires g c = subst (IsAgentOf c.args.self.now.assignment.market) c.in-Single.is (front_within c.requires.running)

pub first_pair-requires-clause-couple : goal.first_pair-requires-clause-couple
first_pair-requires-clause-couple g c = subst (IsAgentOf c.args.self.now.assignment.market) c.in-Couple.is (front_within c.requires.running)

pub first_pair-requires-clause-better : goal.first_pair-requires-clause-better
first_pair-requires-clause-better g c =
    c.better-better.ensures ∙ c.requires.watched.counted.each c.in-Couple.couple (subst (IsAgentOf c.args.self.now.assignment.market) c.in-Couple.is (front_within c.requires.running))

pub take_option-requires-clause-taking : goal.take_option-requires-clause-taking
take_option-requires-clause-taking g c κs within =
    front_takes c.requires.running (single_placement c.in-Single.applicant c.in-Some.program)
    (ap (first_taken c.args.self.now.assignment.market c.args.self.now.assignment.places) c.in-Single.is ∙ sym c.in-Some.ensures)

pub take_option-requires-in-Couple-clause-taking : goal.take_option-requires-in-Couple-clause-taking
take_option-requires-in-Couple-clause-taking g c κs within =
    let pair = c.in-Some-first_pair.pair in
    front_takes c.requires.running (couple_placement c.members-first.result.0 c.members-first.result.1 pair)
    (ap (first_taken c.args.self.now.assignment.market c.args.self.now.assignment.places) c.in-Couple.is ∙ sym c.in-Some-first_pair.ensures
    ∙ ap₂ (λ a b. Some (couple_placement a b pair)) (sym c.members-first.ensures.first) (sym c.members-first.ensures.second))

pub index_better-requires-clause-couple : goal.index_better-requires-clause-couple
index_better-requires-clause-couple g c = subst (IsAgentOf c.args.self.now.assignment.market) c.in-Couple.is (front_within c.requires.running)

pub members-first-requires : goal.members-first-requires
members-first-requires g c = grind (arith, common_steps)
