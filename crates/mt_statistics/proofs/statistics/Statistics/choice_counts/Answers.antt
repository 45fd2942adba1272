use Rattle.std.proofs.Common.{◌∙◌, ap, subst, length, arith}
use Rattle.std.proofs.lemmas.Result.{IfOk-weaker}
use Rattle.mt_terms.specs.Market.{applicants}
use Rattle.mt_terms.specs.Registration.Accepted.{IsRegistration}
use Rattle.mt_terms.specs.declared.numbers.Agent.TheVariants.{Single}
use Rattle.mt_terms.proofs.BelowFacts.{length-map_below}
use Rattle.mt_verify.specs.Held.{held_option}
use Rattle.mt_verify.specs.Judged.{Judged}
use Rattle.mt_statistics.specs.Held.{held_counts}
use Rattle.mt_statistics.proofs.HeldFacts.{choice_counts_are}
use Rattle.mt_statistics.proofs.statistics.Statistics.choice_counts.Goals as goal

pub held_counts-requires : goal.held_counts-requires
held_counts-requires c =
    let d : Judged = c.args.self.now in
    let registration : IsRegistration d.registered = subst IsRegistration c.roster.ensures c.is_of_a_file.ensures in
    omega (
      arith,
      ap length c.deref.ensures.value,
      ap length c.in_ok-held.ensures,
      length-map_below (λ a. held_option d.registered.market d.places (Single a)) (applicants d.registered.market),
      registration.few_applicants,
    )

pub returns : goal.returns
returns c =
    let d : Judged = c.args.self.now in
    let registration : IsRegistration d.registered = subst IsRegistration c.roster.ensures c.is_of_a_file.ensures in
    IfOk-weaker c.held_counts.result _ _
    (λ v is. is ∙ ap held_counts (c.deref.ensures.value ∙ c.in_ok-held.ensures) ∙ choice_counts_are d.registered.market d.places registration.well_formed)
    c.held_counts.ensures
