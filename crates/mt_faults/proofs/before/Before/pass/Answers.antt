use Rattle.std.proofs.Common.{[], ◌∷◌, ◌++◌}
use Rattle.std.proofs.lemmas.Result.{on_ok_weaker}
use Rattle.mt_terms.specs.Registration.Records.{OfProgram, OfApplicant, OfCouple}
use Rattle.mt_faults.specs.Seen.{parts_seen}
use Rattle.mt_faults.proofs.StandingFacts.{is_before_more, passed_applicants, passed_entries, passed_own, passed_withdrawn}
use Rattle.mt_faults.proofs.before.Before.pass.Goals as goal

pub returns : goal.returns
returns c =
    let rules = c.args.rules.now in
    let p = parts_seen c.args.parts.now in
    let old = c.args.self.now in
    let named = c.names_of-ids.ensures in
    on_ok_weaker c.add_ids-3.result
    (λ h before rest registry is. is_before_more rules (before ++ p ∷ []) _
    (passed_own rules before rest p OfProgram c.args.registry.now.registered.programs old.programs c.with-self.result _ (named.programs rules) (registry.registered OfProgram) c.with-self.ensures is.programs)
    (passed_own rules before rest p OfCouple c.args.registry.now.registered.couples old.couples c.with-self-2.result _ (named.couples rules) (registry.registered OfCouple) c.with-self-2.ensures is.couples)
    (passed_applicants rules before rest p c.args.registry.now.applicants old.applicants c.with-self-3.result _ (named.applicants rules) registry.applicants c.with-self-3.ensures is.applicants)
    (passed_entries rules before rest p old.entries c.entries_of.result c.saturating_add-self.result is.entries c.entries_of.ensures c.saturating_add-self.ensures)
    (passed_withdrawn rules before rest p OfProgram old.withdrawn.programs _ _ (named.withdrawn_programs rules) c.in_ok-add_ids.ensures (is.withdrawn OfProgram))
    (passed_withdrawn rules before rest p OfApplicant old.withdrawn.applicants _ _ (named.withdrawn_singles rules) c.in_ok-add_ids-2.ensures (is.withdrawn OfApplicant))
    (passed_withdrawn rules before rest p OfCouple old.withdrawn.couples _ _ (named.withdrawn_couples rules) h (is.withdrawn OfCouple)))
    c.add_ids-3.ensures
