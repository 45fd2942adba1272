use Rattle.std.proofs.Common.{sym, ap, ◌∙◌}
use Rattle.std.specs.Prelude.{option_map}
use Rattle.std.specs.List.{flat_map}
use Rattle.mt_lists.specs.Rows.{fields_left}
use Rattle.mt_terms.specs.Registration.Faults.{record_fault}
use Rattle.mt_terms.specs.declared.codes.TheConstants.{UNKNOWN_PROGRAM}
use Rattle.mt_terms.specs.Registration.Records.{OfProgram}
use Rattle.mt_terms.specs.Registration.Passes.{first_not_in, unknown_id, named}
use Rattle.mt_records.specs.Fields.{pairs_after}
use Rattle.mt_records.specs.Records.{record_seen}
use Rattle.mt_passes.specs.Registers.{contents_seen}
use Rattle.mt_passes.proofs.register.Register.unknown_id.Goals as goal

pub returns-in-Applicant : goal.returns-in-Applicant
returns-in-Applicant c =
    c.record_fault_of-in-Applicant.ensures
    ∙ ap (option_map (record_fault UNKNOWN_PROGRAM)) (c.first_unknown-in-Applicant.ensures ∙ ap (λ ids. first_not_in ids (fields_left c.in-Applicant.list)) (c.requires.registered OfProgram))
    ∙ sym (ap (λ r. unknown_id (contents_seen c.args.self.now) (record_seen r)) c.in-Applicant.is)

pub returns-in-Couple : goal.returns-in-Couple
returns-in-Couple c =
    let registered = contents_seen c.args.self.now in
    c.record_fault_of-in-Couple.ensures
    ∙ ap (option_map (record_fault UNKNOWN_PROGRAM))
    (c.first_unknown_of_pairs.ensures ∙ ap (λ pairs. first_not_in c.args.self.now.registered.programs (flat_map named pairs)) c.pairs.ensures
    ∙ ap (λ ids. first_not_in ids (flat_map named (pairs_after c.in-Couple.fields))) (c.requires.registered OfProgram))
    ∙ sym (ap (λ r. unknown_id registered (record_seen r)) c.in-Couple.is)
