use Rattle.std.proofs.Common.{sym, ◌∙◌, ap}
use Rattle.mt_lists.specs.Rows.{fields_left}
use Rattle.mt_terms.specs.Registration.Records.{OfApplicant}
use Rattle.mt_terms.specs.Registration.Passes.{registered_before}
use Rattle.mt_terms.specs.Registration.Ids.{has_id}
use Rattle.mt_records.specs.Records.{record_seen}
use Rattle.mt_passes.specs.Registers.{contents_seen}
use Rattle.mt_passes.proofs.RegisterFacts.{new_single}
use Rattle.mt_passes.proofs.register.Register.push_ids.Goals as goal

pub push-requires-in-Applicant : goal.push-requires-in-Applicant
push-requires-in-Applicant c =
    ap (λ ids. has_id ids c.in-Applicant.id.now) (c.requires.register.registered OfApplicant)
    ∙ new_single (contents_seen c.args.self.now) c.in-Applicant.id.now (fields_left c.in-Applicant.list) (ap (λ r. registered_before (contents_seen c.args.self.now) (record_seen r)) (sym c.in-Applicant.is) ∙ c.requires.new)
