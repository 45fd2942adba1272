use Rattle.std.proofs.Common.{ap, ◌∙◌, take, ◌*◌, ◌/◌}
use Rattle.mt_terms.specs.declared.codes.TheConstants.{UNKNOWN_PROGRAM}
use Rattle.mt_terms.specs.Registration.Ids.{has_id}
use Rattle.mt_terms.specs.Registration.Records.{OfProgram}
use Rattle.mt_ids.specs.Kinds.{kind_seen}
use Rattle.mt_fault_terms.specs.OfRecord.{missing_among}
use Rattle.mt_fault_terms.specs.Parts.{Registers}
use Rattle.mt_faults.specs.Seen.{form_seen, parts_seen, placed_left}
use Rattle.mt_faults.proofs.PartsFacts.{fields_of_pairs}
use Rattle.mt_faults.proofs.RecordFacts.{unknown_applicants, unknown_in_pairs, unknown_programs, unregistered}
use Rattle.mt_faults.proofs.StandingFacts.{is_applicant, is_registered}
use Rattle.mt_faults.proofs.finder.Finder.unknown.Goals as goal

pub returns-in-Registers-Program : goal.returns-in-Registers-Program
returns-in-Registers-Program c = λ all before s.
    let f = c.args.self.now in
    let is_kind = rw c.in-Registers-Program.is at c.in-Registers-Program.field-0-is in
    c.missing.ensures f.rules
    ∙ unknown_applicants f.rules all (parts_seen c.args.parts.now) _ (ap form_seen c.in-Registers-Program.is ∙ ap (λ k. Registers (kind_seen k)) is_kind) (is_applicant f all before s)

pub returns-in-Registers-Applicant : goal.returns-in-Registers-Applicant
returns-in-Registers-Applicant c = λ all before s.
    let f = c.args.self.now in
    let is_kind = rw c.in-Registers-Applicant.is at c.in-Registers-Applicant.field-0-is in
    c.missing-in-Registers-Applicant.ensures f.rules
    ∙ unknown_programs f.rules all (parts_seen c.args.parts.now) _ (ap form_seen c.in-Registers-Applicant.is ∙ ap (λ k. Registers (kind_seen k)) is_kind) (is_registered f all before s OfProgram)

pub returns-in-Registers-Couple : goal.returns-in-Registers-Couple
returns-in-Registers-Couple c = λ all before s.
    let f = c.args.self.now in
    let is_kind = rw c.in-Registers-Couple.is at c.in-Registers-Couple.field-0-is in
    let pairs = placed_left c.args.parts.now.pairs in
    let fields = c.first-fields.ensures ∙ ap (λ n. take (n / 2 * 2) pairs) c.len.ensures ∙ fields_of_pairs pairs in
    c.missing-in-Registers-Couple.ensures f.rules
    ∙ ap (missing_among f.rules UNKNOWN_PROGRAM f.registry.registered.programs) fields
    ∙ unknown_in_pairs f.rules all (parts_seen c.args.parts.now) _ (ap form_seen c.in-Registers-Couple.is ∙ ap (λ k. Registers (kind_seen k)) is_kind) (is_registered f all before s OfProgram)

pub returns-in-Withdraws : goal.returns-in-Withdraws
returns-in-Withdraws c = λ all before s.
    let f = c.args.self.now in
    let kind = kind_seen c.in-Withdraws.kind in
    c.missing-in-Withdraws.ensures f.rules
    ∙ unregistered f.rules all (parts_seen c.args.parts.now) kind _ (ap form_seen c.in-Withdraws.is) (λ id. ap (λ table. has_id table id) c.of.ensures ∙ is_registered f all before s kind id)
