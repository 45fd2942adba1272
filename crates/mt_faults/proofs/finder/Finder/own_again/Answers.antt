use Rattle.std.proofs.Common.{ap, ◌∙◌, take}
use Rattle.mt_terms.specs.declared.codes.TheConstants.{DUPLICATE_ID}
use Rattle.mt_ids.specs.Kinds.{kind_seen}
use Rattle.mt_fault_terms.specs.OfRecord.{found_among}
use Rattle.mt_fault_terms.specs.Parts.{Registers}
use Rattle.mt_faults.specs.Seen.{form_seen, parts_seen}
use Rattle.mt_faults.proofs.RecordFacts.{own_applicant, own_couple, own_program}
use Rattle.mt_faults.proofs.StandingFacts.{is_applicant_before, is_couple_before, is_program_before}
use Rattle.mt_faults.proofs.finder.Finder.own_again.Goals as goal

pub returns-in-Registers-Program : goal.returns-in-Registers-Program
returns-in-Registers-Program c = λ all before s.
    let f = c.args.self.now in
    let is_kind = rw c.in-Registers-Program.is at c.in-Registers-Program.field-0-is in
    c.found.ensures f.rules
    ∙ own_program f.rules before (parts_seen c.args.parts.now) _ (ap form_seen c.in-Registers-Program.is ∙ ap (λ k. Registers (kind_seen k)) is_kind) (is_program_before f all before s)

pub returns-in-Registers-Applicant : goal.returns-in-Registers-Applicant
returns-in-Registers-Applicant c = λ all before s.
    let f = c.args.self.now in
    let is_kind = rw c.in-Registers-Applicant.is at c.in-Registers-Applicant.field-0-is in
    c.found-in-Registers-Applicant.ensures f.rules
    ∙ own_applicant f.rules before (parts_seen c.args.parts.now) _ (ap form_seen c.in-Registers-Applicant.is ∙ ap (λ k. Registers (kind_seen k)) is_kind) (is_applicant_before f all before s)

pub returns-in-Registers-Couple : goal.returns-in-Registers-Couple
returns-in-Registers-Couple c = λ all before s.
    let f = c.args.self.now in
    let is_kind = rw c.in-Registers-Couple.is at c.in-Registers-Couple.field-0-is in
    c.found-in-Registers-Couple.ensures f.rules ∙ ap (found_among f.rules DUPLICATE_ID (take f.before.couples.seen f.registry.registered.couples)) c.first.ensures
    ∙ own_couple f.rules before (parts_seen c.args.parts.now) _ (ap form_seen c.in-Registers-Couple.is ∙ ap (λ k. Registers (kind_seen k)) is_kind) (is_couple_before f all before s)
