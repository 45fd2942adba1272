use Rattle.std.proofs.Common.{◌+◌, ap, ◌∙◌, arith, length, refl}
use Rattle.mt_terms.specs.Registration.Records.{OfProgram, OfCouple}
use Rattle.mt_records.specs.Records.{record_seen}
use Rattle.mt_passes.specs.Registers.{contents_seen}
use Rattle.mt_passes.proofs.CountFacts.{too_many_rows, too_many_entries}
use Rattle.mt_passes.proofs.register.Register.are_too_many.Goals as goal

pub returns-then-are_over : goal.returns-then-are_over
returns-then-are_over c =
    too_many_rows (contents_seen c.args.self.now) (record_seen c.args.record.now) c.args.limits.now _ _ _ _
    (omega (arith, c.len.ensures.len, ap length c.requires.applicants, c.applicant_count.ensures))
    (omega (arith, c.len-2.ensures.len, ap length (c.requires.registered OfProgram), c.program_count.ensures))
    (omega (arith, c.len-3.ensures.len, ap length (c.requires.registered OfCouple), c.couple_count.ensures))
    refl
    c.are_over.result c.are_over.ensures c.if-are_over.true

pub returns-else-are_over : goal.returns-else-are_over
returns-else-are_over c =
    c.adds_too_many.ensures
    ∙ too_many_entries (contents_seen c.args.self.now) (record_seen c.args.record.now) c.args.limits.now _ _ _ (c.args.self.now.entries + c.entry_count.result)
    (omega (arith, c.len.ensures.len, ap length c.requires.applicants, c.applicant_count.ensures))
    (omega (arith, c.len-2.ensures.len, ap length (c.requires.registered OfProgram), c.program_count.ensures))
    (omega (arith, c.len-3.ensures.len, ap length (c.requires.registered OfCouple), c.couple_count.ensures))
    (omega (arith, c.requires.entries, c.entry_count.ensures))
    c.are_over.result c.are_over.ensures c.if-are_over.false
