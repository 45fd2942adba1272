use Rattle.std.proofs.Common.{◌∙◌, ap, sym, Err}
use Rattle.std.proofs.lemmas.Result.{err_from_is_err_and}
use Rattle.mt_lists.specs.Rows.{rows_left}
use Rattle.mt_terms.specs.Registration.Passes.{first_pass, numbered_from}
use Rattle.mt_passes.specs.Registers.{records_seen}
use Rattle.mt_passes.proofs.PassFacts.{pass_ends, refused}
use Rattle.mt_passes.proofs.first.first_pass.Goals as goal

pub returns-in_err-read_row : goal.returns-in_err-read_row
returns-in_err-read_row c =
    let p = err_from_is_err_and c.from_residual.result c.from_residual.ensures.1 in
    refused _ c.from_residual.result c.in_err-read_row.field-0.0 _ (p.1 ∙ ap Err p.2)
    (pass_ends c.in_err-read_row.field-0.0 _ _ (c.in_err-read_row.ensures (rows_left c.next.new.self))
    (ap (λ rows. first_pass c.args.rules.now (records_seen c.loop-row.register) (numbered_from c.loop-row.number rows)) (sym c.in-Some.ensures.steps) ∙ c.loop-row.invariant.goes_on))
