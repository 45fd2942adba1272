use Rattle.std.proofs.Common.{List, sym, ◌∙◌, subst}
use Rattle.std.proofs.lemmas.Bool.{eqb-true, eqb-false}
use Rattle.mt_terms.specs.Registration.Ids.{Bytes}
use Rattle.mt_passes.specs.Passes.{Reads}
use Rattle.mt_passes.proofs.PassFacts.{reads_row, skips_row}
use Rattle.mt_passes.proofs.first.read_row.Goals as goal

pub returns-then-is_empty : goal.returns-then-is_empty
returns-then-is_empty c =
    skips_row {Y = Unit {0}} c.args.rules.now c.args.register.now c.args.number c.args.row tt (eqb-true _ 0 (sym c.is_empty.ensures ∙ c.if-is_empty.true)) c.requires.register

pub returns : goal.returns
returns c =
    reads_row c.args.rules.now c.args.register.now c.read_fields.new.register c.args.number c.args.row c.read_fields.result (eqb-false _ 0 (sym c.is_empty.ensures ∙ c.if-is_empty.false))
    (subst (λ (fields : List Bytes). Reads c.args.rules.now c.args.register.now c.read_fields.new.register (c.args.number, fields) c.read_fields.result) c.fields.ensures c.read_fields.ensures)
