use Rattle.std.proofs.Common.{◌∷◌, [], sym, ap, ◌∙◌}
use Rattle.std.proofs.lemmas.Result.{on_ok_weaker}
use Rattle.mt_fault_terms.specs.Parts.{parts_of}
use Rattle.mt_faults.specs.NoKind.{is_of_no_kind}
use Rattle.mt_faults.specs.Registered.{row_parts}
use Rattle.mt_faults.specs.Seen.{parts_seen}
use Rattle.mt_faults.proofs.NoKindFacts.{adds_no_kind, some_of_kind}
use Rattle.mt_faults.proofs.SearchFacts.{row_some}
use Rattle.mt_faults.proofs.StandingFacts.{adds_one}
use Rattle.mt_faults.proofs.registry.Registry.add_row.Goals as goal

pub returns-then-is_of_no_kind : goal.returns-then-is_of_no_kind
returns-then-is_of_no_kind c =
    adds_no_kind c.args.rules.now c.args.self.now c.args.row
    (ap (is_of_no_kind c.args.rules.now) (sym c.fields.ensures) ∙ sym c.is_of_no_kind.ensures ∙ c.if-is_of_no_kind.true)

pub returns : goal.returns
returns c =
    let rules = c.args.rules.now in
    let some = some_of_kind rules c.args.row (ap (is_of_no_kind rules) (sym c.fields.ensures) ∙ sym c.is_of_no_kind.ensures ∙ c.if-is_of_no_kind.false) in
    on_ok_weaker c.add.result
    (λ h. adds_one rules c.args.self.now c.add.new.self (parts_seen c.parts_of-parts.result) (row_parts rules c.args.row)
    (row_some rules c.args.row some ∙ ap (λ p. p ∷ []) (ap (parts_of rules) (sym c.fields-2.ensures) ∙ sym c.parts_of-parts.ensures.parts)) h)
    c.add.ensures
