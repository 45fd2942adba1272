use Rattle.std.proofs.Common.{sym, ap, ◌∙◌, arith}
use Rattle.std.specs.Prelude.{option_map}
use Rattle.std.proofs.lemmas.Bool.{eqb-false}
use Rattle.mt_lists.specs.Rows.{fields_left, rows_left}
use Rattle.mt_terms.specs.Registration.Passes.{are_too_many}
use Rattle.mt_terms.specs.Registration.Records.{Rules}
use Rattle.mt_records.specs.Records.{record_seen}
use Rattle.mt_drafts.specs.Drafts.{drafted}
use Rattle.mt_drafts.proofs.DraftFacts.{goes_on, too_many_drafts}
use Rattle.mt_drafts.proofs.drafts.drafts_in_turn.Goals as goal

pub returns-then-are_too_many : goal.returns-then-are_too_many
returns-then-are_too_many c =
    too_many_drafts c.args.rules.now (rows_left c.args.rows) (drafted c.push.new.self) (rows_left c.next.new.self) (sym (c.are_too_many.ensures ∙ ap (λ (r : Rules). are_too_many r.limits (drafted c.push.new.self)) c.rules.view_is) ∙ c.if-are_too_many.true)
    (goes_on c.args.rules.now (rows_left c.args.rows) (drafted c.loop-row.drafts) (drafted c.push.new.self) (rows_left c.loop-row.row-iterator) (rows_left c.next.new.self) c.in-Some.row
    (fields_left c.fields.result) (record_seen c.in-Some-draft_of.next) c.in-Some.ensures.steps (eqb-false _ 0 (sym c.is_empty.ensures ∙ c.if-not-is_empty.true)) c.fields.ensures
    (sym c.draft_of.ensures ∙ ap (option_map record_seen) c.in-Some-draft_of.is) c.in_ok-push.ensures.records c.loop-row.invariant.goes_on)

pub loop-row-preserved-else-are_too_many : goal.loop-row-preserved-else-are_too_many
loop-row-preserved-else-are_too_many c = record {
  are = c.in_ok-push.ensures.drafts;
  few = sym (c.are_too_many.ensures ∙ ap (λ (r : Rules). are_too_many r.limits (drafted c.push.new.self)) c.rules.view_is) ∙ c.if-are_too_many.false;
  goes_on = goes_on c.args.rules.now (rows_left c.args.rows) (drafted c.loop-row.drafts) (drafted c.push.new.self) (rows_left c.loop-row.row-iterator) (rows_left c.next.new.self) c.in-Some.row
      (fields_left c.fields.result) (record_seen c.in-Some-draft_of.next) c.in-Some.ensures.steps (eqb-false _ 0 (sym c.is_empty.ensures ∙ c.if-not-is_empty.true)) c.fields.ensures
      (sym c.draft_of.ensures ∙ ap (option_map record_seen) c.in-Some-draft_of.is) c.in_ok-push.ensures.records c.loop-row.invariant.goes_on;
}

pub returns-in_default : goal.returns-in_default
returns-in_default c = search arith
