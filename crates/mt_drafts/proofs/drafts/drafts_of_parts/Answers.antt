use Rattle.std.proofs.Common.{rules, Some, ap, sym, ◌∙◌}
use Rattle.mt_lists.specs.Rows.{rows_left}
use Rattle.mt_drafts.specs.Drafts.{drafted, AreDraftsOf}
use Rattle.mt_drafts.proofs.DraftFacts.{drafts_of_all}
use Rattle.mt_drafts.proofs.drafts.drafts_of_parts.Goals as goal

pub returns : goal.returns
returns g c =
    let one : AreDraftsOf c.args.rules.now (rows_left c.args.parts.0) c.in-Some-Some.drafts = search rules in
    let other : AreDraftsOf c.args.rules.now (rows_left c.args.parts.1) c.in-Some-Some.others = search rules in
    record {
      are = c.in_ok-append.ensures.drafts;
      records = drafts_of_all c.args.rules.now (rows_left c.args.parts.0) (rows_left c.args.parts.1) (drafted c.in-Some-Some.drafts) (drafted c.in-Some-Some.others) one.records other.records
          ∙ ap Some (sym c.in_ok-append.ensures.records);
    }
