use Rattle.std.proofs.Common.{◌≡◌, ◌++◌, ◌∙◌}
use Rattle.std.specs.Prelude.{codes, decimal}
use Rattle.mt_report.proofs.LineFacts.{totals_pieces}
use Rattle.mt_report.proofs.text.push_numbers.Goals as goal

pub returns : goal.returns
returns c =
    let pushed : c.push.new.self.items
    ≡ (((((((((c.args.text.now.items ++ codes "totals") ++ codes ",") ++ decimal c.args.applicants) ++ codes ",") ++ decimal c.args.unmatched) ++ codes ",") ++ decimal c.args.positions)
    ++ codes ",") ++ decimal c.args.unfilled) ++ codes "\n" =
    rw (c.in_ok-push.ensures.items, c.in_ok-push_number-4.ensures.ok, c.in_ok-push_number-3.ensures.ok, c.in_ok-push_number-2.ensures.ok, c.in_ok-push_number.ensures.ok, c.in_ok-extend_from_slice.ensures.items, c.from.ensures, c.from-2.ensures) in
    record { ok = pushed ∙ totals_pieces c.args.text.now.items (decimal c.args.applicants) (decimal c.args.unmatched) (decimal c.args.positions) (decimal c.args.unfilled) }
