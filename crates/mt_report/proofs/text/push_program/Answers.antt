use Rattle.std.proofs.Common.{◌≡◌, ◌++◌, ◌∙◌}
use Rattle.std.specs.Prelude.{codes, decimal}
use Rattle.mt_report.proofs.LineFacts.{program_pieces}
use Rattle.mt_report.proofs.text.push_program.Goals as goal

pub returns : goal.returns
returns c =
    let pushed : c.push.new.self.items
    ≡ ((((((((c.args.text.now.items ++ codes "program,") ++ c.args.id.now) ++ codes ",") ++ decimal c.args.quota) ++ codes ",") ++ decimal c.args.filled) ++ codes ",")
    ++ decimal c.args.received) ++ codes "\n" =
    rw (c.in_ok-push.ensures.items, c.in_ok-push_number-3.ensures.ok, c.in_ok-push_number-2.ensures.ok, c.in_ok-push_number.ensures.ok, c.in_ok-push_bytes-2.ensures, c.in_ok-push_bytes.ensures, c.from.ensures, c.from-2.ensures, c.from-3.ensures) in
    record { ok = pushed ∙ program_pieces c.args.text.now.items c.args.id.now (decimal c.args.quota) (decimal c.args.filled) (decimal c.args.received) }
