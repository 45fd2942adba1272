use Rattle.std.proofs.Common.{◌≡◌, ◌++◌, ◌∙◌}
use Rattle.std.specs.Prelude.{codes, decimal}
use Rattle.mt_statistics_text.specs.Text.{rank_text}
use Rattle.mt_statistics_text.proofs.PieceFacts.{standing_pieces}
use Rattle.mt_statistics_text.proofs.line.push_standing.Goals as goal

pub returns : goal.returns
returns c =
    let pushed : c.push.new.self.items
    ≡ ((((((((((c.args.text.now.items ++ codes "program,") ++ c.args.id.now) ++ codes ",") ++ decimal c.args.standing.quota) ++ codes ",") ++ decimal c.args.standing.filled) ++ codes ",")
    ++ decimal c.args.standing.listed) ++ codes ",") ++ rank_text c.args.standing.last) ++ codes "\n" =
    rw (c.in_ok-push.ensures.items, c.in_ok-push_rank.ensures.ok, c.in_ok-push_number-3.ensures.ok, c.in_ok-push_number-2.ensures.ok, c.in_ok-push_number.ensures.ok, c.in_ok-extend_from_slice-2.ensures.items, c.in_ok-extend_from_slice.ensures.items, c.from.ensures, c.from-2.ensures) in
    record { ok = pushed ∙ standing_pieces c.args.text.now.items c.args.id.now (decimal c.args.standing.quota) (decimal c.args.standing.filled) (decimal c.args.standing.listed) (rank_text c.args.standing.last) }
