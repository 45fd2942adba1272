use Rattle.std.proofs.Common.{◌≡◌, ◌+◌, ◌/◌, length, ap, sym, ◌∙◌, get_or, arith, length-drop}
use Rattle.std.proofs.lemmas.Bool.Decides.{nat_tests}
use Rattle.std.proofs.lemmas.List.{get_or-drop}
use Rattle.mt_lists.proofs.LineFacts.{rows-parts}
use Rattle.mt_lists.proofs.lines.Lines.halves.Goals as goal

pub returns : goal.returns
returns c =
    let text = c.args.self.text.now in
    let half = length text / 2 in
    let at = half + c.in_ok-at.at in
    let found = c.in_ok-at.ensures in
    let same : get_or c.split_at.result.1.now c.in_ok-at.at 0 ≡ get_or text at 0 = ap (λ xs. get_or xs c.in_ok-at.at 0) c.split_at.ensures.back ∙ get_or-drop half text c.in_ok-at.at 0 in
    let within = ap length c.split_at.ensures.back ∙ length-drop half text in
    rw (c.split_at-2.ensures.front, c.split_at-2.ensures.back)
    (rows-parts text at (omega (arith, found.0.high, within)) c.args.self.unquoted (sym same ∙ grind (arith, nat_tests, found.1)))
