use Rattle.std.proofs.Common.{◌≡◌, length, ap, ◌∙◌, rules, arith}
use Rattle.std.proofs.lemmas.Grind.{elements}
use Rattle.mt_terms.specs.Market.{live}
use Rattle.mt_hall.specs.declared.audit.Row.{Row}
use Rattle.mt_hall.proofs.Auditing.{if_none, row_credits}
use Rattle.mt_hall.proofs.audit.note.Goals as goal

pub returns-then-eq-clause-credits : goal.returns-then-eq-clause-credits
returns-then-eq-clause-credits g c =
    let m = g.K.HallName.ranked.market in
    let row : Row = record { made = c.made-made.result; standing = c.standing-standing.result } in
    let who : c.args.desk.applicant ≡ c.args.place = search rules in
    let left = c.made-made.ensures.keeps.left ∙ ap (λ a. length (live m a)) who in
    if_none c.args.astray.now _ (row_credits c.args.rows.now.items c.args.place row c.into_credits-credits.result (length (live m c.args.place)) (search rules) (omega (arith, left, c.into_credits-credits.ensures, c.made-made.ensures.made)))

pub returns-then-eq-clause-rows : goal.returns-then-eq-clause-rows
returns-then-eq-clause-rows g c = grind (arith, elements)
