use Rattle.std.proofs.Common.{ap, ap₂, ◌∙◌, ◌||◌, drop, length, nat_lt, nat_eq, ◌%◌}
use Rattle.mt_fault_terms.specs.Parts.{miscounted}
use Rattle.mt_faults.specs.Seen.{placed_left}
use Rattle.mt_faults.proofs.PartsFacts.{couple_is, drop_three, odd_is}
use Rattle.mt_faults.proofs.parts.couple_parts.Goals as goal

pub returns : goal.returns
returns c =
    let fields = placed_left c.args.fields in
    let rest = c.tail-rest.ensures ∙ ap (drop 1) (c.tail-after_first.ensures ∙ ap (drop 1) c.tail-members.ensures) ∙ drop_three fields in
    couple_is fields _ _ _ _
    (c.miscounted.ensures ∙ ap miscounted (c.either.ensures ∙ ap₂ ◌||◌ (ap (λ n. nat_lt n 3) c.len.ensures) (ap (λ n. nat_eq (n % 2) 1) (c.len-2.ensures ∙ ap length rest) ∙ odd_is (drop 3 fields))))
    c.first.ensures c.first-2.ensures rest
