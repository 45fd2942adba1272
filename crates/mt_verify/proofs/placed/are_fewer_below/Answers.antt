use Rattle.std.proofs.Common.{◌≡◌, ◌≤◌, ◌+◌, ◌-◌, ◌∙◌, true, length, nat_lt, nat_le, ap, sym, subst, arith}
use Rattle.std.proofs.lemmas.Bool.Decides.{nat_tests}
use Rattle.mt_terms.specs.Lists.{count}
use Rattle.mt_terms.proofs.ListFacts.{count-le-length}
use Rattle.mt_verify.proofs.FewerFacts.{fewer_at, fewer_past}
use Rattle.mt_verify.proofs.placed.are_fewer_below.Goals as goal

pub returns-in-Some : goal.returns-in-Some
returns-in-Some c =
    let at = c.in-Some.ensures.lookup.3 in
    let whole : c.args.number - 1 + 1 ≡ c.args.number = omega (arith, c.if-number-eq0.false) in
    sym (subst (λ n. nat_lt (count (λ r. nat_lt r c.args.rank) c.args.ranks.now) n ≡ nat_le c.args.rank c.in-Some.last.now) whole
    (fewer_at c.args.ranks.now (c.args.number - 1) c.args.rank 0 c.requires at.0 ∙ ap (nat_le c.args.rank) (sym (at.1 0))))

pub returns-in-None : goal.returns-in-None
returns-in-None c =
    let past : length c.args.ranks.now ≤ c.args.number - 1 = grind (arith, nat_tests, c.in-None.ensures.lookup.0) in
    let whole : c.args.number - 1 + 1 ≡ c.args.number = omega (arith, c.if-number-eq0.false) in
    sym (subst (λ n. nat_lt (count (λ r. nat_lt r c.args.rank) c.args.ranks.now) n ≡ true) whole
    (fewer_past (count (λ r. nat_lt r c.args.rank) c.args.ranks.now) (length c.args.ranks.now) (c.args.number - 1) (count-le-length (λ r. nat_lt r c.args.rank) c.args.ranks.now) past))
