use Rattle.std.proofs.Common.{◌∙◌, ◌≤◌, ap, sym, inl, inr, arith, length}
use Rattle.std.proofs.lemmas.Bool.{both_ways, cases_lt}
use Rattle.mt_bits.specs.Members.{is_in}
use Rattle.mt_watch.proofs.PostFacts.{later_closed}
use Rattle.mt_watch.proofs.posts.first_with_post.Goals as goal
use Rattle.mt_watch.proofs.posts.first_with_post.Goals.{else-is_on_list-via-then-is_on_list+else-has_post, else-is_on_list-via-else-is_on_list}

pub returns-else-is_on_list-clause-none : goal.returns-else-is_on_list-clause-none
returns-else-is_on_list-clause-none c = λ r low on within.
    let s = c.args.assignment.now in
    let p = c.args.program in
    let rank = c.in_ok-rank.rank in
    let reaches : rank ≤ r = elim (cases_lt r rank) [
      | inl before ↦ absurd (both_ways (is_in c.args.ranks.now r) (c.in_ok-rank.ensures.first.first r low before) on)
      | inr after ↦ after
    ] in
    elim c.else-is_on_list.branch [
      | else-is_on_list-via-then-is_on_list+else-has_post w ↦ later_closed s p rank r reaches (sym w.has_post.ensures.post ∙ w.if-has_post.false)
      | else-is_on_list-via-else-is_on_list w ↦ (let past = w.if-is_on_list.false in absurd (omega (arith, ap length c.ranking.ensures.list)))
    ]
