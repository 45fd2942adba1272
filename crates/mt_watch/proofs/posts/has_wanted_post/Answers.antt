use Rattle.std.proofs.Common.{◌∙◌, ◌≤◌, ℕ, subst}
use Rattle.std.specs.Prelude.{IfNone, IfSome}
use Rattle.mt_watch.specs.Posts.{IsClosed, IsOpenFrom}
use Rattle.mt_watch.proofs.PostFacts.{wanted_post_is}
use Rattle.mt_watch.proofs.posts.has_wanted_post.Goals as goal

pub returns : goal.returns
returns c =
    let s = c.args.assignment.now in
    let p = c.args.program in
    let o = c.first_with_post.result in
    c.is_some.ensures
    ∙ wanted_post_is s c.args.watch.now.singles p o (subst (λ ranks. IfSome o (IsOpenFrom s p ranks 0)) c.singles.ensures c.first_with_post.ensures.some)
    (subst (λ ranks. IfNone o ((r : ℕ) → 0 ≤ r → IsClosed s p ranks r)) c.singles.ensures c.first_with_post.ensures.none)
