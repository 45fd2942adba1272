use Rattle.std.proofs.Common.{Some, ap, ◌∙◌, rules}
use Rattle.std.proofs.lemmas.List.Sorted.{answers_always}
use Rattle.mt_ranks.specs.declared.entries.Live.{Live}
use Rattle.mt_ranks.proofs.Lookups.{found_by_search, absent_by_search}
use Rattle.mt_ranks.proofs.entries.rank_at.Goals as goal

pub returns-in-Ok : goal.returns-in-Ok
returns-in-Ok c =
    let at = c.in-Ok.ensures.position (λ (y : Live). y.program) (answers_always _ _ _ (λ f a r g called. search rules)) in
    ap Some (c.rank.ensures.rank ∙ ap (λ (y : Live). y.rank) c.index-entries-place.is)
    ∙ found_by_search c.args.entries.now c.args.program c.in-Ok.place c.index-entries-place.result c.requires c.in-Ok.ensures.bound (rw c.index.ensures at at)

pub returns-in-Err : goal.returns-in-Err
returns-in-Err c =
    let split = c.in-Err.ensures.position (λ (y : Live). y.program) (answers_always _ _ _ (λ f a r g called. search rules)) in
    absent_by_search c.args.entries.now c.args.program c.in-Err.field-0 c.requires (rw c.index.ensures at split)
