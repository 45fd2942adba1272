use Rattle.std.proofs.Common.{◌≡◌, ◌<◌, ◌∙◌, ◌++◌, ◌∷◌, ◌+◌, [], List, ℕ, get_or, map, take, length, ap, ap₂, sym}
use Rattle.std.proofs.lemmas.List.{take_more, map-append, append_assoc, get_or_read}
use Rattle.mt_assignment.proofs.assignment.add_ranked.Goals as goal

-- one more
mapped_more : (f : ℕ → ℕ) (before now new ranks : List ℕ) (i x : ℕ) → i < length ranks → now ≡ before ++ map f (take i ranks) → x ≡ f (get_or ranks i 0) → new ≡ now ++ x ∷ []
    → new ≡ before ++ map f (take (i + 1) ranks)
mapped_more f before now new ranks i x within so_far is pushed =
    pushed ∙ ap₂ (λ xs y. xs ++ y ∷ []) so_far is ∙ append_assoc before (map f (take i ranks)) (f (get_or ranks i 0) ∷ [])
    ∙ ap (λ xs. before ++ xs) (sym (map-append f (take i ranks) (get_or ranks i 0 ∷ []))) ∙ ap (λ xs. before ++ map f xs) (sym (take_more ranks i 0 within))

pub loop-rank-preserved : goal.loop-rank-preserved
loop-rank-preserved c =
    let i = c.loop-rank.rank-index in
    let rank = get_or c.args.ranks.now i 0 in
    let within : rank < length c.args.ranking.now = c.requires i c.loop-rank-test.true in
    mapped_more (λ r. get_or c.args.ranking.now r 0) c.args.out.now.items c.loop-rank.out.items c.push.new.self.items c.args.ranks.now i c.index-ranking-rank.result c.loop-rank-test.true
    c.loop-rank.invariant (get_or_read c.args.ranking.now rank c.index-ranking-rank.result within c.index-ranking-rank.is 0) c.in_ok-push.ensures.items
