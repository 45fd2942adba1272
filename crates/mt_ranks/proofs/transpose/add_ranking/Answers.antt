use Rattle.std.proofs.Common.{◌≡◌, ◌∙◌, ◌++◌, ◌∷◌, [], ap, refl, length, arith}
use Rattle.std.proofs.lemmas.List.{length-set}
use Rattle.mt_ranks.proofs.ListedFacts.{added_room, added_more, added_none, added_all}
use Rattle.mt_ranks.specs.Rows.{Filling, row_of, with_entry}
use Rattle.mt_ranks.specs.declared.entries.Live.{Live}
use Rattle.mt_ranks.proofs.transpose.add_ranking.Goals as goal
use Rattle.mt_ranks.proofs.transpose.add_ranking.Goals.{in-Some, in_default}

pub push-requires-clause-room : goal.push-requires-clause-room
push-requires-clause-room c =
    let inside = c.in-Some.ensures.inside in
    added_room c.args.block.first c.loop-rank.rows c.args.rows.now c.args.program c.args.ranking.now c.loop-rank.rank c.index-ranking-rank.result c.in-Some.place
    c.loop-rank.invariant.added c.loop-rank.invariant.sizes c.loop-rank-test.true c.index-ranking-rank.is inside.1
    (omega (arith, inside.0, c.loop-rank.invariant.len, c.requires.size)) (c.requires.room c.in-Some.place (omega (arith, inside.0, c.requires.size)))

pub loop-rank-preserved : goal.loop-rank-preserved
loop-rank-preserved c = elim c.match-place.branch [
  | in-Some w ↦
      let inside = w.in-Some.ensures.inside in
      let entry : Live = record { program = c.args.program; rank = c.loop-rank.rank } in
      let filled : c.match-place.rows ≡ with_entry c.loop-rank.rows w.in-Some.place entry =
      w.rows-is ∙ w.push.ensures ∙ ap (with_entry c.loop-rank.rows w.in-Some.place) w.of.ensures in
      record {
        len = omega (arith, ap (λ (f : Filling). length f.lists) filled, length-set c.loop-rank.rows.lists w.in-Some.place (row_of c.loop-rank.rows w.in-Some.place ++ entry ∷ []), c.loop-rank.invariant.len);
        sizes = ap (λ (f : Filling). f.sizes) filled ∙ c.loop-rank.invariant.sizes;
        added = rw filled
            (added_more c.args.block.first c.loop-rank.rows c.args.rows.now c.args.program c.args.ranking.now c.loop-rank.rank c.index-ranking-rank.result w.in-Some.place
            c.loop-rank.invariant.added c.loop-rank-test.true c.index-ranking-rank.is inside.1 (omega (arith, inside.0, c.loop-rank.invariant.len, c.requires.size)));
      }
  | in_default w ↦
      record {
        len = ap (λ (f : Filling). length f.lists) w.rows-is ∙ c.loop-rank.invariant.len;
        sizes = ap (λ (f : Filling). f.sizes) w.rows-is ∙ c.loop-rank.invariant.sizes;
        added = rw w.rows-is
            (added_none c.args.block.first c.loop-rank.rows c.args.rows.now c.args.program c.args.ranking.now c.loop-rank.rank c.index-ranking-rank.result c.args.block.size
            c.loop-rank.invariant.added c.loop-rank-test.true c.index-ranking-rank.is (c.loop-rank.invariant.len ∙ c.requires.size) (w.in_default.ensures.outside refl));
      }
]

pub returns-clause-rows : goal.returns-clause-rows
returns-clause-rows c k w =
    added_all c.args.block.first c.loop-rank.rows c.args.rows.now c.args.program c.args.ranking.now c.loop-rank.rank k c.loop-rank.invariant.added c.loop-rank-test.false (omega (arith, c.loop-rank.invariant.len))
