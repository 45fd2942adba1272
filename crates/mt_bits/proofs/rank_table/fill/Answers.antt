use Rattle.std.proofs.Common.{◌<◌, ◌≤◌, ◌∷◌, ◌++◌, [], length, ap, subst, sym, arith}
use Rattle.std.proofs.lemmas.List.{length_push}
use Rattle.mt_bits.specs.Tables.{words_of, AreFew, HaveSameFlags}
use Rattle.mt_bits.proofs.TableFacts.{few_set, same_more}
use Rattle.mt_bits.proofs.rank_table.fill.Goals as goal

pub loop-rows-preserved : goal.loop-rows-preserved
loop-rows-preserved c =
    let rows = c.loop-rows.rows in
    let list = c.args.list in
    let so_far = c.loop-rows.invariant in
    let within : list < length rows = omega (arith, c.requires.list, so_far.same.as_many) in
    let new = words_of rows list ++ 0 ∷ [] in
    let low : length new ≤ 67108864 = omega (arith, length_push (words_of rows list) 0, ap length c.row.ensures, c.loop-rows-test.true, c.requires.place) in
    record {
      few = subst AreFew (sym c.in_ok-push.ensures.ok) (few_set rows list new within so_far.few low);
      same = subst (HaveSameFlags c.args.rows.now) (sym c.in_ok-push.ensures.ok) (same_more c.args.rows.now rows list within so_far.same);
    }
