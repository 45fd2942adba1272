use Rattle.std.proofs.Common.{◌++◌, ◌∷◌, [], ℕ, List, map, replicate, subst, sym, arith}
use Rattle.std.proofs.lemmas.Result.{on_ok_weaker}
use Rattle.mt_bits.specs.Tables.{told_by, AddsList}
use Rattle.mt_bits.proofs.TableFacts.{few_after, list_more}
use Rattle.mt_bits.proofs.rank_table.RankTable.push_list.Goals as goal

pub invariant_of-self : goal.invariant_of-self
invariant_of-self c = record {
  few = few_after c.push_row.result c.self.inside.rows c.push_row.new.self c.min-words.result c.push_row.ensures.err c.push_row.ensures.ok (omega (arith, c.min-words.ensures)) c.self.invariant.few;
}

pub returns : goal.returns
returns c =
    let rows = c.self.inside.rows in
    let new = rows ++ replicate c.min-words.result 0 ∷ [] in
    on_ok_weaker c.push_row.result (λ is.
    subst (λ (rs : List (List ℕ)). AddsList c.args.self.now (map told_by rs)) (sym is)
    (subst (λ told. AddsList told (map told_by new)) c.self.view_is (list_more rows c.min-words.result))) c.push_row.ensures.ok
