-- Each rank for which the program has a post is added, up to the first of these ranks for which it has none. A single with
-- a later rank has no post there either.
use Rattle.std.proofs.Common.{◌≡◌, ◌∙◌, ◌++◌, ◌∷◌, ◌<◌, [], length, get_or, ap, sym, subst, inl, inr, arith}
use Rattle.std.proofs.lemmas.Bool.{cases_lt}
use Rattle.mt_terms.specs.Lists.{has}
use Rattle.mt_terms.specs.Market.{applicants, program_of}
use Rattle.mt_terms.proofs.ListFacts.{has_front}
use Rattle.mt_bits.specs.Members.{is_in}
use Rattle.mt_assignment.proofs.MarketFacts.{read_within}
use Rattle.mt_rounds.specs.Looking.{Adds}
use Rattle.mt_rounds.proofs.LookFacts.{adds_one, closed_at, found_at, found_below}
use Rattle.mt_assignment.proofs.RankFacts.{at_rank}
use Rattle.mt_couples.proofs.recheck.Recheck.add_by_rank.Goals as goal

pub loop-rank-preserved : goal.loop-rank-preserved
loop-rank-preserved c =
    let s = c.args.self.now.assignment.now in
    let m = s.market in
    let p = c.args.program in
    let r = c.in-Some.rank in
    let x = c.index-ranking-rank.result in
    let before = c.loop-rank.found.items in
    let so_far = c.loop-rank.invariant in
    let opened = c.in-Some.ensures.some in
    let list = c.ranking-ranking.ensures.list in
    let in_list : r < length c.ranking-ranking.result.now = omega (arith, ap length list, opened.within) in
    let read : x ≡ get_or (program_of m p).ranking r x = c.index-ranking-rank.is ∙ ap (λ xs. get_or xs r x) list in
    let x_in = read_within c.ranking-ranking.result.now r x (applicants m) in_list c.index-ranking-rank.is c.ranking-ranking.ensures.within in
    let is : c.push.new.self.items ≡ before ++ x ∷ [] = c.in_ok-push.ensures.items in
    record {
      adds = subst (Adds m c.args.found.now.items) (sym is) (adds_one m c.args.found.now.items before x so_far.adds x_in);
      singles = λ q on low a ranked single option. ap (λ xs. has xs a) is
          ∙ found_below s p (is_in c.args.ranks.now) before (before ++ x ∷ []) c.loop-rank.next r opened.first (λ b there. has_front before (x ∷ []) b there) so_far.singles
          (found_at s p before r x opened.within read) q on low a ranked single option;
    }

pub returns-clause-singles : goal.returns-clause-singles
returns-clause-singles c = λ r a on ranked single option.
    let s = c.args.self.now.assignment.now in
    let p = c.args.program in
    elim (cases_lt r c.loop-rank.next) [
      | inl before ↦ c.loop-rank.invariant.singles r on before a ranked single option
      | inr after ↦ closed_at s p c.loop-rank.found.items r c.ranking-ranking.ensures.assigned
          (c.in_default.ensures.none r after on (at_rank (program_of s.market p).ranking a r ranked).0) a ranked single option
    ]
