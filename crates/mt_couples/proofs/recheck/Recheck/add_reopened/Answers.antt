-- Both members of each couple are added, so those that the index names are found beside the singles.
use Rattle.std.proofs.Common.{◌≡◌, ◌∙◌, ◌++◌, ◌∷◌, [], ℕ, true, get_or, ap, sym, subst, arith}
use Rattle.mt_terms.specs.Lists.{has}
use Rattle.mt_terms.proofs.ListFacts.{has_front}
use Rattle.mt_round_laws.proofs.RoundsLists.{has_in}
use Rattle.mt_stage_tables.proofs.FrontFacts.{each_next}
use Rattle.mt_stage_tables.proofs.PlaceFacts.{has_read}
use Rattle.mt_assignment.specs.Watched.{ranks_at}
use Rattle.mt_rounds.specs.Looking.{Adds}
use Rattle.mt_watch.specs.Found.{AddsSingles}
use Rattle.mt_assignment.proofs.RankFacts.{index_of, any_default}
use Rattle.mt_rounds.proofs.LookFacts.{adds_more, adds_one, found_both, AreFound}
use Rattle.mt_watch.proofs.FoundFacts.{covers_one}
use Rattle.mt_couples.proofs.OneFacts.{reopened_in, reopened_within, watching_by}
use Rattle.mt_couples.proofs.recheck.Recheck.add_reopened.Goals as goal

pub members-first-requires : goal.members-first-requires
members-first-requires g c =
    let couples = c.deref-couple-items.result.now in
    let x = c.couple-item.result in
    reopened_within c.args.self.now c.args.program c.args.waiting.now x
    (ap (λ cs. has cs x) (sym (c.deref-couple-items.ensures.value ∙ c.in_ok-couples.ensures)) ∙ has_read couples c.loop-couple.couple-index x c.loop-couple-test.true c.couple-item.is)

pub loop-couple-preserved : goal.loop-couple-preserved
loop-couple-preserved g c =
    let s = c.args.self.now.assignment.now in
    let m = s.market in
    let couples = c.deref-couple-items.result.now in
    let mid = c.add_by_rank.new.found.items in
    let before = c.loop-couple.found.items in
    let so_far = c.loop-couple.invariant in
    let x = c.members-first.result.0 in
    let y = c.members-first.result.1 in
    let after = (before ++ x ∷ []) ++ y ∷ [] in
    let is : c.push-in-loop-couple.new.self.items ≡ after = c.in_ok-push-2.ensures.items ∙ ap (λ xs. xs ++ y ∷ []) c.in_ok-push.ensures.items in
    let keeps = λ (a : ℕ) (on : has before a ≡ true). has_front (before ++ x ∷ []) (y ∷ []) a (has_front before (x ∷ []) a on) in
    record {
      adds = subst (Adds m mid) (sym is)
          (adds_one m mid (before ++ x ∷ []) y (adds_one m mid before x so_far.adds c.members-first.ensures.first_within) c.members-first.ensures.second_within);
      couples = λ j low a of_a. ap (λ xs. has xs a) is
          ∙ each_next (AreFound s after) couples c.loop-couple.couple-index c.couple-item.result 0 c.loop-couple-test.true c.couple-item.is
          (λ i earlier b of_b. keeps b (so_far.couples i earlier b of_b))
          (found_both s before c.couple-item.result x y c.members-first.ensures.first c.members-first.ensures.second) j low a of_a;
    }

pub returns-clause-adds : goal.returns-clause-adds
returns-clause-adds g c =
    adds_more c.args.self.now.assignment.now.market c.args.found.now.items c.add_by_rank.new.found.items c.loop-couple.found.items c.in_ok-add_by_rank.ensures.adds c.loop-couple.invariant.adds

pub returns-clause-covers : goal.returns-clause-covers
returns-clause-covers g c =
    let t = c.args.self.now in
    let s = t.assignment.now in
    let p = c.args.program in
    let w = c.args.waiting.now in
    let couples = c.deref-couple-items.result.now in
    let mid = c.add_by_rank.new.found.items in
    let new = c.loop-couple.found.items in
    let singles : AddsSingles s p (ranks_at t.watch.now.singles p) mid = subst (λ rs. AddsSingles s p rs mid) c.singles.ensures c.in_ok-add_by_rank.ensures.singles in
    covers_one t.last s t.watch.now p w.agents mid new (watching_by t w.agents c.requires.indexed) c.requires.program singles c.loop-couple.invariant.adds.keeps
    (λ d a reopened of_a.
    let on = ap (λ cs. has cs d) (c.deref-couple-items.ensures.value ∙ c.in_ok-couples.ensures) ∙ reopened_in t p w c.requires.indexed c.requires.program d reopened in
    let place = index_of d couples (has_in d couples on) in
    let is : d ≡ get_or couples place.0 0 = place.2 ∙ any_default couples place.0 d 0 place.1 in
    subst (AreFound s new) (sym is) (c.loop-couple.invariant.couples place.0 (omega (arith, place.1, c.loop-couple-test.false))) a of_a)
