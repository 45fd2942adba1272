use Rattle.std.proofs.Common.{◌≡◌, ◌==◌, ◌<◌, length, get_or, IsTrue, IsFalse, true, Some, None, eq-eqb, sym, ap, ◌∙◌, arith}
use Rattle.std.proofs.lemmas.List.Folds.{list_any_at}
use Rattle.mt_terms.specs.Market.{list_of}
use Rattle.mt_terms.specs.Matching.{holds, single_placement}
use Rattle.mt_ranks.specs.Ranked.{rank_of}
use Rattle.mt_ranks.proofs.LiveMarket.{ranked_applicants}
use Rattle.mt_verify.proofs.BlockingFacts.{element_read, holds_program, at_own_program, at_taken_program, at_no_program, no_program_more}
use Rattle.mt_verify.proofs.EntryFacts.{all_left, rank_of_next, left_after_rank, left_after_none, rank_within}
use Rattle.mt_verify.proofs.MarketFacts.{few_listed}
use Rattle.mt_verify.proofs.TakenFacts.{single_taken_ranked, single_not_taken}
use Rattle.mt_verify.proofs.verifier.Verifier.first_program.Goals as goal
use Rattle.mt_verify.proofs.verifier.Verifier.first_program.Goals.{in-Some+else-has_post, in_default}

pub live-live-requires : goal.live-live-requires
live-live-requires c =
    let self = c.args.self.now in
    omega (arith, c.requires, ranked_applicants self.ranks.now self.roster.now.market self.one_market)

pub loop-option-init : goal.loop-option-init
loop-option-init c =
    let self = c.args.self.now in
    record {
      none = λ j low. absurd (omega arith);
      left = all_left self.roster.now.market c.args.applicant self.ranks.now c.live-live.result.now self.one_market c.live-live.ensures.list;
    }

pub returns-then-eq : goal.returns-then-eq
returns-then-eq c =
    let self = c.args.self.now in
    let m = self.roster.now.market in
    let places = self.matched.now.places in
    let a = c.args.applicant in
    let program = c.program-item.result in
    let at = c.loop-option.option in
    let items = c.single_list-program-items in
    let inside : at < length (list_of m a) = omega (arith, ap length items.ensures, c.loop-option-test.true) in
    let read : program ≡ get_or (list_of m a) at 0 = element_read items.result.now (list_of m a) at program 0 c.program-item.is items.ensures c.loop-option-test.true in
    let own : IsTrue (holds places (single_placement a program)) = holds_program places a program c.place-place.result c.place-place.ensures ∙ sym c.eq.ensures ∙ c.if-eq.true in
    sym (at_own_program m places a at program inside read c.loop-option.invariant.none own)

pub has_post-requires : goal.has_post-requires
has_post-requires c =
    let self = c.args.self.now in
    let m = self.roster.now.market in
    let places = self.matched.now.places in
    let a = c.args.applicant in
    let program = c.program-item.result in
    let at = c.loop-option.option in
    let items = c.single_list-program-items in
    let inside : at < length (list_of m a) = omega (arith, ap length items.ensures, c.loop-option-test.true) in
    let read : program ≡ get_or (list_of m a) at 0 = element_read items.result.now (list_of m a) at program 0 c.program-item.is items.ensures c.loop-option-test.true in
    self.is_registration.well_formed.lists_within a program (list_any_at (λ p. p == program) (list_of m a) at 0 inside (eq-eqb (get_or (list_of m a) at 0) program (sym read)))

pub returns-then-has_post : goal.returns-then-has_post
returns-then-has_post c =
    let self = c.args.self.now in
    let m = self.roster.now.market in
    let places = self.matched.now.places in
    let a = c.args.applicant in
    let program = c.program-item.result in
    let at = c.loop-option.option in
    let items = c.single_list-program-items in
    let inside : at < length (list_of m a) = omega (arith, ap length items.ensures, c.loop-option-test.true) in
    let read : program ≡ get_or (list_of m a) at 0 = element_read items.result.now (list_of m a) at program 0 c.program-item.is items.ensures c.loop-option-test.true in
    let rank : c.rank_if.result ≡ rank_of m program a =
    c.rank_if.ensures ∙ rank_of_next m a self.ranks.now c.live-live.result.now self.one_market c.live-live.ensures.entries c.loop-option.next at program c.loop-option.invariant.left inside read in
    let placed : a < length places = omega (arith, self.are_places.one_each, c.requires) in
    let other : IsFalse (holds places (single_placement a program)) = holds_program places a program c.place-place.result c.place-place.ensures ∙ sym c.eq.ensures ∙ c.if-eq.false in
    sym (at_taken_program m places a at program inside read c.loop-option.invariant.none other
    (single_taken_ranked m places a program c.in-Some.rank placed (sym rank ∙ c.in-Some.is) ∙ sym c.has_post.ensures ∙ c.if-has_post.true))

pub overflow_add-next : goal.overflow_add-next
overflow_add-next c =
    omega (arith, rank_within c.live-live.result.now c.loop-option.next c.program-item.result c.in-Some.rank (sym c.rank_if.ensures ∙ c.in-Some.is), c.live-live.type_inv)

pub loop-option-preserved : goal.loop-option-preserved
loop-option-preserved c =
    let self = c.args.self.now in
    let m = self.roster.now.market in
    let places = self.matched.now.places in
    let a = c.args.applicant in
    let program = c.program-item.result in
    let at = c.loop-option.option in
    let items = c.single_list-program-items in
    let inside : at < length (list_of m a) = omega (arith, ap length items.ensures, c.loop-option-test.true) in
    let read : program ≡ get_or (list_of m a) at 0 = element_read items.result.now (list_of m a) at program 0 c.program-item.is items.ensures c.loop-option-test.true in
    let rank : c.rank_if.result ≡ rank_of m program a =
    c.rank_if.ensures ∙ rank_of_next m a self.ranks.now c.live-live.result.now self.one_market c.live-live.ensures.entries c.loop-option.next at program c.loop-option.invariant.left inside read in
    let placed : a < length places = omega (arith, self.are_places.one_each, c.requires) in
    let other : IsFalse (holds places (single_placement a program)) = holds_program places a program c.place-place.result c.place-place.ensures ∙ sym c.eq.ensures ∙ c.if-eq.false in
    let left = c.loop-option.invariant.left in
    elim c.match-rank_if.branch [
      | in-Some+else-has_post w ↦
          let here : rank_of m program a ≡ Some w.in-Some.rank = sym rank ∙ w.in-Some.is in
          record {
            none = no_program_more m places a at program read c.loop-option.invariant.none other
                (single_taken_ranked m places a program w.in-Some.rank placed here ∙ sym w.has_post.ensures ∙ w.if-has_post.false);
            left = rw w.next-is (left_after_rank m a self.ranks.now c.live-live.result.now self.one_market c.live-live.ensures.entries c.loop-option.next at program left inside read w.in-Some.rank here);
          }
      | in_default w ↦
          let nowhere : rank_of m program a ≡ None = sym rank ∙ w.in_default.is in
          record {
            none = no_program_more m places a at program read c.loop-option.invariant.none other (single_not_taken m places a program placed nowhere);
            left = rw w.next-is (left_after_none m a self.ranks.now c.live-live.result.now self.one_market c.live-live.ensures.entries c.loop-option.next at program left inside read nowhere);
          }
    ]

pub overflow_cast-result : goal.overflow_cast-result
overflow_cast-result c = omega (arith, few_listed c.args.self.now.roster.now c.args.self.now.is_registration c.args.applicant c.requires, ap length c.single_list-program-items.ensures)

pub returns : goal.returns
returns c =
    let self = c.args.self.now in
    sym (at_no_program self.roster.now.market self.matched.now.places c.args.applicant
    (λ j less. c.loop-option.invariant.none j (omega (arith, ap length c.single_list-program-items.ensures))))
