use Rattle.std.proofs.Common.{◌≡◌, ◌==◌, ◌<◌, length, get_or, IsTrue, IsFalse, true, is_some, Some, None, eq-eqb, sym, ap, ◌∙◌, arith}
use Rattle.std.proofs.lemmas.List.Folds.{list_any_at}
use Rattle.mt_terms.specs.Market.{list_of, program_of}
use Rattle.mt_terms.specs.Matching.{holds, single_placement}
use Rattle.mt_ranks.specs.Ranked.{rank_of}
use Rattle.mt_ranks.proofs.Positions.{has-position}
use Rattle.mt_ranks.proofs.LiveMarket.{ranked_applicants}
use Rattle.mt_verify.proofs.BlockingFacts.{NoProgramYet, element_read, not_back, holds_program, at_own_program, at_taken_program, at_no_program, no_program_more, found_if_taken, found_at_own, found_at_end, no_own_program}
use Rattle.mt_verify.proofs.EntryFacts.{all_left, rank_of_next, left_after_rank, left_after_none, rank_within}
use Rattle.mt_verify.proofs.TakenFacts.{single_taken_ranked, single_not_taken}
use Rattle.mt_verify.proofs.verifier.Verifier.single_has_finding.Goals as goal
use Rattle.mt_verify.proofs.verifier.Verifier.single_has_finding.Goals.{in-Some+else-has_post, in_default}

pub live-live-requires : goal.live-live-requires
live-live-requires c =
    let self = c.args.self.now in
    omega (arith, c.requires.applicant, ranked_applicants self.ranks.now self.roster.now.market self.one_market)

pub loop-program-init : goal.loop-program-init
loop-program-init c =
    let self = c.args.self.now in
    record {
      none = λ j low. absurd (omega arith);
      left = all_left self.roster.now.market c.args.single self.ranks.now c.live-live.result.now self.one_market c.live-live.ensures.list;
    }

pub returns-then-eq : goal.returns-then-eq
returns-then-eq c =
    let self = c.args.self.now in
    let m = self.roster.now.market in
    let places = self.matched.now.places in
    let a = c.args.single in
    let program = c.program-item.result in
    let at = c.loop-program.program-index in
    let items = c.single_list-program-items in
    let inside : at < length (list_of m a) = omega (arith, ap length items.ensures, c.loop-program-test.true) in
    let read : program ≡ get_or (list_of m a) at 0 = element_read items.result.now (list_of m a) at program 0 c.program-item.is items.ensures c.loop-program-test.true in
    let rank : c.rank_if-rank.result ≡ rank_of m program a =
    c.rank_if-rank.ensures ∙ rank_of_next m a self.ranks.now c.live-live.result.now self.one_market c.live-live.ensures.entries c.loop-program.next at program c.loop-program.invariant.left inside read in
    let own : IsTrue (holds places (single_placement a program)) = holds_program places a program c.place-place.result c.place-place.ensures ∙ sym c.eq.ensures ∙ c.if-eq.true in
    not_back _ _ c.is_none.ensures
    ∙ found_at_own m places a c.requires.single at program (is_some c.rank_if-rank.result) (at_own_program m places a at program inside read c.loop-program.invariant.none own)
    inside read own (ap is_some rank ∙ sym (has-position (program_of m program).ranking a))

pub has_post-requires : goal.has_post-requires
has_post-requires c =
    let self = c.args.self.now in
    let m = self.roster.now.market in
    let places = self.matched.now.places in
    let a = c.args.single in
    let program = c.program-item.result in
    let at = c.loop-program.program-index in
    let items = c.single_list-program-items in
    let inside : at < length (list_of m a) = omega (arith, ap length items.ensures, c.loop-program-test.true) in
    let read : program ≡ get_or (list_of m a) at 0 = element_read items.result.now (list_of m a) at program 0 c.program-item.is items.ensures c.loop-program-test.true in
    self.is_registration.well_formed.lists_within a program (list_any_at (λ p. p == program) (list_of m a) at 0 inside (eq-eqb (get_or (list_of m a) at 0) program (sym read)))

pub returns-then-has_post : goal.returns-then-has_post
returns-then-has_post c =
    let self = c.args.self.now in
    let m = self.roster.now.market in
    let places = self.matched.now.places in
    let a = c.args.single in
    let program = c.program-item.result in
    let at = c.loop-program.program-index in
    let items = c.single_list-program-items in
    let inside : at < length (list_of m a) = omega (arith, ap length items.ensures, c.loop-program-test.true) in
    let read : program ≡ get_or (list_of m a) at 0 = element_read items.result.now (list_of m a) at program 0 c.program-item.is items.ensures c.loop-program-test.true in
    let rank : c.rank_if-rank.result ≡ rank_of m program a =
    c.rank_if-rank.ensures ∙ rank_of_next m a self.ranks.now c.live-live.result.now self.one_market c.live-live.ensures.entries c.loop-program.next at program c.loop-program.invariant.left inside read in
    let placed : a < length places = omega (arith, self.are_places.one_each, c.requires.applicant) in
    let other : IsFalse (holds places (single_placement a program)) = holds_program places a program c.place-place.result c.place-place.ensures ∙ sym c.eq.ensures ∙ c.if-eq.false in
    found_if_taken m places a c.requires.single at
    (at_taken_program m places a at program inside read c.loop-program.invariant.none other
    (single_taken_ranked m places a program c.in-Some.rank placed (sym rank ∙ c.in-Some.is) ∙ sym c.has_post.ensures ∙ c.if-has_post.true))

pub overflow_add-next : goal.overflow_add-next
overflow_add-next c =
    omega (arith, rank_within c.live-live.result.now c.loop-program.next c.program-item.result c.in-Some.rank (sym c.rank_if-rank.ensures ∙ c.in-Some.is), c.live-live.type_inv)

pub loop-program-preserved : goal.loop-program-preserved
loop-program-preserved c =
    let self = c.args.self.now in
    let m = self.roster.now.market in
    let places = self.matched.now.places in
    let a = c.args.single in
    let program = c.program-item.result in
    let at = c.loop-program.program-index in
    let items = c.single_list-program-items in
    let inside : at < length (list_of m a) = omega (arith, ap length items.ensures, c.loop-program-test.true) in
    let read : program ≡ get_or (list_of m a) at 0 = element_read items.result.now (list_of m a) at program 0 c.program-item.is items.ensures c.loop-program-test.true in
    let rank : c.rank_if-rank.result ≡ rank_of m program a =
    c.rank_if-rank.ensures ∙ rank_of_next m a self.ranks.now c.live-live.result.now self.one_market c.live-live.ensures.entries c.loop-program.next at program c.loop-program.invariant.left inside read in
    let placed : a < length places = omega (arith, self.are_places.one_each, c.requires.applicant) in
    let other : IsFalse (holds places (single_placement a program)) = holds_program places a program c.place-place.result c.place-place.ensures ∙ sym c.eq.ensures ∙ c.if-eq.false in
    let left = c.loop-program.invariant.left in
    elim c.match-rank.branch [
      | in-Some+else-has_post w ↦
          let here : rank_of m program a ≡ Some w.in-Some.rank = sym rank ∙ w.in-Some.is in
          record {
            none = no_program_more m places a at program read c.loop-program.invariant.none other
                (single_taken_ranked m places a program w.in-Some.rank placed here ∙ sym w.has_post.ensures ∙ w.if-has_post.false);
            left = rw w.next-is (left_after_rank m a self.ranks.now c.live-live.result.now self.one_market c.live-live.ensures.entries c.loop-program.next at program left inside read w.in-Some.rank here);
          }
      | in_default w ↦
          let nowhere : rank_of m program a ≡ None = sym rank ∙ w.in_default.is in
          record {
            none = no_program_more m places a at program read c.loop-program.invariant.none other (single_not_taken m places a program placed nowhere);
            left = rw w.next-is (left_after_none m a self.ranks.now c.live-live.result.now self.one_market c.live-live.ensures.entries c.loop-program.next at program left inside read nowhere);
          }
    ]

pub returns : goal.returns
returns c =
    let self = c.args.self.now in
    let m = self.roster.now.market in
    let places = self.matched.now.places in
    let none : NoProgramYet m places c.args.single (length (list_of m c.args.single)) = λ j less. c.loop-program.invariant.none j (omega (arith, ap length c.single_list-program-items.ensures)) in
    c.is_some.ensures ∙ ap is_some c.place-place.ensures ∙ found_at_end m places c.args.single c.requires.single (at_no_program m places c.args.single none) (no_own_program m places c.args.single c.requires.single none)
