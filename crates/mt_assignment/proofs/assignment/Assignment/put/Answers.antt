use Rattle.std.proofs.lemmas.Grind.{common_steps}
use Rattle.std.proofs.Common.{◌≡◌, ◌<◌, ◌∙◌, ℕ, true, Some, None, length, arith, ap, sym, subst}
use Rattle.std.proofs.lemmas.Bool.{eqb-true}
use Rattle.mt_terms.specs.Lists.{has}
use Rattle.mt_terms.specs.Market.{program_of}
use Rattle.mt_terms.specs.Matching.{is_program, place_of}
use Rattle.mt_assignment.specs.Assigned.{Assigned}
use Rattle.mt_assignment.proofs.TableFacts.{applicant_known, program_known, row_index, row_sorted, ranked_at, no_own_rank, stands_nowhere, rows_on, rows_on_unlisted, tables_after}
use Rattle.mt_assignment.proofs.assignment.Assignment.put.Goals as goal
use Rattle.mt_assignment.proofs.assignment.Assignment.put.Goals.{in-Some+in_ok-insert, in_default}
use Rattle.mt_ranks.proofs.LiveMarket.{ranked_applicants}

pub live_rank-requires-clause-applicant : goal.live_rank-requires-clause-applicant
live_rank-requires-clause-applicant c =
    let t = c.self.inside in
    omega (arith, ranked_applicants t.ranks.now t.roster.now.market c.self.invariant.one_market, applicant_known t _ c.args.applicant c.self.view_is c.requires.applicant)

pub index_mut-row-requires : goal.index_mut-row-requires
index_mut-row-requires c =
    let t = c.self.inside in
    omega (arith, row_index t c.self.invariant c.args.program c.index.result c.index.ensures (program_known t _ c.args.program c.self.view_is c.requires.program), t.rows.ok.0)

pub insert-requires-clause-sorted : goal.insert-requires-clause-sorted
insert-requires-clause-sorted c =
    let t = c.self.inside in
    row_sorted t c.self.invariant c.args.program c.index.result c.index_mut-row.result.now c.index.ensures (program_known t _ c.args.program c.self.view_is c.requires.program) c.index_mut-row.ensures.value

pub insert-requires-clause-absent : goal.insert-requires-clause-absent
insert-requires-clause-absent c =
    let t = c.self.inside in
    let h = c.self.invariant in
    let a = c.args.applicant in
    let p = c.args.program in
    let place = sym c.requires.unplaced ∙ ap (λ (s : Assigned). place_of s.places a) (sym c.self.view_is) in
    let a_known = applicant_known t _ a c.self.view_is c.requires.applicant in
    no_own_rank t h p c.index.result c.in-Some.rank a c.index_mut-row.result.now c.index.ensures (program_known t _ p c.self.view_is c.requires.program) c.index_mut-row.ensures.value
    (ranked_at t h p a (Some c.in-Some.rank) c.in-Some.ensures.position) (sym (stands_nowhere t h a a_known p place))

pub invariant_of-self-2 : goal.invariant_of-self-2
invariant_of-self-2 c =
    let t = c.self.inside in
    let h = c.self.invariant in
    let a = c.args.applicant in
    let p = c.args.program in
    let a_known = applicant_known t _ a c.self.view_is c.requires.applicant in
    let p_known = program_known t _ p c.self.view_is c.requires.program in
    let a_in : a < length t.places.items = (let one_each = h.are_places.one_each in omega arith) in
    let place = sym c.requires.unplaced ∙ ap (λ (s : Assigned). place_of s.places a) (sym c.self.view_is) in
    let there : (q : ℕ) → is_program q (Some p) ≡ true → q < length t.roster.now.market.programs =
    (λ q is. subst (λ n. n < length t.roster.now.market.programs) (eqb-true p q is) p_known) in
    let listed : (q : ℕ) → is_program q (Some p) ≡ true → has (program_of t.roster.now.market q).ranking a ≡ true =
    (λ q is.
    subst (λ n. has (program_of t.roster.now.market n).ranking a ≡ true) (eqb-true p q is)
    (ap (λ (s : Assigned). has (program_of s.market p).ranking a) c.self.view_is ∙ c.requires.listed)) in
    elim c.match-live_rank.branch [
      | in-Some+in_ok-insert w ↦
          tables_after _ _ c.index-2.result a (Some p) w.self-inside-is c.index-2.ensures h.is_registration h.one_market h.are_places h.listed a_in there listed
          (rows_on t h a a_known p w.index.result w.in-Some.rank w.index_mut-row.result.now w.insert.new.self w.index.ensures p_known place
          w.index_mut-row.ensures.value (ranked_at t h p a (Some w.in-Some.rank) w.in-Some.ensures.position) w.in_ok-insert.ensures.ok)
      | in_default w ↦
          tables_after _ _ c.index-2.result a (Some p) w.self-inside-is c.index-2.ensures h.is_registration h.one_market h.are_places h.listed a_in there listed
          (rows_on_unlisted t h a a_known p place (ranked_at t h p a None w.in_default.ensures.position))
    ]

pub invariant_of-self : goal.invariant_of-self
invariant_of-self c = grind (arith, common_steps)
