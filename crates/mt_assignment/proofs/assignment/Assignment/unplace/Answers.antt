use Rattle.std.proofs.Common.{◌≡◌, ◌<◌, ◌∙◌, ℕ, true, Some, None, length, arith, ap}
use Rattle.std.proofs.lemmas.Bool.{false≢true}
use Rattle.mt_terms.specs.Lists.{has}
use Rattle.mt_terms.specs.Market.{program_of}
use Rattle.mt_terms.specs.Matching.{is_program, place_of}
use Rattle.mt_assignment.proofs.TableFacts.{applicant_known, row_index, row_sorted, ranked_at, own_rank, known_at, stands_at, rows_off, rows_off_unlisted, rows_same, tables_after}
use Rattle.mt_assignment.proofs.assignment.Assignment.unplace.Goals as goal
use Rattle.mt_assignment.proofs.assignment.Assignment.unplace.Goals.{in-Some+in-Some-live_rank, in-Some+in_default-live_rank, in_default}
use Rattle.mt_ranks.proofs.LiveMarket.{ranked_programs, ranked_applicants}

pub live_rank-requires-clause-program : goal.live_rank-requires-clause-program
live_rank-requires-clause-program c =
    let t = c.self.inside in
    let a = c.args.applicant in
    let place = c.in-Some.ensures ∙ ap (λ places. place_of places a) c.deref.ensures.value in
    omega (arith, known_at t c.self.invariant a (applicant_known t _ a c.self.view_is c.requires) c.in-Some.program place, ranked_programs t.ranks.now t.roster.now.market c.self.invariant.one_market)

pub live_rank-requires-clause-applicant : goal.live_rank-requires-clause-applicant
live_rank-requires-clause-applicant c =
    let t = c.self.inside in
    omega (arith, ranked_applicants t.ranks.now t.roster.now.market c.self.invariant.one_market, applicant_known t _ c.args.applicant c.self.view_is c.requires)

pub index_mut-row-requires : goal.index_mut-row-requires
index_mut-row-requires c =
    let t = c.self.inside in
    let a = c.args.applicant in
    let place = c.in-Some.ensures ∙ ap (λ places. place_of places a) c.deref.ensures.value in
    let within = known_at t c.self.invariant a (applicant_known t _ a c.self.view_is c.requires) c.in-Some.program place in
    omega (arith, row_index t c.self.invariant c.in-Some.program c.index.result c.index.ensures within, t.rows.ok.0)

pub remove-requires-clause-sorted : goal.remove-requires-clause-sorted
remove-requires-clause-sorted c =
    let t = c.self.inside in
    let a = c.args.applicant in
    let place = c.in-Some.ensures ∙ ap (λ places. place_of places a) c.deref.ensures.value in
    let within = known_at t c.self.invariant a (applicant_known t _ a c.self.view_is c.requires) c.in-Some.program place in
    row_sorted t c.self.invariant c.in-Some.program c.index.result c.index_mut-row.result.now c.index.ensures within c.index_mut-row.ensures.value

pub remove-requires-clause-present : goal.remove-requires-clause-present
remove-requires-clause-present c =
    let t = c.self.inside in
    let h = c.self.invariant in
    let a = c.args.applicant in
    let p = c.in-Some.program in
    let a_known = applicant_known t _ a c.self.view_is c.requires in
    let place = c.in-Some.ensures ∙ ap (λ places. place_of places a) c.deref.ensures.value in
    own_rank t h p c.index.result c.in-Some-live_rank.rank a c.index_mut-row.result.now c.index.ensures (known_at t h a a_known p place) c.index_mut-row.ensures.value
    (ranked_at t h p a (Some c.in-Some-live_rank.rank) c.in-Some-live_rank.ensures.position) (stands_at t h a a_known p place)

pub invariant_of-self : goal.invariant_of-self
invariant_of-self c =
    let t = c.self.inside in
    let h = c.self.invariant in
    let a = c.args.applicant in
    let a_known = applicant_known t _ a c.self.view_is c.requires in
    let a_in : a < length t.places.items = (let one_each = h.are_places.one_each in omega arith) in
    let value = ap (λ places. place_of places a) c.deref.ensures.value in
    let none : (p : ℕ) → is_program p None ≡ true → p < length t.roster.now.market.programs = (λ p no. absurd (false≢true no)) in
    let no_list : (p : ℕ) → is_program p None ≡ true → has (program_of t.roster.now.market p).ranking a ≡ true = (λ p no. absurd (false≢true no)) in
    elim c.match-place_in.branch [
      | in-Some+in-Some-live_rank w ↦
          tables_after _ _ c.index-2.result a None w.self-inside-is c.index-2.ensures h.is_registration h.one_market h.are_places h.listed a_in none no_list
          (rows_off t h a a_known w.in-Some.program w.index.result w.in-Some-live_rank.rank w.index_mut-row.result.now w.remove.new.self w.index.ensures (w.in-Some.ensures ∙ value)
          w.index_mut-row.ensures.value (ranked_at t h w.in-Some.program a (Some w.in-Some-live_rank.rank) w.in-Some-live_rank.ensures.position) w.remove.ensures)
      | in-Some+in_default-live_rank w ↦
          tables_after _ _ c.index-2.result a None w.self-inside-is c.index-2.ensures h.is_registration h.one_market h.are_places h.listed a_in none no_list
          (rows_off_unlisted t h a a_known w.in-Some.program (w.in-Some.ensures ∙ value) (ranked_at t h w.in-Some.program a None w.in_default-live_rank.ensures.position))
      | in_default w ↦
          tables_after _ _ c.index-2.result a None w.self-inside-is c.index-2.ensures h.is_registration h.one_market h.are_places h.listed a_in none no_list
          (rows_same t h a a_known (w.in_default.ensures ∙ value))
    ]
