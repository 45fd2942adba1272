use Rattle.std.proofs.lemmas.Grind.{common_steps}
use Rattle.std.proofs.Common.{◌≡◌, ◌≢◌, ◌<◌, ◌∙◌, ◌+◌, ◌∷◌, [], ◌==◌, ℕ, false, take, length, arith, ap, sym, subst, inl, inr}
use Rattle.std.specs.List.{position}
use Rattle.std.proofs.lemmas.Bool.{cases_eq, ne_eqb}
use Rattle.std.proofs.Math.Bool.{or-false}
use Rattle.mt_terms.specs.Lists.{has, until}
use Rattle.mt_terms.specs.Market.{applicants}
use Rattle.mt_terms.specs.Matching.{is_program, place_of}
use Rattle.mt_ranks.specs.declared.entries.Live.{Live}
use Rattle.mt_ranks.specs.Ranked.{Ranked, ranked_list}
use Rattle.mt_bits.specs.Tables.{AddsRank}
use Rattle.mt_stage_tables.specs.Ranks.{HavePlaced}
use Rattle.mt_assignment.specs.Assigned.{Assigned, assignment, IsAssigned}
use Rattle.mt_assignment.specs.Watched.{better_entries, IsWatched, Watches}
use Rattle.mt_assignment.proofs.EntryFacts.{first_watched, others_as_before, watched_still}
use Rattle.mt_assignment.proofs.MarketFacts.{ranked_ranking}
use Rattle.mt_assignment.proofs.RankFacts.{has_no_rank}
use Rattle.mt_stage_tables.proofs.PlacedFacts.{nobody_placed, placed_within, nowhere, unlisted, listed}
use Rattle.mt_assignment.proofs.assignment.placed_ranks.Goals as goal
use Rattle.mt_assignment.proofs.assignment.placed_ranks.Goals.{in-Some+in-Some-placed_rank+in_ok-insert, in-Some+in_default-placed_rank, in_default}
use Rattle.mt_ranks.proofs.LiveMarket.{ranked_programs, ranked_applicants}

pub loop-number-init : goal.loop-number-init
loop-number-init c = record {
  placed = nobody_placed c.args.roster.now.market c.args.places.now c.in_ok-table.table c.in_ok-table.ensures.one_each c.in_ok-table.ensures.none;
  one_each = c.requires.unwatched.one_each;
  each = λ a low. absurd (omega arith);
  later = λ a p r low known ranked. c.requires.unwatched.none p r;
}

pub watch_wanted-requires : goal.watch_wanted-requires
watch_wanted-requires c =
    let m = c.args.roster.now.market in
    omega (arith, c.applicants-number-end.ensures.count, ranked_applicants c.args.ranks.now m c.requires.ranks, ranked_programs c.args.ranks.now m c.requires.ranks, c.loop-number.invariant.one_each)

pub placed_rank-requires-clause-program : goal.placed_rank-requires-clause-program
placed_rank-requires-clause-program c =
    let m = c.args.roster.now.market in
    let known = placed_within m c.args.places.now c.loop-number.number c.in-Some.program c.requires.places (sym c.in-Some.is ∙ c.place_in-place.ensures) in
    omega (arith, known, ranked_programs c.args.ranks.now m c.requires.ranks)

pub placed_rank-requires-clause-applicant : goal.placed_rank-requires-clause-applicant
placed_rank-requires-clause-applicant c =
    omega (arith, c.applicants-number-end.ensures.count, ranked_applicants c.args.ranks.now c.args.roster.now.market c.requires.ranks)

pub loop-number-preserved : goal.loop-number-preserved
loop-number-preserved c =
    let m = c.args.roster.now.market in
    let places = c.args.places.now in
    let s : Assigned = assignment m places in
    let i = c.loop-number.number in
    let i_in : i < length places = omega (arith, c.applicants-number-end.ensures.count, c.requires.places.one_each) in
    let within : i < applicants m = omega (arith, c.applicants-number-end.ensures.count) in
    let table = c.loop-number.table in
    let old = c.loop-number.watched in
    let new = c.watch_wanted.new.watched in
    let so_far = c.loop-number.invariant in
    let ok : IsAssigned s = record { well_formed = c.applicants-number-end.ensures.registration.well_formed; are_places = c.requires.places; listed = c.requires.listed } in
    let place = c.place_in-place.result in
    let betters = until (λ (e : Live). is_program e.program place) (ranked_list c.args.ranks.now.market i) in
    let are : betters ≡ better_entries s i =
    ap (λ o. until (λ (e : Live). is_program e.program o) (ranked_list c.args.ranks.now.market i)) c.place_in-place.ensures
    ∙ ap (λ (x : Ranked). until (λ (e : Live). is_program e.program (place_of places i)) (ranked_list x.market i)) c.requires.ranks in
    let watches : Watches old new betters = c.in_ok-found.ensures.watched in
    let keeps = others_as_before s ok i within old new betters are watches so_far.one_each in
    let other : (a : ℕ) → a ≢ i → has (i ∷ []) a ≡ false = λ a ne. or-false (i == a) ∙ ne_eqb i a (λ e. ne (sym e)) in
    let at_rank = λ (p : ℕ). ap (position (λ x. x == i)) (ranked_ranking c.args.ranks.now m p c.requires.ranks) in
    record {
      placed = elim c.match-place.branch [
        | in-Some+in-Some-placed_rank+in_ok-insert w ↦
            (let p = w.in-Some.program in
            let once = c.applicants-number-end.ensures.registration.well_formed.rankings_distinct p in
            subst (HavePlaced m (take (i + 1) places)) (sym w.table-is)
            (listed m places i i_in table w.insert.new.self p w.in-Some-placed_rank.rank once (sym w.in-Some.is ∙ c.place_in-place.ensures) (w.in-Some-placed_rank.ensures ∙ at_rank p)
            (subst (λ n. AddsRank table w.insert.new.self n w.in-Some-placed_rank.rank) w.index.ensures w.in_ok-insert.ensures) so_far.placed))
        | in-Some+in_default-placed_rank w ↦
            subst (HavePlaced m (take (i + 1) places)) (sym w.table-is)
            (unlisted m places i i_in table w.in-Some.program (sym w.in-Some.is ∙ c.place_in-place.ensures)
            (has_no_rank _ i (sym (w.in_default-placed_rank.ensures ∙ at_rank w.in-Some.program))) so_far.placed)
        | in_default w ↦
            subst (HavePlaced m (take (i + 1) places)) (sym w.table-is)
            (nowhere m places i i_in table (sym w.in_default.is ∙ c.place_in-place.ensures) so_far.placed)
      ];
      one_each = watches.as_many ∙ so_far.one_each;
      each = λ a low. elim (cases_eq a i) [
        | inl is ↦ subst (IsWatched s new) (sym is)
            (first_watched s ok i within old new betters are watches so_far.one_each (λ p r. so_far.later i p r (omega arith)))
        | inr ne ↦ watched_still s old new (i ∷ []) a keeps (other a ne) (so_far.each a (omega arith))
      ];
      later = λ a p r low known ranked. keeps a p r (other a (omega arith)) known ranked ∙ so_far.later a p r (omega arith) known ranked;
    }

pub insert-requires : goal.insert-requires
insert-requires c = grind (arith, common_steps)

pub returns-clause-placed : goal.returns-clause-placed
returns-clause-placed c = grind (arith, common_steps)
