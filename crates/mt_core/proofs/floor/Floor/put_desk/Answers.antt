use Rattle.std.proofs.Common.{◌≡◌, ◌+◌, ◌<◌, length, get_or, sym, ap, ◌∙◌, arith, subst}
use Rattle.std.proofs.lemmas.Grind.{common_steps}
use Rattle.mt_terms.specs.Floor.{Floor, IsRecorded}
use Rattle.mt_terms.proofs.LiveFacts.{live_distinct}
use Rattle.mt_terms.specs.Market.{live}
use Rattle.mt_floor_laws.proofs.FloorLists.{has-take_before}
use Rattle.mt_core.specs.Desks.{with_desk}
use Rattle.mt_core.specs.Floors.{Tables, floor_of, IsOpenedWith}
use Rattle.mt_core.proofs.Desks.{desk_made, desk_received, with_desk_more, with_desk_standing, with_desk_recorded}
use Rattle.mt_core.proofs.FloorTables.{made_of, received_by_rank, entered_floor, entered_opened}
use Rattle.mt_core.proofs.NextFacts.{entry_there}
use Rattle.mt_ranks.proofs.LiveMarket.{live_few}
use Rattle.mt_core.proofs.floor.Floor.put_desk.Goals as goal

pub enter-requires-clause-fits : goal.enter-requires-clause-fits
enter-requires-clause-fits c =
    let r = c.args.ranks.now in
    let made = desk_made r.market _ _ c.args.applicant c.loop-place.place _ c.loop-place.invariant.shows in
    omega (arith, made, made_of r.market c.loop-place.self c.args.applicant, c.loop-place-test.true, c.requires.desk.within, live_few r c.applicants.ensures.ranked c.args.applicant)

pub enter-requires-clause-first_time : goal.enter-requires-clause-first_time
enter-requires-clause-first_time c =
    let r = c.args.ranks.now in
    let a = c.args.applicant in
    let entry = c.unpacked-entry.result in
    let low : c.loop-place.place < length (live r.market a) = omega (arith, c.loop-place-test.true, c.requires.desk.within) in
    let facts = entry_there r c.applicants.ensures.ranked a c.loop-place.place entry entry low (rw c.unpacked-entry.ensures (c.index-live-place.is ∙ ap (λ xs. get_or xs c.loop-place.place c.index-live-place.result) c.live.ensures.list)) in
    sym (received_by_rank r.market c.loop-place.self entry.program a entry.rank facts.1.is_rank)
    ∙ desk_received r.market _ _ a c.loop-place.place _ c.loop-place.invariant.shows entry.program
    ∙ has-take_before (live r.market a) c.loop-place.place entry.program (live_distinct r.market c.applicants.ensures.ranked.well_formed a) facts.0

pub loop-place-preserved : goal.loop-place-preserved
loop-place-preserved c =
    let r = c.args.ranks.now in
    let m = r.market in
    let a = c.args.applicant in
    let t = c.loop-place.self in
    let old = floor_of m c.args.self.now in
    let entry = c.unpacked-entry.result in
    let low : c.loop-place.place < length (live m a) = omega (arith, c.loop-place-test.true, c.requires.desk.within) in
    let facts = entry_there r c.applicants.ensures.ranked a c.loop-place.place entry entry low (rw c.unpacked-entry.ensures (c.index-live-place.is ∙ ap (λ xs. get_or xs c.loop-place.place c.index-live-place.result) c.live.ensures.list)) in
    let opened = c.loop-place.invariant.opened in
    let now = ap (floor_of m) c.enter.ensures.tables ∙ entered_floor m t a entry.program entry.rank opened facts.1 in
    record {
      opened = subst (λ (x : Tables). IsOpenedWith m x) (sym c.enter.ensures.tables) (entered_opened m t a entry.program entry.rank (omega (arith, facts.1.program, opened.holds)) opened);
      shows = subst (λ (x : Floor). x ≡ with_desk m old a (c.loop-place.place + 1) (x.standing a)) (sym now)
          (with_desk_more m old (floor_of m t) a c.loop-place.place entry.program _ c.loop-place.invariant.shows facts.0);
    }

pub returns-clause-floor : goal.returns-clause-floor
returns-clause-floor c =
    let m = c.args.ranks.now.market in
    let t = c.loop-place.self in
    let all : c.loop-place.place ≡ c.args.made = omega (arith, c.loop-place.auto.place-end, c.loop-place-test.false) in
    let shows = c.loop-place.invariant.shows ∙ ap (λ k. with_desk m (floor_of m c.args.self.now) c.args.applicant k ((floor_of m t).standing c.args.applicant)) all in
    ap (floor_of m) c.set_standing.ensures ∙ with_desk_standing m t (floor_of m c.args.self.now) c.args.applicant c.args.made _ c.args.standing c.loop-place.invariant.opened c.requires.applicant shows

pub returns-clause-recorded : goal.returns-clause-recorded
returns-clause-recorded c =
    let m = c.args.ranks.now.market in
    let t = c.loop-place.self in
    let all : c.loop-place.place ≡ c.args.made = omega (arith, c.loop-place.auto.place-end, c.loop-place-test.false) in
    let shows = c.loop-place.invariant.shows ∙ ap (λ k. with_desk m (floor_of m c.args.self.now) c.args.applicant k ((floor_of m t).standing c.args.applicant)) all in
    let is = ap (floor_of m) c.set_standing.ensures ∙ with_desk_standing m t (floor_of m c.args.self.now) c.args.applicant c.args.made _ c.args.standing c.loop-place.invariant.opened c.requires.applicant shows in
    subst (λ (x : Floor). IsRecorded m x) (sym is) (with_desk_recorded m (floor_of m c.args.self.now) c.args.applicant c.args.made c.args.standing c.requires.recorded c.requires.desk)

pub enter-requires-clause-made : goal.enter-requires-clause-made
enter-requires-clause-made c = omega (arith, c.requires.applicant, c.loop-place.invariant.opened.made)

pub enter-requires-clause-standing : goal.enter-requires-clause-standing
enter-requires-clause-standing c = omega (arith, c.requires.applicant, c.loop-place.invariant.opened.standing)

pub enter-requires-clause-program : goal.enter-requires-clause-program
enter-requires-clause-program c =
    let r = c.args.ranks.now in
    let a = c.args.applicant in
    let entry = c.unpacked-entry.result in
    let low : c.loop-place.place < length (live r.market a) = omega (arith, c.loop-place-test.true, c.requires.desk.within) in
    let facts = entry_there r c.applicants.ensures.ranked a c.loop-place.place entry entry low (rw c.unpacked-entry.ensures (c.index-live-place.is ∙ ap (λ xs. get_or xs c.loop-place.place c.index-live-place.result) c.live.ensures.list)) in
    omega (arith, facts.1.program, c.loop-place.invariant.opened.holds)

pub enter-requires-clause-on_list : goal.enter-requires-clause-on_list
enter-requires-clause-on_list c =
    let r = c.args.ranks.now in
    let a = c.args.applicant in
    let entry = c.unpacked-entry.result in
    let low : c.loop-place.place < length (live r.market a) = omega (arith, c.loop-place-test.true, c.requires.desk.within) in
    let facts = entry_there r c.applicants.ensures.ranked a c.loop-place.place entry entry low (rw c.unpacked-entry.ensures (c.index-live-place.is ∙ ap (λ xs. get_or xs c.loop-place.place c.index-live-place.result) c.live.ensures.list)) in
    omega (arith, facts.1.is_rank.within, c.loop-place.invariant.opened.lists entry.program)

pub bounds-live-place : goal.bounds-live-place
bounds-live-place c = grind (arith, common_steps)
