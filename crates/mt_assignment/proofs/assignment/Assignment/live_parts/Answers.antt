use Rattle.std.proofs.Common.{◌≡◌, ◌∙◌, ℕ, Bool, false, List, Option, Some, ◌==◌, drop, length, ap, sym, refl, arith}
use Rattle.mt_terms.specs.Lists.{until}
use Rattle.mt_terms.specs.Market.{Market, applicants, live_market}
use Rattle.mt_terms.specs.Matching.{at, is_program, place_of, Places}
use Rattle.mt_ranks.specs.declared.entries.Live.{Live}
use Rattle.mt_ranks.specs.Ranked.{Ranked, ranked_list, ranked_of}
use Rattle.mt_assignment.specs.Assigned.{Assigned}
use Rattle.mt_assignment.specs.Watched.{better_entries}
use Rattle.mt_stage_tables.proofs.ListFacts.{drop_past, going_all, going_more, going_stops, until_never}
use Rattle.mt_assignment.proofs.assignment.Assignment.live_parts.Goals as goal
use Rattle.mt_ranks.proofs.LiveMarket.{ranked_applicants}

pub live-live-requires : goal.live-live-requires
live-live-requires c =
    omega (arith, ranked_applicants c.self.inside.ranks.now c.self.inside.roster.now.market c.self.invariant.one_market, ap (λ (s : Assigned). applicants s.market) c.self.view_is)

-- the live list, by the market that is seen
seen : (r : Ranked) (m : Market) (t s : Assigned) (a : ℕ) (live : List Live) → live ≡ ranked_list r.market a → r ≡ ranked_of m → t.market ≡ m → t ≡ s → live ≡ ranked_list (live_market s.market) a
seen r m t s a live read one inside is =
    read ∙ ap (λ (x : Ranked). ranked_list x.market a) one ∙ ap (λ (n : Market). ranked_list (live_market n) a) (sym inside) ∙ ap (λ (x : Assigned). ranked_list (live_market x.market) a) is

-- whether an applicant is at a program, if its place was read
at_place : (places : Places) (p a q : ℕ) (place : Option ℕ) (b : Bool) → place ≡ place_of places a → place ≡ Some q → b ≡ (q == p) → at places p a ≡ b
at_place places p a q place b read is told = ap (is_program p) (sym read ∙ is) ∙ sym told

pub returns-then-eq-clause-better : goal.returns-then-eq-clause-better
returns-then-eq-clause-better c =
    let s = c.args.self.now in
    let a = c.args.single in
    let test = λ (e : Live). at s.places e.program a in
    let e = c.index-live-end.result in
    let passes = at_place s.places e.program a c.in-Some.place c.place.result c.eq.result c.place.ensures c.in-Some.is
    (c.eq.ensures ∙ ap (λ (x : Live). c.in-Some.place == x.program) c.unpacked.ensures) ∙ c.if-eq.true in
    c.split_at.ensures.front ∙ going_stops test c.live-live.result.now c.loop-end.end e c.loop-end-test.true c.index-live-end.is c.loop-end.invariant passes
    ∙ ap (until test) (seen c.self.inside.ranks.now c.self.inside.roster.now.market _ s a c.live-live.result.now c.live-live.ensures.list c.self.invariant.one_market refl c.self.view_is)

pub returns-then-eq-clause-others : goal.returns-then-eq-clause-others
returns-then-eq-clause-others c =
    let s = c.args.self.now in
    let a = c.args.single in
    let end = c.loop-end.end in
    let live : c.live-live.result.now ≡ ranked_list (live_market s.market) a =
    seen c.self.inside.ranks.now c.self.inside.roster.now.market _ s a c.live-live.result.now c.live-live.ensures.list c.self.invariant.one_market refl c.self.view_is in
    let many : end ≡ length (better_entries s a) = sym c.split_at.ensures.front_len ∙ ap length (returns-then-eq-clause-better c) in
    c.split_at.ensures.back ∙ ap (drop end) live ∙ ap (λ n. drop n (ranked_list (live_market s.market) a)) many

pub returns-clause-better : goal.returns-clause-better
returns-clause-better c =
    let s = c.args.self.now in
    let a = c.args.single in
    let test = λ (e : Live). at s.places e.program a in
    going_all test c.live-live.result.now c.loop-end.end c.loop-end-test.false c.loop-end.invariant
    ∙ ap (until test) (seen c.self.inside.ranks.now c.self.inside.roster.now.market _ s a c.live-live.result.now c.live-live.ensures.list c.self.invariant.one_market refl c.self.view_is)

pub returns-clause-others : goal.returns-clause-others
returns-clause-others c =
    let s = c.args.self.now in
    let a = c.args.single in
    let all = ranked_list (live_market s.market) a in
    let live : c.live-live.result.now ≡ all =
    seen c.self.inside.ranks.now c.self.inside.roster.now.market _ s a c.live-live.result.now c.live-live.ensures.list c.self.invariant.one_market refl c.self.view_is in
    let many : length all ≡ length (better_entries s a) = ap length (sym live ∙ returns-clause-better c) in
    sym (drop_past all (length (better_entries s a)) (omega (arith, many)))

pub loop-end-preserved : goal.loop-end-preserved
loop-end-preserved c =
    let s = c.args.self.now in
    let a = c.args.single in
    let test = λ (e : Live). at s.places e.program a in
    let e = c.index-live-end.result in
    let fails = at_place s.places e.program a c.in-Some.place c.place.result c.eq.result c.place.ensures c.in-Some.is
    (c.eq.ensures ∙ ap (λ (x : Live). c.in-Some.place == x.program) c.unpacked.ensures) ∙ c.if-eq.false in
    going_more test c.live-live.result.now c.loop-end.end e c.loop-end-test.true c.index-live-end.is c.loop-end.invariant fails

-- an agent that has nothing wants all that it lists
pub returns-in_default-clause-better : goal.returns-in_default-clause-better
returns-in_default-clause-better c =
    let s = c.args.self.now in
    let a = c.args.single in
    let test = λ (e : Live). at s.places e.program a in
    let nowhere : (e : Live) → test e ≡ false = λ e. ap (is_program e.program) (sym c.place.ensures ∙ c.in_default.is) in
    let live : c.live-live.result.now ≡ ranked_list (live_market s.market) a =
    seen c.self.inside.ranks.now c.self.inside.roster.now.market _ s a c.live-live.result.now c.live-live.ensures.list c.self.invariant.one_market refl c.self.view_is in
    live ∙ sym (until_never test (ranked_list (live_market s.market) a) nowhere)

pub returns-in_default-clause-others : goal.returns-in_default-clause-others
returns-in_default-clause-others c =
    let s = c.args.self.now in
    let a = c.args.single in
    let all = ranked_list (live_market s.market) a in
    let live : c.live-live.result.now ≡ all =
    seen c.self.inside.ranks.now c.self.inside.roster.now.market _ s a c.live-live.result.now c.live-live.ensures.list c.self.invariant.one_market refl c.self.view_is in
    let many : length all ≡ length (better_entries s a) = ap length (sym live ∙ returns-in_default-clause-better c) in
    sym (drop_past all (length (better_entries s a)) (omega (arith, many)))
