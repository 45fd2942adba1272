use Rattle.std.proofs.Common.{◌≡◌, ◌∙◌, ◌++◌, ◌+◌, ◌<◌, ◌^◌, ℕ, List, [], refl, ap, ap₂, length, subst, sym, arith, append_assoc}
use Rattle.std.specs.List.{All, flat_map}
use Rattle.std.proofs.lemmas.List.{append-nil}
use Rattle.mt_terms.specs.Market.{Market, IsAgentOf}
use Rattle.mt_terms.specs.Matching.{Places}
use Rattle.mt_terms.specs.declared.numbers.Agent.{Agent}
use Rattle.mt_match_file.specs.declared.submitted_match.Counted.{Counted}
use Rattle.mt_first_finding.specs.View.{market_of, places_of}
use Rattle.mt_first_finding.specs.declared.finding.Finding.{Finding}
use Rattle.mt_judged.proofs.AgentFacts.{agents_numbered}
use Rattle.mt_findings.specs.Findings.{blocking, blocking_by, differing_of, findings, over, unlisted}
use Rattle.mt_findings.proofs.WritingFacts.{failed_as, failed_more, failed_then, failed_within, given_all, given_broken, room_for, wrote_as, wrote_then}
use Rattle.mt_findings.proofs.writing.write_all.Goals as goal

-- four lists, one after another
in_fours : (us os bs ds : List Finding) → ((us ++ os) ++ bs) ++ ds ≡ us ++ (os ++ (bs ++ ds))
in_fours us os bs ds = append_assoc (us ++ os) bs ds ∙ append_assoc us os (bs ++ ds)

in_turn : (us os bs ds : List Finding) → ((us ++ os) ++ bs) ++ (ds ++ []) ≡ us ++ (os ++ (bs ++ ds))
in_turn us os bs ds = ap (λ (rest : List Finding). ((us ++ os) ++ bs) ++ rest) (append-nil ds) ∙ in_fours us os bs ds

differing_is : (m n : Market) (places others : Places) (counts told : List Counted) → n ≡ m → others ≡ places → told ≡ counts
    → differing_of n others told ≡ differing_of m places counts
differing_is m n places others counts told market same all = ap₂ (λ x y. differing_of x y told) market same ∙ ap (differing_of m places) all

-- a page with no findings has room for as many as a number counts
room : (start n : ℕ) → start ≡ 0 → n < 2 ^ 64 → start + n < 2 ^ 64
room start n none few = omega arith

pub returns-in_err-write_unlisted-clause-given : goal.returns-in_err-write_unlisted-clause-given
returns-in_err-write_unlisted-clause-given g c =
    let r = c.args.tables.now.registered in
    let places = c.args.submitted.now.places in
    given_broken g.W.Write.contents r c.from_residual.result _ _ _ _ _ _ (findings r.market c.args.submitted.now) c.from_residual.ensures.1 c.requires.page
    (failed_more g.W.Write.contents r _ _ _ _ (unlisted r.market places) _
    (failed_as g.W.Write.contents _ r refl _ _ _ _ _ (unlisted r.market places) (ap (unlisted r.market) (sym c.requires.places)) c.in_err-write_unlisted.ensures.failed))

pub returns-in_err-write_over-clause-given : goal.returns-in_err-write_over-clause-given
returns-in_err-write_over-clause-given g c =
    let r = c.args.tables.now.registered in
    let m = r.market in
    let s = c.args.submitted.now in
    let one = wrote_as g.W.Write.contents _ r refl _ _ _ _ _ (unlisted m s.places) (ap (unlisted m) (sym c.requires.places)) c.in_ok-write_unlisted.ensures.wrote in
    let failed = failed_as g.W.Write.contents _ r c.roster-roster.ensures _ _ _ _ _ (over m s.places) (ap₂ over c.requires.market (c.requires.tally ∙ sym c.requires.places)) c.in_err-write_over.ensures.failed in
    given_broken g.W.Write.contents r c.from_residual-in_err-write_over.result _ _ _ _ _ _ (findings m s) c.from_residual-in_err-write_over.ensures.1 c.requires.page
    (failed_within g.W.Write.contents r _ _ _ _ _ _ (unlisted m s.places) (over m s.places) (blocking m s.places ++ differing_of m s.places s.counts) _ one failed refl)

pub returns-in_err-write_blocking-clause-given : goal.returns-in_err-write_blocking-clause-given
returns-in_err-write_blocking-clause-given g c =
    let r = c.args.tables.now.registered in
    let m = r.market in
    let s = c.args.submitted.now in
    let one = wrote_as g.W.Write.contents _ r refl _ _ _ _ _ (unlisted m s.places) (ap (unlisted m) (sym c.requires.places)) c.in_ok-write_unlisted.ensures.wrote in
    let two = wrote_as g.W.Write.contents _ r c.roster-roster.ensures _ _ _ _ _ (over m s.places) (ap₂ over c.requires.market (c.requires.tally ∙ sym c.requires.places)) c.in_ok-write_over.ensures.wrote in
    let both = wrote_then g.W.Write.contents r _ _ _ _ _ _ (unlisted m s.places) (over m s.places) one two in
    let failed = failed_as g.W.Write.contents _ r refl _ _ _ _ _ (blocking m s.places)
    (ap₂ (λ places. flat_map (blocking_by m places)) (sym c.requires.places) c.requires.agents) c.in_err-write_blocking.ensures.failed in
    given_broken g.W.Write.contents r c.from_residual-in_err-write_blocking.result _ _ _ _ _ _ (findings m s) c.from_residual-in_err-write_blocking.ensures.1 c.requires.page
    (failed_within g.W.Write.contents r _ _ _ _ _ _ (unlisted m s.places ++ over m s.places) (blocking m s.places) (differing_of m s.places s.counts) _ both failed
    (append_assoc (unlisted m s.places) (over m s.places) (blocking m s.places ++ differing_of m s.places s.counts)))

pub returns-in_err-write_differing-clause-given : goal.returns-in_err-write_differing-clause-given
returns-in_err-write_differing-clause-given g c =
    let r = c.args.tables.now.registered in
    let m = r.market in
    let s = c.args.submitted.now in
    let one = wrote_as g.W.Write.contents _ r refl _ _ _ _ _ (unlisted m s.places) (ap (unlisted m) (sym c.requires.places)) c.in_ok-write_unlisted.ensures.wrote in
    let two = wrote_as g.W.Write.contents _ r c.roster-roster.ensures _ _ _ _ _ (over m s.places) (ap₂ over c.requires.market (c.requires.tally ∙ sym c.requires.places)) c.in_ok-write_over.ensures.wrote in
    let three = wrote_as g.W.Write.contents _ r refl _ _ _ _ _ (blocking m s.places)
    (ap₂ (λ places. flat_map (blocking_by m places)) (sym c.requires.places) c.requires.agents) c.in_ok-write_blocking.ensures.wrote in
    let all = wrote_then g.W.Write.contents r _ _ _ _ _ _ (unlisted m s.places ++ over m s.places) (blocking m s.places)
    (wrote_then g.W.Write.contents r _ _ _ _ _ _ (unlisted m s.places) (over m s.places) one two) three in
    given_broken g.W.Write.contents r c.from_residual-in_err-write_differing.result _ _ _ _ _ _ (findings m s) c.from_residual-in_err-write_differing.ensures.1 c.requires.page
    (failed_as g.W.Write.contents r r refl _ _ _ _ _ (findings m s) (in_fours (unlisted m s.places) (over m s.places) (blocking m s.places) (differing_of m s.places s.counts))
    (failed_then g.W.Write.contents r _ _ _ _ _ _ ((unlisted m s.places ++ over m s.places) ++ blocking m s.places) (differing_of m s.places s.counts) all
    (failed_as g.W.Write.contents _ r c.roster-roster.ensures _ _ _ _ _ (differing_of m s.places s.counts)
    (differing_is m (market_of c.args.tally.now) s.places (places_of c.args.tally.now) s.counts c.counts.result.now c.requires.market (c.requires.tally ∙ sym c.requires.places) c.counts.ensures)
    c.in_err-write_differing.ensures.failed)))

pub write_over-requires-clause-count : goal.write_over-requires-clause-count
write_over-requires-clause-count g c =
    let r = c.args.tables.now.registered in
    let m = r.market in
    let s = c.args.submitted.now in
    let one = wrote_as g.W.Write.contents _ r refl _ _ _ _ _ (unlisted m s.places) (ap (unlisted m) (sym c.requires.places)) c.in_ok-write_unlisted.ensures.wrote in
    omega (
      arith,
      room_for _ _ (unlisted m s.places) (over m s.places) (blocking m s.places ++ differing_of m s.places s.counts) (findings m s) one.counted refl (room _ _ c.requires.count c.requires.few),
      ap length (ap₂ over c.requires.market (c.requires.tally ∙ sym c.requires.places)),
    )

pub write_blocking-requires-clause-agents : goal.write_blocking-requires-clause-agents
write_blocking-requires-clause-agents g c =
    let r = c.args.tables.now.registered in
    subst (λ (gs : List Agent). All (IsAgentOf r.market) gs) (sym c.requires.agents) (agents_numbered r.market)

pub write_blocking-requires-clause-count : goal.write_blocking-requires-clause-count
write_blocking-requires-clause-count g c =
    let r = c.args.tables.now.registered in
    let m = r.market in
    let s = c.args.submitted.now in
    let one = wrote_as g.W.Write.contents _ r refl _ _ _ _ _ (unlisted m s.places) (ap (unlisted m) (sym c.requires.places)) c.in_ok-write_unlisted.ensures.wrote in
    let two = wrote_as g.W.Write.contents _ r c.roster-roster.ensures _ _ _ _ _ (over m s.places) (ap₂ over c.requires.market (c.requires.tally ∙ sym c.requires.places)) c.in_ok-write_over.ensures.wrote in
    let both = wrote_then g.W.Write.contents r _ _ _ _ _ _ (unlisted m s.places) (over m s.places) one two in
    omega (
      arith,
      room_for _ _ (unlisted m s.places ++ over m s.places) (blocking m s.places) (differing_of m s.places s.counts) (findings m s) both.counted
          (append_assoc (unlisted m s.places) (over m s.places) (blocking m s.places ++ differing_of m s.places s.counts)) (room _ _ c.requires.count c.requires.few),
      ap length (ap₂ (λ places. flat_map (blocking_by m places)) (sym c.requires.places) c.requires.agents),
    )

pub write_differing-requires-clause-count : goal.write_differing-requires-clause-count
write_differing-requires-clause-count g c =
    let r = c.args.tables.now.registered in
    let m = r.market in
    let s = c.args.submitted.now in
    let one = wrote_as g.W.Write.contents _ r refl _ _ _ _ _ (unlisted m s.places) (ap (unlisted m) (sym c.requires.places)) c.in_ok-write_unlisted.ensures.wrote in
    let two = wrote_as g.W.Write.contents _ r c.roster-roster.ensures _ _ _ _ _ (over m s.places) (ap₂ over c.requires.market (c.requires.tally ∙ sym c.requires.places)) c.in_ok-write_over.ensures.wrote in
    let three = wrote_as g.W.Write.contents _ r refl _ _ _ _ _ (blocking m s.places)
    (ap₂ (λ places. flat_map (blocking_by m places)) (sym c.requires.places) c.requires.agents) c.in_ok-write_blocking.ensures.wrote in
    let all = wrote_then g.W.Write.contents r _ _ _ _ _ _ (unlisted m s.places ++ over m s.places) (blocking m s.places)
    (wrote_then g.W.Write.contents r _ _ _ _ _ _ (unlisted m s.places) (over m s.places) one two) three in
    omega (
      arith,
      room_for _ _ ((unlisted m s.places ++ over m s.places) ++ blocking m s.places) (differing_of m s.places s.counts) [] (findings m s) all.counted
          (in_turn (unlisted m s.places) (over m s.places) (blocking m s.places) (differing_of m s.places s.counts)) (room _ _ c.requires.count c.requires.few),
      ap length (differing_is m (market_of c.args.tally.now) s.places (places_of c.args.tally.now) s.counts c.counts.result.now c.requires.market (c.requires.tally ∙ sym c.requires.places) c.counts.ensures),
    )

pub returns-clause-given : goal.returns-clause-given
returns-clause-given g c =
    let r = c.args.tables.now.registered in
    let m = r.market in
    let s = c.args.submitted.now in
    let one = wrote_as g.W.Write.contents _ r refl _ _ _ _ _ (unlisted m s.places) (ap (unlisted m) (sym c.requires.places)) c.in_ok-write_unlisted.ensures.wrote in
    let two = wrote_as g.W.Write.contents _ r c.roster-roster.ensures _ _ _ _ _ (over m s.places) (ap₂ over c.requires.market (c.requires.tally ∙ sym c.requires.places)) c.in_ok-write_over.ensures.wrote in
    let three = wrote_as g.W.Write.contents _ r refl _ _ _ _ _ (blocking m s.places)
    (ap₂ (λ places. flat_map (blocking_by m places)) (sym c.requires.places) c.requires.agents) c.in_ok-write_blocking.ensures.wrote in
    let all = wrote_then g.W.Write.contents r _ _ _ _ _ _ (unlisted m s.places ++ over m s.places) (blocking m s.places)
    (wrote_then g.W.Write.contents r _ _ _ _ _ _ (unlisted m s.places) (over m s.places) one two) three in
    given_all g.W.Write.contents r c.finish.result _ _ c.finish.new.drain _ _ _ _ _ (findings m s) (ap length c.aside.ensures) c.requires.page c.requires.count
    (wrote_as g.W.Write.contents r r refl _ _ _ _ _ (findings m s) (in_fours (unlisted m s.places) (over m s.places) (blocking m s.places) (differing_of m s.places s.counts))
    (wrote_then g.W.Write.contents r _ _ _ _ _ _ ((unlisted m s.places ++ over m s.places) ++ blocking m s.places) (differing_of m s.places s.counts) all
    (wrote_as g.W.Write.contents _ r c.roster-roster.ensures _ _ _ _ _ (differing_of m s.places s.counts)
    (differing_is m (market_of c.args.tally.now) s.places (places_of c.args.tally.now) s.counts c.counts.result.now c.requires.market (c.requires.tally ∙ sym c.requires.places) c.counts.ensures)
    c.in_ok-write_differing.ensures.wrote)))
    c.finish.ensures.count c.finish.ensures.sends c.finish.ensures.breaks
