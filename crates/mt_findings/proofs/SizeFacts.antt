-- There are fewer findings than a count has room for, by the limits of a market.
use Rattle.std.proofs.Common.{◌^◌, ◌<◌, ◌≤◌, Bool, not, List, ◌++◌, map, filter, length, get_or, refl, arith, length-append}
use Rattle.std.specs.List.{All}
use Rattle.std.proofs.lemmas.List.{length-map}
use Rattle.std.proofs.lemmas.List.Concat.{length-flat_map}
use Rattle.std.proofs.lemmas.List.Filters.{length-filter_both}
use Rattle.std.proofs.lemmas.List.Sums.{sum_by-le}
use Rattle.mt_terms.specs.Lists.{below}
use Rattle.mt_terms.specs.Market.{Registered, agent_of, agents, applicants, couple_of, leads, list_of, IsAgentOf}
use Rattle.mt_terms.specs.Matching.{Places, better, couple_placement, holds, options, single_placement}
use Rattle.mt_terms.specs.Registration.Accepted.{IsRegistration}
use Rattle.mt_terms.specs.Verdict.{is_over, is_unlisted}
use Rattle.mt_terms.specs.declared.numbers.Agent.{Agent}
use Rattle.mt_terms.specs.declared.numbers.Agent.TheVariants.{Single, Couple}
use Rattle.mt_terms.specs.declared.verdict.Verdict.TheVariants.{Unlisted, Over, Blocks}
use Rattle.mt_terms.proofs.ListFacts.{until-le}
use Rattle.mt_order_laws.proofs.OrderLists.{length_below}
use Rattle.mt_verify.proofs.MarketFacts.{few_listed, few_pairs}
use Rattle.mt_match_file.specs.Submitted.{Submitted}
use Rattle.mt_match_file.specs.declared.submitted_match.Counted.{Counted}
use Rattle.mt_first_finding.specs.Findings.{fits_count}
use Rattle.mt_first_finding.specs.declared.finding.Finding.TheVariants.{Of, Differs}
use Rattle.mt_judged.proofs.AgentFacts.{agents_numbered}
use Rattle.mt_findings.specs.Findings.{blocking, blocking_by, differing_of, findings, is_taken, over, unlisted}

-- no more pass a test than there are
passing-le : {X Y : Type 0} (f : X → Y) (test : X → Bool) (xs : List X) → length (map f (filter test xs)) ≤ length xs
passing-le f test xs = omega (arith, length-map (filter test xs) f, length-filter_both test (λ x. not (test x)) (λ x. refl) xs)

module _ (r : Registered) (registration : IsRegistration r) where
  few_options : (g : Agent) → IsAgentOf r.market g → length (options r.market g) ≤ 8000000
  few_options (Single a) numbered = omega (arith, length-map (list_of r.market a) (single_placement a), few_listed r registration a numbered)
  few_options (Couple c) numbered =
      let couple = couple_of r.market c in
      omega (arith, length-map couple.pairs (couple_placement couple.first couple.second), few_pairs r registration c numbered)

  few_agents : length (agents r.market) ≤ 100000
  few_agents = omega (arith, passing-le (agent_of r.market) (leads r.market) (below (applicants r.market)), length_below (applicants r.market), registration.few_applicants)

  few_blocking_by : (places : Places) (g : Agent) → IsAgentOf r.market g → length (blocking_by r.market places g) ≤ 8000000
  few_blocking_by places g numbered =
      let n = length (better r.market places g) in
      omega (
        arith,
        passing-le (λ k. Of (Blocks (record { agent = g; option = k }))) (is_taken r.market places g) (below n),
        length_below n,
        until-le (holds places) (options r.market g),
        few_options g numbered,
      )

  few_blocking : (places : Places) → length (blocking r.market places) ≤ 800000000000
  few_blocking places =
      let each : All (λ (g : Agent). length (blocking_by r.market places g) ≤ 8000000) (agents r.market) =
      λ i g within. few_blocking_by places (get_or (agents r.market) i g) (agents_numbered r.market i g within) in
      omega (arith, length-flat_map (blocking_by r.market places) (agents r.market), sum_by-le (λ (g : Agent). length (blocking_by r.market places g)) 8000000 (agents r.market) each, few_agents)

  pub few_findings : (submitted : Submitted) → length submitted.counts ≤ 2 ^ 63 → length (findings r.market submitted) < 2 ^ 64
  few_findings submitted few =
      let m = r.market in
      let places : Places = submitted.places in
      let after_over = length-append (blocking m places) (differing_of m places submitted.counts) in
      let after_unlisted = length-append (over m places) (blocking m places ++ differing_of m places submitted.counts) in
      let all = length-append (unlisted m places) (over m places ++ (blocking m places ++ differing_of m places submitted.counts)) in
      omega (
        arith,
        all,
        after_unlisted,
        after_over,
        passing-le (λ a. Of (Unlisted a)) (is_unlisted m places) (below (applicants m)),
        length_below (applicants m),
        registration.few_applicants,
        passing-le (λ p. Of (Over p)) (is_over m places) (below (length m.programs)),
        length_below (length m.programs),
        registration.few_programs,
        few_blocking places,
        passing-le (λ (c : Counted). Differs c.row) (λ (c : Counted). not (fits_count m places c.count)) submitted.counts,
        few,
      )
