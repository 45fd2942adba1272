-- Every finding against a match, in the order in which the first one is looked for. This project's own order.
use Rattle.std.specs.Prelude.{ℕ, not, Bool, List, [], ◌∷◌, ◌++◌, map, filter, length, slice_index_or}
use Rattle.std.specs.List.{flat_map}
use Rattle.mt_terms.specs.Lists.{below}
use Rattle.mt_terms.specs.Market.{Market, agents, applicants}
use Rattle.mt_terms.specs.Matching.{Places, better}
use Rattle.mt_terms.specs.Stability.{would_be_taken}
use Rattle.mt_terms.specs.Verdict.{is_over, is_unlisted}
use Rattle.mt_terms.specs.declared.numbers.Agent.{Agent}
use Rattle.mt_terms.specs.declared.verdict.Verdict.TheVariants.{Stable, Unlisted, Over, Blocks}
use Rattle.mt_match_file.specs.Submitted.{Submitted}
use Rattle.mt_match_file.specs.declared.submitted_match.Counted.{Counted}
use Rattle.mt_first_finding.specs.Findings.{fits_count}
use Rattle.mt_first_finding.specs.declared.finding.Finding.{Finding}
use Rattle.mt_first_finding.specs.declared.finding.Finding.TheVariants.{Of, Differs}

-- the applicants whose places aren't allowed, by number
abbrev pub unlisted : Market → Places → List Finding
unlisted m places = map (λ a. Of (Unlisted a)) (filter (is_unlisted m places) (below (applicants m)))

-- the programs over their quotas, by number
abbrev pub over : Market → Places → List Finding
over m places = map (λ p. Of (Over p)) (filter (is_over m places) (below (length m.programs)))

-- whether an agent has a better option with a number on its list, and that option would be taken
abbrev pub is_taken : Market → Places → Agent → ℕ → Bool
is_taken m places g k = would_be_taken m places (slice_index_or (better m places g) k [])

-- the numbers of an agent's better options that would be taken, in the order of its list
abbrev pub blocking_options : Market → Places → Agent → List ℕ
blocking_options m places g = filter (is_taken m places g) (below (length (better m places g)))

-- an agent with each option by which it blocks
abbrev pub blocking_by : Market → Places → Agent → List Finding
blocking_by m places g = map (λ k. Of (Blocks (record { agent = g; option = k }))) (blocking_options m places g)

-- The agents that block, each with every option by which it does. An agent that has no option of its list wants all of
-- them more.
abbrev pub blocking : Market → Places → List Finding
blocking m places = flat_map (blocking_by m places) (agents m)

-- the records that say other counts than a market and the places of a match have
abbrev pub differing_of : Market → Places → List Counted → List Finding
differing_of m places counts = map (λ c. Differs (Counted.row c)) (filter (λ c. not (fits_count m places (Counted.count c))) counts)

-- every finding: by the places of applicants, then of programs, then of agents that block, and then by the counts
abbrev pub findings : Market → Submitted → List Finding
findings m submitted =
    unlisted m submitted.places ++ (over m submitted.places ++ (blocking m submitted.places ++ differing_of m submitted.places submitted.counts))

-- the first of some findings, or that the match is stable if there is none
abbrev pub first_of : List Finding → Finding
first_of [] = Of Stable
first_of (finding ∷ rest) = finding
