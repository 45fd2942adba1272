-- The finding on a match that was read: the first one, by the places and then by the counts.
use Rattle.std.specs.Prelude.{◌≡◌, ℕ, ◌<◌, ◌-◌, Bool, not, ◌&&◌, ◌==◌, nat_lt, List, length, find, Option, Some, None, option_map, IsTrue}
use Rattle.mt_terms.specs.Market.{Market, Registered, applicants, program_of}
use Rattle.mt_terms.specs.Matching.{Places, filled, options}
use Rattle.mt_terms.specs.Stability.{stable}
use Rattle.mt_terms.specs.Text.{all_filled, positions, unmatched}
use Rattle.mt_terms.specs.Verdict.{verdict_of}
use Rattle.mt_terms.specs.declared.verdict.Verdict.{Verdict}
use Rattle.mt_terms.specs.declared.verdict.Verdict.TheVariants.{Stable, Unlisted, Over, Blocks}
use Rattle.mt_order_laws.specs.Reordered.{set_aside_registered}
use Rattle.mt_verdict_laws.specs.Verdict.{VerdictSays}
use Rattle.mt_match_file.specs.Submitted.{Submitted}
use Rattle.mt_match_file.specs.declared.submitted_match.Count.{Count}
use Rattle.mt_match_file.specs.declared.submitted_match.Count.TheVariants as count
use Rattle.mt_match_file.specs.declared.submitted_match.Counted.{Counted}
use Rattle.mt_first_finding.specs.declared.finding.Finding.{Finding}
use Rattle.mt_first_finding.specs.declared.finding.Finding.TheVariants.{Of, Differs}

-- The market in which a match is judged, with its ids. It is that of the file, but the couples that the match sets
-- aside want nothing.
abbrev pub judged : Registered → Submitted → Registered
judged r submitted = set_aside_registered submitted.aside r

-- whether a record says the counts that a market and the places of a match have
abbrev pub fits_count : Market → Places → Count → Bool
fits_count m places (count.Program p quota placed) =
    nat_lt p (length m.programs) && (quota == (program_of m p).quota) && (placed == filled places p)
fits_count m places (count.Totals all none posts free) =
    (all == applicants m) && (none == unmatched places) && (posts == positions m) && (free == (positions m - all_filled m places))

-- the number of the first record that says other counts
abbrev pub first_differing_of : Market → Places → List Counted → Option ℕ
first_differing_of m places counts = option_map (λ c. Counted.row c) (find (λ c. not (fits_count m places (Counted.count c))) counts)

-- that number for a match that was read, if there is such a record
abbrev pub first_differing : Market → Submitted → Option ℕ
first_differing m submitted = first_differing_of m submitted.places submitted.counts

-- the finding: the verdict on the places, and if they are stable the first record that has other counts
abbrev pub finding_by : Verdict → Option ℕ → Finding
finding_by Stable None = Of Stable
finding_by Stable (Some row) = Differs row
finding_by (Unlisted a) differing = Of (Unlisted a)
finding_by (Over p) differing = Of (Over p)
finding_by (Blocks b) differing = Of (Blocks b)

abbrev pub finding_of : Market → Submitted → Finding
finding_of m submitted = finding_by (verdict_of m submitted.places) (first_differing m submitted)

-- the code of a finding: 0 if the match is stable and its counts fit it, and else 1
abbrev pub finding_code : Finding → ℕ
finding_code (Of Stable) = 0
finding_code (Of (Unlisted a)) = 1
finding_code (Of (Over p)) = 1
finding_code (Of (Blocks b)) = 1
finding_code (Differs row) = 1

-- What a finding says. `Of Stable` says that the match is stable and no record has other counts. `Differs` says that
-- it is stable, and which record is the first with other counts. Each other finding is the verdict: the first place
-- that isn't allowed, the first program over its quota, or the first agent that blocks. An agent that blocks is named
-- with its first option that would be taken.
abbrev pub FindingSays : Market → Submitted → Finding → Type 0
FindingSays m submitted (Of Stable) = IsTrue (stable m submitted.places) × (first_differing m submitted ≡ None)
FindingSays m submitted (Of (Unlisted a)) = VerdictSays m submitted.places (Unlisted a)
FindingSays m submitted (Of (Over p)) = VerdictSays m submitted.places (Over p)
FindingSays m submitted (Of (Blocks b)) = VerdictSays m submitted.places (Blocks b)
FindingSays m submitted (Differs row) = IsTrue (stable m submitted.places) × (first_differing m submitted ≡ Some row)

-- what a finding names is there
abbrev pub IsThere : Market → Finding → Type 0
IsThere m (Of Stable) = Unit {0}
IsThere m (Of (Unlisted a)) = a < applicants m
IsThere m (Of (Over p)) = p < length m.programs
IsThere m (Of (Blocks b)) = b.option < length (options m b.agent)
IsThere m (Differs row) = Unit {0}
