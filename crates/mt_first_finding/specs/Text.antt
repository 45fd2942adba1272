-- The line that a check writes of a finding. This project's own format.
use Rattle.std.specs.Prelude.{ℕ, zero, suc, List, [], ◌∷◌, ◌++◌, map, slice_index_or, codes, decimal}
use Rattle.mt_terms.specs.Market.{Names, Registered}
use Rattle.mt_terms.specs.Matching.{Placement, options}
use Rattle.mt_terms.specs.Registration.Ids.{Bytes}
use Rattle.mt_terms.specs.Text.{line, name_of, place_text}
use Rattle.mt_terms.specs.declared.numbers.Agent.{Agent}
use Rattle.mt_terms.specs.declared.numbers.Agent.TheVariants.{Single, Couple}
use Rattle.mt_terms.specs.declared.verdict.Verdict.TheVariants.{Stable, Unlisted, Over, Blocks}
use Rattle.mt_first_finding.specs.declared.finding.Finding.{Finding}
use Rattle.mt_first_finding.specs.declared.finding.Finding.TheVariants.{Of, Differs}

-- a line of a check: its word and the version of the format, and then these fields
abbrev pub check_line : List Bytes → Bytes
check_line fields = line (codes "check" ∷ codes "1" ∷ fields)

-- the line of a stable match whose counts fit it
abbrev pub stable_line : Bytes
stable_line = check_line (codes "stable" ∷ [])

-- the fields of such a match that sets this number of couples aside
abbrev pub stable_fields : ℕ → List Bytes
stable_fields zero = codes "stable" ∷ []
stable_fields (suc n) = codes "stable" ∷ codes "aside" ∷ decimal (suc n) ∷ []

-- the line of such a match: the line of a stable match if it sets none aside
abbrev pub stable_line_with : ℕ → Bytes
stable_line_with aside = check_line (stable_fields aside)

-- an agent by its kind and its id, and where an option sends its members
abbrev pub agent_fields : Names → Agent → List Bytes
agent_fields names (Single a) = codes "applicant" ∷ name_of names.applicants a ∷ []
agent_fields names (Couple c) = codes "couple" ∷ name_of names.couples c ∷ []

abbrev pub option_fields : Names → Placement → List Bytes
option_fields names sent = map (λ s. place_text names s.1) sent

abbrev pub finding_fields : Registered → ℕ → Finding → List Bytes
finding_fields r aside (Of Stable) = stable_fields aside
finding_fields r aside (Of (Unlisted a)) = codes "unlisted" ∷ codes "applicant" ∷ name_of r.names.applicants a ∷ []
finding_fields r aside (Of (Over p)) = codes "over" ∷ codes "program" ∷ name_of r.names.programs p ∷ []
finding_fields r aside (Of (Blocks b)) =
    codes "blocks" ∷ (agent_fields r.names b.agent ++ option_fields r.names (slice_index_or (options r.market b.agent) b.option []))
finding_fields r aside (Differs row) = codes "differs" ∷ decimal row ∷ []

-- the line of a finding on a match that sets this number of couples aside
abbrev pub finding_line : Registered → ℕ → Finding → Bytes
finding_line r aside finding = check_line (finding_fields r aside finding)
