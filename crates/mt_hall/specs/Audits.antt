-- What an audit finds.
use Rattle.std.specs.Prelude.{ℕ, ◌<◌, Bool, false, not, ◌&&◌, ◌||◌, ◌==◌, if◌then◌else◌, Option, Some, None, List, length, slice_index_or}
use Rattle.std.specs.List.{list_all, sum_by}
use Rattle.mt_terms.specs.Lists.{below, count_below, total_below}
use Rattle.mt_terms.specs.Market.{Market, applicants, live}
use Rattle.mt_terms.specs.Floor.{Floor}
use Rattle.mt_ranks.specs.Ranked.{Ranked}
use Rattle.mt_desks.specs.Parts.{PassView, IsRow}
use Rattle.mt_desks.specs.Singles.{is_single}
use Rattle.mt_hall.specs.declared.audit.Row.{Row}

-- how many proposals were made with all the passes
abbrev pub all_proposals : List PassView → ℕ
all_proposals passes = sum_by (λ (s : PassView). s.proposals) passes

-- how many of them were made for one applicant, or to one program, by the list that counts these
abbrev pub all_at : (PassView → List ℕ) → List PassView → ℕ → ℕ
all_at counts passes n = sum_by (λ (s : PassView). slice_index_or (counts s) n 0) passes

-- whether for each single the passes' counts add up to what the floor has
abbrev pub singles_agree : Ranked → Floor → List PassView → Bool
singles_agree r f passes = list_all (λ a. not (is_single r a) || (all_at (λ s. s.by_applicant) passes a == f.made a)) (below (applicants r.market))

-- whether for each program the passes' counts add up to what the floor has
abbrev pub programs_agree : Ranked → Floor → List PassView → Bool
programs_agree r f passes = list_all (λ p. all_at (λ s. s.by_program) passes p == count_below (f.received p) (applicants r.market)) (below (length r.market.programs))

-- whether for each single and each program the passes' counts add up to what the floor has
abbrev pub all_agree : Ranked → Floor → List PassView → Bool
all_agree r f passes = singles_agree r f passes && programs_agree r f passes

-- what a row says of an applicant
abbrev pub made_in : List Row → ℕ → ℕ
made_in rows a = (slice_index_or rows a (record { made = 0; standing = false })).made

abbrev pub standing_in : List Row → ℕ → Bool
standing_in rows a = (slice_index_or rows a (record { made = 0; standing = false })).standing

-- each applicant below a number has a row that can be that of a legal floor
abbrev pub AreRows : Market → List Row → ℕ → Type 0
AreRows m rows n = (a : ℕ) → a < n → IsRow m a (made_in rows a) (standing_in rows a)

-- The first place with a desk of another applicant, and that applicant, once one place more is looked at.
abbrev pub noted : Option (ℕ × ℕ) → ℕ → ℕ → Option (ℕ × ℕ)
noted (Some found) place applicant = Some found
noted None place applicant = if applicant == place then None else (Some (place, applicant))

-- how many live entries the applicants below a number have
abbrev pub entries_to : Market → ℕ → ℕ
entries_to m n = total_below (λ a. length (live m a)) n
