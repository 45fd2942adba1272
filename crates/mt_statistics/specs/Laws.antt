-- How the numbers of a match add up.
use Rattle.std.specs.Prelude.{◌≡◌, ℕ, ◌+◌, ◌<◌, ◌≤◌, length, IsTrue}
use Rattle.mt_terms.specs.Lists.{total_below}
use Rattle.mt_terms.specs.Market.{Market, agent_of, applicants, program_of}
use Rattle.mt_terms.specs.Matching.{Places, filled}
use Rattle.mt_terms.specs.Stability.{has_own_option}
use Rattle.mt_terms.specs.Text.{all_filled, positions}
use Rattle.mt_statistics.specs.Counts.{at_choice, at_pair, choices_from, couples_with, empty_programs, full_programs, most_choices, most_pairs, open_posts, pairs_from, partly_filled_programs, singles, unmatched_singles}

-- Each agent has an option of its list, or nothing.
abbrev pub HaveOwnOptions : Market → Places → Type 0
HaveOwnOptions m places = (a : ℕ) → a < applicants m → IsTrue (has_own_option m places (agent_of m a))

-- No program has more applicants than its quota.
abbrev pub AreWithinQuotas : Market → Places → Type 0
AreWithinQuotas m places = (p : ℕ) → p < length m.programs → filled places p ≤ (program_of m p).quota

-- The singles at each choice and the unmatched ones are all singles, if each agent has an option of its list or nothing.
abbrev pub SinglesAddUp : Type 0
SinglesAddUp = (m : Market) (places : Places) → HaveOwnOptions m places
    → total_below (at_choice m places) (most_choices m places) + unmatched_singles m places ≡ singles m

-- The singles that have the choice with number k or a later one are those of the counts from k on.
abbrev pub LaterChoicesAddUp : Type 0
LaterChoicesAddUp = (m : Market) (places : Places) (k : ℕ) → k ≤ most_choices m places
    → total_below (at_choice m places) k + choices_from m places k ≡ total_below (at_choice m places) (most_choices m places)

-- The couples that have the pair with number k or a later one are those of the counts from k on.
abbrev pub LaterPairsAddUp : Type 0
LaterPairsAddUp = (m : Market) (places : Places) (k : ℕ) → k ≤ most_pairs m places
    → total_below (at_pair m places) k + pairs_from m places k ≡ total_below (at_pair m places) (most_pairs m places)

-- Couples with both, one and none of their members placed are all couples.
abbrev pub CouplesAddUp : Type 0
CouplesAddUp = (m : Market) (places : Places)
    → couples_with m places 2 + couples_with m places 1 + couples_with m places 0 ≡ length m.couples

-- Full programs, partly filled ones and empty ones are all programs.
abbrev pub ProgramsAddUp : Type 0
ProgramsAddUp = (m : Market) (places : Places)
    → full_programs m places + partly_filled_programs m places + empty_programs m places ≡ length m.programs

-- Filled posts and open ones are all posts, if no program has more applicants than its quota.
abbrev pub PostsAddUp : Type 0
PostsAddUp = (m : Market) (places : Places) → AreWithinQuotas m places
    → all_filled m places + open_posts m places ≡ positions m
