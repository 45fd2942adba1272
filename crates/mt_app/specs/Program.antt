-- What the program does with a reader and a writer, and how it ends.
use Rattle.std.specs.Prelude.{◌≡◌, ◌⊎◌, ℕ, Bool, true, List, [], ◌∷◌, Option, None, Some, codes, IsTrue}
use Rattle.mt_args.specs.CommandLine.{AsksForHelp, AsksForVersion, IsMisuse, is_set, is_taken}
use Rattle.mt_terms.specs.Lists.{has}
use Rattle.mt_answer.specs.declared.ways.Entering.{Entering}
use Rattle.mt_answer.specs.declared.ways.Ways.{Ways}
use Rattle.mt_run_laws.specs.Ways.{AnswersInWays, NamesEntering}
use Rattle.mt_run.specs.declared.in_ways.EndedInWays.{EndedInWays}
use Rattle.mt_spent.specs.Spent.{SaysLine, spent_line}

-- The program ran the match in the ways in which couples may enter. What it did to its writer answers what its reader had
-- left, and it names the couple that was entering if the budget was spent.
pub record IsRun (left : Option (List ℕ)) (budget : ℕ) (ways : Ways) (old new : Option (List ℕ)) (end : EndedInWays) : Type 0 where
  pub answers : AnswersInWays left budget ways old new end.ended.code end.ended.written end.ended.whole
  pub entering : NamesEntering left budget end.ended.code end.entering

-- A writer gets the line of the couple that was entering, if there is one, and nothing otherwise.
abbrev pub SaysEntering : Option Entering → (budget orders : ℕ) (old new : Option (List ℕ)) → Type 0
SaysEntering None budget orders old new = new ≡ old
SaysEntering (Some entering) budget orders old new = SaysLine (spent_line entering budget orders) old new

-- What an exit status says of the words of the command line. Status 64 says that they break the usage. Statuses 2, 3 and
-- 6 say that the command takes them, and 6 that they have `--set-aside`. Status 0 says that it takes them, or that they ask for help or the version.
-- Statuses 4 and 5 say nothing of them.
pub record IsExitFor (words : List (List ℕ)) (status : ℕ) : Type 0 where
  pub known : IsTrue (has (0 ∷ 2 ∷ 3 ∷ 4 ∷ 5 ∷ 6 ∷ 64 ∷ []) status)
  pub misuse : status ≡ 64 → IsMisuse words
  pub taken : IsTrue (has (2 ∷ 3 ∷ 6 ∷ []) status) → is_taken words ≡ true
  pub aside : status ≡ 6 → is_set (codes "set-aside") words ≡ true
  pub done : status ≡ 0 → (is_taken words ≡ true) ⊎ AsksForHelp words ⊎ AsksForVersion words

-- what an exit status says of a run for words that the command takes, and that have `--set-aside` if couples may be set aside
abbrev pub IsExitOfRun : (set_aside : Bool) → ℕ → Type 0
IsExitOfRun set_aside status = (words : List (List ℕ)) → is_taken words ≡ true → set_aside ≡ is_set (codes "set-aside") words → IsExitFor words status
