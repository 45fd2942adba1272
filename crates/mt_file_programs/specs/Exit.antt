-- What an exit status says of the words of a command line. This project's own rule.
use Rattle.std.specs.Prelude.{◌≡◌, ◌⊎◌, ℕ, List, [], ◌∷◌, IsTrue}
use Rattle.clap.specs.Words.{App, Text, fault_of}
use Rattle.mt_terms.specs.Lists.{has}
use Rattle.mt_file_programs.specs.CommandLine.{AskToBeTold}

-- Status 64 says that the words are misuse. A status of the program's own says that the command takes them. Status 0
-- says that it takes them, or that they ask for help or the version. Statuses 4 and 5 say nothing of them.
pub record IsExitOf (app : App) (own : List ℕ) (wrong : Type 0) (words : List Text) (status : ℕ) : Type 0 where
  pub known : IsTrue (has (0 ∷ 4 ∷ 5 ∷ 64 ∷ own) status)
  pub misuse : status ≡ 64 → wrong
  pub taken : IsTrue (has own status) → fault_of app words ≡ []
  pub done : status ≡ 0 → (fault_of app words ≡ []) ⊎ AskToBeTold app words
