-- A text that no run may write, although its match is stable.
use Rattle.std.specs.Prelude.{ℕ, List, [], ◌∷◌, Some, codes}
use Rattle.mt_terms.specs.Examples.Markets.{crossed}
use Rattle.mt_terms.specs.Market.{Registered}
use Rattle.mt_terms.specs.Text.{published}
use Rattle.mt_run_laws.specs.Answer.{IsAnswer}
use Rattle.mt_input.specs.Files.{IsMarketOf}

-- Two programs and two applicants of crossed wishes.
--     program,P1,1,a2,a1    program,P2,1,a1,a2    applicant,a1,P1,P2    applicant,a2,P2,P1
abbrev pub crossed_file : Registered
crossed_file =
    record {
      market = crossed;
      names = record { programs = codes "P1" ∷ codes "P2" ∷ []; applicants = codes "a1" ∷ codes "a2" ∷ []; couples = [] };
    }

-- The match that gives each program its first wish is no answer to such a file.
abbrev pub ProgramOptimalIsNoAnswer : Type 0
ProgramOptimalIsNoAnswer =
    (bytes received : List ℕ) (budget : ℕ) → IsMarketOf bytes crossed_file
    → ¬ IsAnswer bytes budget 0 (published crossed_file.market crossed_file.names (Some 1 ∷ Some 0 ∷ []) received)
