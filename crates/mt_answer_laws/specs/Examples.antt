-- A small file with three matches of it and the answers to them, and a file with one record changed.
use Rattle.std.specs.Prelude.{◌≡◌, ℕ, List, [], ◌∷◌, ◌++◌, Some, None, codes, decimal}
use Rattle.mt_terms.specs.Examples.Markets.{chain}
use Rattle.mt_terms.specs.Examples.RegistrationText.{named}
use Rattle.mt_terms.specs.Market.{Market, Registered}
use Rattle.mt_applicant_laws.specs.Changes.{with_list, with_quota}
use Rattle.mt_run_laws.specs.Answer as run
use Rattle.mt_check.specs.Answer.{answer_to}
use Rattle.mt_first_finding.specs.Text.{check_line, stable_line}
use Rattle.mt_answer_laws.specs.TwoFiles.{DifferInList, DifferInQuota, Publishes}

-- two programs and two applicants of crossed wishes
abbrev pub crossed_bytes : List ℕ
crossed_bytes =
    codes "match,1\n" ++ codes "program,P1,1,a2,a1\n" ++ codes "program,P2,1,a1,a2\n" ++ codes "applicant,a1,P1,P2\n"
    ++ codes "applicant,a2,P2,P1\n"

-- the match that is published for it: each applicant has its first wish
abbrev pub applicants_text : List ℕ
applicants_text =
    codes "match,1,published\n" ++ codes "applicant,a1,P1\n" ++ codes "applicant,a2,P2\n" ++ codes "program,P1,1,1,1\n"
    ++ codes "program,P2,1,1,1\n" ++ codes "totals,2,0,2,0\n"

-- the match in which each program has its first wish
abbrev pub programs_text : List ℕ
programs_text =
    codes "match,1,published\n" ++ codes "applicant,a1,P2\n" ++ codes "applicant,a2,P1\n" ++ codes "program,P1,1,1,1\n"
    ++ codes "program,P2,1,1,1\n" ++ codes "totals,2,0,2,0\n"

-- the published match with another count in its fifth record
abbrev pub other_count_text : List ℕ
other_count_text =
    codes "match,1,published\n" ++ codes "applicant,a1,P1\n" ++ codes "applicant,a2,P2\n" ++ codes "program,P1,1,1,1\n"
    ++ codes "program,P2,1,0,1\n" ++ codes "totals,2,0,2,0\n"

-- The converse of the law isn't so: the match that is best for the programs is called stable too, and is never published.
pub record AnswersOfCrossed : Type 0 where
  pub published : answer_to crossed_bytes applicants_text ≡ record { code = 0; text = stable_line }
  pub other_stable : answer_to crossed_bytes programs_text ≡ record { code = 0; text = stable_line }
  pub never_published : (budget : ℕ) → ¬ run.IsAnswer crossed_bytes budget 0 programs_text
  pub other_count : answer_to crossed_bytes other_count_text ≡ record { code = 1; text = check_line (codes "differs" ∷ decimal 5 ∷ []) }

-- The rejection chain as a file, and this file with one record changed. The first applicant lists its first wish alone,
-- the third one lists nothing, or the first program has two posts.
abbrev pub chain_with : List ℕ → List ℕ → List ℕ → List ℕ
chain_with program first third =
    codes "match,1\n" ++ program ++ codes "program,P2,1,a1,a2\n" ++ first ++ codes "applicant,a2,P2,P1\n" ++ third

abbrev pub chain_bytes : List ℕ
chain_bytes = chain_with (codes "program,P1,1,a2,a3,a1\n") (codes "applicant,a1,P1,P2\n") (codes "applicant,a3,P1\n")

abbrev pub lie_bytes : List ℕ
lie_bytes = chain_with (codes "program,P1,1,a2,a3,a1\n") (codes "applicant,a1,P1\n") (codes "applicant,a3,P1\n")

abbrev pub one_less_bytes : List ℕ
one_less_bytes = chain_with (codes "program,P1,1,a2,a3,a1\n") (codes "applicant,a1,P1,P2\n") (codes "applicant,a3\n")

abbrev pub one_post_more_bytes : List ℕ
one_post_more_bytes = chain_with (codes "program,P1,2,a2,a3,a1\n") (codes "applicant,a1,P1,P2\n") (codes "applicant,a3,P1\n")

-- a market with the ids of that file
abbrev pub chain_names : Market → Registered
chain_names m = named m "P1,P2" "a1,a2,a3" ""

-- The laws of changes speak of them, and the matches differ. The lie leaves the first applicant unplaced. The others have
-- their first wish without the third one, and all three have theirs with a post more.
pub record ChangesOfChain : Type 0 where
  pub lies : DifferInList chain_bytes lie_bytes (codes "a1") (codes "P1" ∷ codes "P2" ∷ []) (codes "P1" ∷ [])
  pub leaves : DifferInList chain_bytes one_less_bytes (codes "a3") (codes "P1" ∷ []) []
  pub grows : DifferInQuota chain_bytes one_post_more_bytes (codes "P1") 1 2
  pub honest : Publishes chain_bytes (chain_names chain) (Some 1 ∷ Some 0 ∷ None ∷ [])
  pub lie : Publishes lie_bytes (chain_names (with_list chain 0 (0 ∷ []))) (None ∷ Some 1 ∷ Some 0 ∷ [])
  pub one_less : Publishes one_less_bytes (chain_names (with_list chain 2 [])) (Some 0 ∷ Some 1 ∷ None ∷ [])
  pub one_post_more : Publishes one_post_more_bytes (chain_names (with_quota chain 0 2)) (Some 0 ∷ Some 1 ∷ Some 0 ∷ [])
