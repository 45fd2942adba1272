-- Two files that differ in one record, and the match that is published for a file.
use Rattle.std.specs.Prelude.{◌≡◌, ℕ, List, [], ◌∷◌, ◌++◌, Ok, Some, codes}
use Rattle.mt_lists.specs.Records.{records_of}
use Rattle.mt_terms.specs.Market.{Registered}
use Rattle.mt_terms.specs.Matching.{Places}
use Rattle.mt_terms.specs.Registration.Ids.{Bytes, quota_of}
use Rattle.mt_run_laws.specs.Answer as run
use Rattle.mt_match_file.specs.declared.submitted_match.Counted.{Counted}
use Rattle.mt_check.specs.Answer as check
use Rattle.mt_input.specs.Files.{market_in}
use Rattle.mt_files.specs.Files.{submitted_in}
use Rattle.mt_first_finding.specs.Text.{stable_line}

-- the records of two files are the same, but for the list of one applicant's record
pub record DifferInList (bytes other_bytes : List ℕ) (id : Bytes) (list other : List Bytes) : Type 0 where
  pub before : List (List Bytes)
  pub after : List (List Bytes)
  pub one : records_of bytes ≡ Some (before ++ (codes "applicant" ∷ id ∷ list) ∷ after)
  pub two : records_of other_bytes ≡ Some (before ++ (codes "applicant" ∷ id ∷ other) ∷ after)

-- the same, but for the quota of one program's record
pub record DifferInQuota (bytes other_bytes : List ℕ) (id : Bytes) (quota other : ℕ) : Type 0 where
  pub before : List (List Bytes)
  pub after : List (List Bytes)
  pub list : List Bytes
  pub quota_field : Bytes
  pub other_field : Bytes
  pub quota_is : quota_of quota_field ≡ Some quota
  pub other_is : quota_of other_field ≡ Some other
  pub one : records_of bytes ≡ Some (before ++ (codes "program" ∷ id ∷ quota_field ∷ list) ∷ after)
  pub two : records_of other_bytes ≡ Some (before ++ (codes "program" ∷ id ∷ other_field ∷ list) ∷ after)

-- For the file in some bytes, whose market this is, a text is published, and these are the places that it tells.
pub record Publishes (bytes : List ℕ) (r : Registered) (places : Places) : Type 0 where
  pub budget : ℕ
  pub text : List ℕ
  pub is_answer : run.IsAnswer bytes budget 0 text
  pub of_bytes : market_in bytes ≡ Ok r
  pub counts : List Counted
  pub of_text : submitted_in r text ≡ Ok (record { places = places; counts = counts; aside = [] })

-- For the file in some bytes, whose market this is, a text is called stable by the judge, and these are the places
-- that it tells. It sets no couple aside.
pub record CalledStable (bytes : List ℕ) (r : Registered) (places : Places) : Type 0 where
  pub text : List ℕ
  pub is_answer : check.IsAnswer bytes text 0 stable_line
  pub of_bytes : market_in bytes ≡ Ok r
  pub counts : List Counted
  pub of_text : submitted_in r text ≡ Ok (record { places = places; counts = counts; aside = [] })
