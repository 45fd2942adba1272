-- What a change of one record of a file does to its applicants, if no couple is entered. Two files with one
-- difference name the same programs and applicants, each by the same number.
use Rattle.std.specs.Prelude.{◌≡◌, ◌≢◌, ℕ, ◌≤◌, List, []}
use Rattle.mt_terms.specs.Market.{Registered}
use Rattle.mt_terms.specs.Matching.{Places}
use Rattle.mt_terms.specs.Registration.Ids.{Bytes}
use Rattle.mt_terms.specs.Text.{name_of}
use Rattle.mt_applicant_laws.specs.Changes.{HasAtLeast}
use Rattle.mt_answer_laws.specs.TwoFiles.{CalledStable, DifferInList, DifferInQuota, Publishes}

-- No applicant gains by another list in its record. By the list of the first file, it has at least as much in the match
-- that is published for this file as in the match that is published for the second. (Dubins and Freedman 1981; Roth 1982)
abbrev pub NoneGainsByAnotherRecord : Type 0
NoneGainsByAnotherRecord =
    (bytes other_bytes : List ℕ) (id : Bytes) (list other_list : List Bytes) → DifferInList bytes other_bytes id list other_list
    → (r s : Registered) (places other : Places) → Publishes bytes r places → Publishes other_bytes s other → r.market.couples ≡ []
    → (s.names ≡ r.names) × ((a : ℕ) → name_of r.names.applicants a ≡ id → HasAtLeast r.market a places other)

-- Nor does any match give it more that is called stable for the second file. (Demange, Gale and Sotomayor 1987)
abbrev pub NoCalledMatchGivesMore : Type 0
NoCalledMatchGivesMore =
    (bytes other_bytes : List ℕ) (id : Bytes) (list other_list : List Bytes) → DifferInList bytes other_bytes id list other_list
    → (r s : Registered) (places other : Places) → Publishes bytes r places → CalledStable other_bytes s other → r.market.couples ≡ []
    → (s.names ≡ r.names) × ((a : ℕ) → name_of r.names.applicants a ≡ id → HasAtLeast r.market a places other)

-- If an applicant's record lists nothing in the second file, no other applicant is hurt. (Gale and Sotomayor 1985)
abbrev pub OneLessInFileHurtsNoOther : Type 0
OneLessInFileHurtsNoOther =
    (bytes fewer_bytes : List ℕ) (id : Bytes) (list : List Bytes) → DifferInList bytes fewer_bytes id list []
    → (r s : Registered) (places fewer : Places) → Publishes bytes r places → Publishes fewer_bytes s fewer → r.market.couples ≡ []
    → (s.names ≡ r.names) × ((b : ℕ) → name_of r.names.applicants b ≢ id → HasAtLeast r.market b fewer places)

-- A higher quota in a program's record hurts no applicant. (After Gale and Sotomayor 1985; Konishi and Ünver 2006)
abbrev pub HigherQuotaInFileHurtsNone : Type 0
HigherQuotaInFileHurtsNone =
    (bytes more_bytes : List ℕ) (id : Bytes) (quota more_quota : ℕ) → DifferInQuota bytes more_bytes id quota more_quota → quota ≤ more_quota
    → (r s : Registered) (places more : Places) → Publishes bytes r places → Publishes more_bytes s more → r.market.couples ≡ []
    → (s.names ≡ r.names) × ((a : ℕ) → HasAtLeast r.market a more places)
