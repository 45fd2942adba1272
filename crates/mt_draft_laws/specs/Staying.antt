-- Which programs and applicants of a file stay after its withdrawals, and their numbers among themselves. (This
-- project's own format.)
use Rattle.std.specs.Prelude.{ℕ, ◌+◌, Bool, true, false, not, List, [], ◌∷◌, map, Option, Some, None, option_map, slice_index_or, flat_map, filter_map, if◌then◌else◌}
use Rattle.mt_terms.specs.Market.{Pair}
use Rattle.mt_terms.specs.Registration.Ids.{Bytes, has_id}
use Rattle.mt_terms.specs.Registration.Records.{Record, ProgramRecord, ApplicantRecord, CoupleRecord, WithdrawRecord, OfProgram}
use Rattle.mt_terms.specs.Registration.Rows.{own_id, applicants_of}

-- the elements whose flag is set
abbrev pub flagged : {X : Type 0} → List Bool → List X → List X
flagged [] xs = []
flagged (b ∷ bs) [] = []
flagged (b ∷ bs) (x ∷ xs) = if b then x ∷ flagged bs xs else flagged bs xs

-- the numbers that those with a flag have among themselves, from a number on
abbrev pub new_numbers : ℕ → List Bool → List (Option ℕ)
new_numbers n [] = []
new_numbers n (true ∷ bs) = Some n ∷ new_numbers (n + 1) bs
new_numbers n (false ∷ bs) = None ∷ new_numbers n bs

-- where a pair sends a member, by new numbers: none if the program that it names has none
abbrev pub new_place : List (Option ℕ) → Option ℕ → Option (Option ℕ)
new_place news None = Some None
new_place news (Some n) = option_map Some (slice_index_or news n None)

-- the two of a pair, if both are there
abbrev pub both_there : {X : Type 0} → Option X → Option X → Option (X × X)
both_there (Some x) (Some y) = Some (x, y)
both_there _ _ = None

-- a pair by new numbers: none if a program that it names has none
abbrev pub new_pair : List (Option ℕ) → Pair → Option Pair
new_pair news p = both_there (new_place news p.0) (new_place news p.1)

-- Whether a record stays if these ids are withdrawn. A withdrawal itself doesn't stay.
abbrev pub stays_without : (programs applicants couples : List Bytes) → Record → Bool
stays_without programs applicants couples (ProgramRecord id quota list) = not (has_id programs id)
stays_without programs applicants couples (ApplicantRecord id list) = not (has_id applicants id)
stays_without programs applicants couples (CoupleRecord id a b pairs) = not (has_id couples id)
stays_without programs applicants couples (WithdrawRecord kind id) = false

-- for each program whether its record stays
abbrev pub program_flags : (Record → Bool) → List Record → List Bool
program_flags stays records = filter_map (λ r. option_map (λ id. stays r) (own_id OfProgram r)) records

-- for each applicant whether its record stays: one flag for a single, two for a couple
abbrev pub applicant_flags : (Record → Bool) → List Record → List Bool
applicant_flags stays records = flat_map (λ r. map (λ id. stays r) (applicants_of r)) records
