-- The steps from records to their market: what is registered, what stands among those that stay and those that leave,
-- and the lists of those that stay by their own numbers.
use Rattle.std.proofs.Common.{◌≡◌, ℕ, suc, ◌+◌, ◌<◌, ◌≤◌, ◌^◌, nat_lt, Bool, true, false, not, ◌&&◌, ◌||◌, List, [], ◌∷◌, length, get_or, Option, Some, None, refl, ap, ap₂, sym, subst, ◌∙◌, arith, cond, if◌then◌else◌}
use Rattle.std.specs.Prelude.{filter, filter_map, flat_map, bytes_eq, is_some, IfSome, MatchOption, Result, Ok, IfOk}
use Rattle.std.specs.declared.alloc.AllocError.{AllocError}
use Rattle.std.specs.List.{list_all, cons_option}
use Rattle.std.proofs.lemmas.Bool.{and_parts, and_from as both, or_parts}
use Rattle.std.proofs.lemmas.Bool.Decides.{nat_tests}
use Rattle.std.proofs.lemmas.List.{length-map}
use Rattle.std.proofs.lemmas.List.Sums.{length-filter, count_by-le-length}
use Rattle.mt_terms.specs.Market.{Pair}
use Rattle.mt_terms.specs.Registration.Ids.{Bytes, has_id, number_of, numbers_of, all_differ}
use Rattle.mt_terms.specs.Registration.Records.{Rules, Record, ProgramRecord, ApplicantRecord, CoupleRecord, WithdrawRecord, Kind, OfProgram, OfApplicant, OfCouple}
use Rattle.mt_terms.specs.Registration.Numbering.{pairs_by_number}
use Rattle.mt_terms.specs.Registration.Passes.{are_too_many}
use Rattle.mt_terms.specs.Registration.Rows.{entry_count, ids_of, applicant_ids, withdrawn, remaining}
use Rattle.mt_terms.specs.declared.limits.Limits.{Limits}
use Rattle.mt_terms.specs.declared.limits.TheConstants.{LIMITS_2}
use Rattle.mt_draft_laws.specs.Faultless.{ids_differ, withdrawals_stand, ranking_stands, list_stands, pair_stands, pairs_stand, is_faultless}
use Rattle.mt_draft_laws.specs.Staying.{both_there, stays_without, flagged, new_numbers, program_flags, applicant_flags}
use Rattle.mt_record_laws.proofs.IdFacts.{differ_parts, neither, itself, or_left, or_right, next_place}
use Rattle.mt_terms.proofs.IdFacts.{same_id}
use Rattle.mt_draft_laws.proofs.StayingFacts.{remaining_is, program_ids_stay, applicant_ids_stay, length-program_flags, length-applicant_flags, length-new_numbers, new_number, numbers_stay, pairs_stay}
use Rattle.mt_drafts.specs.declared.names.NameLists.{NameLists}
use Rattle.mt_records.specs.declared.record.Record.{Record as Checked}
use Rattle.mt_ids.specs.declared.kinds.Kinds.{Kinds}
use Rattle.mt_records.specs.Limits.{AreBounded}
use Rattle.mt_records.specs.Records.{record_seen, all_seen}
use Rattle.mt_numbering.specs.Withdrawals.{HaveFewApplicants, HaveFewPrograms}
use Rattle.mt_drafts.specs.Names.{single_flags, AreNames}
use Rattle.mt_numbering.specs.Markets.{AreIdsOfRecords, AreEntries, GivesEntries, Remains}
use Rattle.mt_numbering.specs.Numbered.{program_lists, applicant_lists, couple_lists, ranking_in, lists_by, members_in, pairs_in}
use Rattle.mt_numbering.specs.Reading.{lists_stand, members_by}
use Rattle.mt_pair_lists.specs.Pairs.{pairs_by, pairs_read, pairs_stand_in}
use Rattle.mt_id_lists.specs.Numbering.{Numbering, number_by, numbers_by}
use Rattle.mt_id_lists.specs.Reading.{ids_read, ids_stand, ReadsAll}
use Rattle.mt_numbering.specs.Registered.{is_registered}
use Rattle.mt_numbering.specs.Withdrawals.{are_once, are_registered, stays_after, AreWithdrawn}
use Rattle.mt_numbering.specs.Sides.{applicants_stand, programs_stand, GivesByApplicants, GivesByPrograms}
use Rattle.mt_market.specs.declared.tables.ByApplicants.{ByApplicants}
use Rattle.mt_market.specs.declared.tables.ByPrograms.{ByPrograms}
use Rattle.mt_numbering.proofs.EntryFacts.{rankings_stand, choices_stand, couples_stand}
use Rattle.mt_records.proofs.FieldFacts.{right_fails}
use Rattle.mt_pair_lists.proofs.PairSteps.{all_only}

-- there is a flag for each applicant whether it is a single
pub length-single_flags : (rs : List Record) → length (single_flags rs) ≡ length (applicant_ids rs)
length-single_flags [] = refl
length-single_flags (ProgramRecord id quota list ∷ rs) = length-single_flags rs
length-single_flags (ApplicantRecord id list ∷ rs) = ap suc (length-single_flags rs)
length-single_flags (CoupleRecord id a b pairs ∷ rs) = ap (λ n. suc (suc n)) (length-single_flags rs)
length-single_flags (WithdrawRecord kind id ∷ rs) = length-single_flags rs

-- an applicant with a flag is one with a record of its own
abbrev is_single : List Record → Bytes → Bool
is_single rs id = has_id (applicant_ids rs) id && get_or (single_flags rs) (number_of (applicant_ids rs) id) false

not_single : (rs : List Record) (id : Bytes) → has_id (applicant_ids rs) id ≡ false → is_single rs id ≡ has_id (ids_of OfApplicant rs) id → false ≡ has_id (ids_of OfApplicant rs) id
not_single rs id n e = let f : is_single rs id ≡ false = rw n refl in sym f ∙ e

single_is : (rs : List Record) (id : Bytes) → all_differ bytes_eq (applicant_ids rs) ≡ true → is_single rs id ≡ has_id (ids_of OfApplicant rs) id
single_is [] id d = refl
single_is (ProgramRecord own quota list ∷ rs) id d = single_is rs id d
single_is (ApplicantRecord own list ∷ rs) id d = by (bytes_eq id own) (single_is rs id (differ_parts own _ d).1)
  where
    by : (x : Bool) → is_single rs id ≡ has_id (ids_of OfApplicant rs) id
        → ((x || has_id (applicant_ids rs) id) && get_or (true ∷ single_flags rs) (cond (not x) (1 + number_of (applicant_ids rs) id) 0) false) ≡ (x || has_id (ids_of OfApplicant rs) id)
    by true ih = refl
    by false ih = rw (next_place true (single_flags rs) (number_of (applicant_ids rs) id) false) ih
single_is (CoupleRecord own a b pairs ∷ rs) id d =
    let p : (has_id (b ∷ applicant_ids rs) a ≡ false) × (all_differ bytes_eq (b ∷ applicant_ids rs) ≡ true) = differ_parts a (b ∷ applicant_ids rs) d in
    let q : (has_id (applicant_ids rs) b ≡ false) × (all_differ bytes_eq (applicant_ids rs) ≡ true) = differ_parts b (applicant_ids rs) p.1 in
    let n : (bytes_eq a b ≡ false) × (has_id (applicant_ids rs) a ≡ false) = neither (bytes_eq a b) _ p.0 in
    by (bytes_eq id a) (bytes_eq id b) (same_id id a) (same_id id b) n.1 q.0 (single_is rs id q.1)
  where
    by : (x y : Bool) → (x ≡ true → id ≡ a) → (y ≡ true → id ≡ b) → has_id (applicant_ids rs) a ≡ false → has_id (applicant_ids rs) b ≡ false
        → is_single rs id ≡ has_id (ids_of OfApplicant rs) id
        → ((x || (y || has_id (applicant_ids rs) id)) && get_or (false ∷ false ∷ single_flags rs) (cond (not x) (1 + cond (not y) (1 + number_of (applicant_ids rs) id) 0) 0) false) ≡ has_id (ids_of OfApplicant rs) id
    by true y e f n m ih = not_single rs id (ap (has_id (applicant_ids rs)) (e refl) ∙ n) ih
    by false true e f n m ih = not_single rs id (ap (has_id (applicant_ids rs)) (f refl) ∙ m) ih
    by false false e f n m ih =
        rw (next_place false (false ∷ single_flags rs) (1 + number_of (applicant_ids rs) id) false, next_place false (single_flags rs) (number_of (applicant_ids rs) id) false) ih
single_is (WithdrawRecord kind own ∷ rs) id d = single_is rs id d

-- ids of all records
module _ (rs : List Record) (ids : Kinds) (are : AreIdsOfRecords rs ids) where
  differ : ((all_differ bytes_eq (ids_of OfProgram rs) && all_differ bytes_eq (applicant_ids rs) ≡ true) × (all_differ bytes_eq (ids_of OfCouple rs) ≡ true))
  differ = and_parts (all_differ bytes_eq (ids_of OfProgram rs) && all_differ bytes_eq (applicant_ids rs)) _ are.differ

  programs_differ : all_differ bytes_eq (ids_of OfProgram rs) ≡ true
  programs_differ = (and_parts (all_differ bytes_eq (ids_of OfProgram rs)) _ differ.0).0

  applicants_differ : all_differ bytes_eq (applicant_ids rs) ≡ true
  applicants_differ = (and_parts (all_differ bytes_eq (ids_of OfProgram rs)) _ differ.0).1

  pub knows_ids : (singles : List Bool) → singles ≡ single_flags rs → (kind : Kind) (id : Bytes) → is_registered ids singles kind id ≡ has_id (ids_of kind rs) id
  knows_ids singles flags OfProgram id = ap (λ (xs : List Bytes). has_id xs id) are.programs
  knows_ids singles flags OfApplicant id =
      ap₂ (λ (xs : List Bytes) (fs : List Bool). has_id xs id && get_or fs (number_of xs id) false) are.applicants flags
      ∙ single_is rs id applicants_differ
  knows_ids singles flags OfCouple id = ap (λ (xs : List Bytes). has_id xs id) are.couples

  pub length-singles : (singles : List Bool) → singles ≡ single_flags rs → length singles ≡ length ids.applicants
  length-singles singles flags = ap length flags ∙ length-single_flags rs ∙ sym (ap length are.applicants)

-- withdrawals stand if what is withdrawn is registered, and withdrawn once
withdrawals_are : (rs : List Record) → withdrawals_stand rs ≡ (are_once rs && are_registered rs)
withdrawals_are rs =
    by (list_all (has_id (ids_of OfProgram rs)) (withdrawn OfProgram rs)) (all_differ bytes_eq (withdrawn OfProgram rs))
    (list_all (has_id (ids_of OfApplicant rs)) (withdrawn OfApplicant rs)) (all_differ bytes_eq (withdrawn OfApplicant rs))
    (list_all (has_id (ids_of OfCouple rs)) (withdrawn OfCouple rs)) (all_differ bytes_eq (withdrawn OfCouple rs))
  where
    by : (k o l p m q : Bool) → ((k && o) && (l && p) && (m && q)) ≡ ((o && p && q) && (k && l && m))
    by k o l p m q = grind arith

-- records have no fault among them if their ids differ, their lists stand, and their withdrawals do
faultless_by_steps : (rules : Rules) (rs : List Record) → are_too_many rules.limits rs ≡ false
    → is_faultless rules rs ≡ ((ids_differ rs && lists_stand rules.half_pairs (ids_of OfProgram rs) (applicant_ids rs) rs) && (are_once rs && are_registered rs))
faultless_by_steps rules rs few =
    by (ids_differ rs) (withdrawals_stand rs) (are_once rs && are_registered rs) (list_all (ranking_stands (applicant_ids rs)) rs) (list_all (list_stands (ids_of OfProgram rs)) rs)
    (list_all (pairs_stand rules.half_pairs (ids_of OfProgram rs)) rs) (are_too_many rules.limits rs) (withdrawals_are rs) few
  where
    by : (i w v r l p t : Bool) → w ≡ v → t ≡ false → (i && w && r && l && p && not t) ≡ ((i && (r && l && p)) && v)
    by i w v r l p t e n = grind arith

-- a record that stays or not, of which a table has nothing
module _ (stays : Record → Bool) where
  passed_over : {X : Type 0} (f : Record → Option X) (r : Record) (rs : List Record) (ys : List X) → f r ≡ None → ys ≡ filter_map f (filter stays rs) → ys ≡ filter_map f (filter stays (r ∷ rs))
  passed_over f r rs ys none ih = by (stays r)
    where
      by : (b : Bool) → ys ≡ filter_map f (cond b (r ∷ filter stays rs) (filter stays rs))
      by true = rw none ih
      by false = ih

-- Below, some ids have flags, and those with a flag are numbered anew.
module _ (flags : List Bool) (ids : List Bytes) (differ : all_differ bytes_eq ids ≡ true) where
  abbrev anew : Numbering ℕ
  anew = record { ids = ids; numbers = new_numbers 0 flags }

  module _ (stays : Record → Bool) where
    rankings_stay : (rs : List Record) → list_all (ranking_stands ids) rs ≡ true
        → flat_map (ids_read anew) (program_lists stays rs) ≡ filter_map (ranking_in (flagged flags ids)) (filter stays rs)
    rankings_stay [] h = refl
    rankings_stay (ProgramRecord id quota list ∷ rs) h =
        let p = and_parts (ranking_stands ids (ProgramRecord id quota list)) _ h in
        by (stays (ProgramRecord id quota list)) (sym (numbers_stay flags ids differ list (and_parts (list_all (has_id ids) list) _ p.0).0)) (rankings_stay rs p.1)
      where
        by : (b : Bool) → numbers_by anew list ≡ numbers_of (flagged flags ids) list
            → flat_map (ids_read anew) (program_lists stays rs) ≡ filter_map (ranking_in (flagged flags ids)) (filter stays rs)
            → flat_map (ids_read anew) ((b, list) ∷ program_lists stays rs)
            ≡ filter_map (ranking_in (flagged flags ids)) (cond b (ProgramRecord id quota list ∷ filter stays rs) (filter stays rs))
        by true e ih = ap₂ (λ (l : List ℕ) (ls : List (List ℕ)). l ∷ ls) e ih
        by false e ih = ih
    rankings_stay (ApplicantRecord id list ∷ rs) h = passed_over stays _ (ApplicantRecord id list) rs _ refl (rankings_stay rs h)
    rankings_stay (CoupleRecord id a b pairs ∷ rs) h = passed_over stays _ (CoupleRecord id a b pairs) rs _ refl (rankings_stay rs h)
    rankings_stay (WithdrawRecord kind id ∷ rs) h = passed_over stays _ (WithdrawRecord kind id) rs _ refl (rankings_stay rs h)

    lists_stay : (rs : List Record) → list_all (list_stands ids) rs ≡ true
        → flat_map (ids_read anew) (applicant_lists stays rs) ≡ flat_map (lists_by (flagged flags ids)) (filter stays rs)
    lists_stay [] h = refl
    lists_stay (ProgramRecord id quota list ∷ rs) h = by (stays (ProgramRecord id quota list)) (lists_stay rs h)
      where
        by : (b : Bool) → flat_map (ids_read anew) (applicant_lists stays rs) ≡ flat_map (lists_by (flagged flags ids)) (filter stays rs)
            → flat_map (ids_read anew) (applicant_lists stays rs) ≡ flat_map (lists_by (flagged flags ids)) (cond b (ProgramRecord id quota list ∷ filter stays rs) (filter stays rs))
        by true ih = ih
        by false ih = ih
    lists_stay (ApplicantRecord id list ∷ rs) h =
        let p = and_parts (list_stands ids (ApplicantRecord id list)) _ h in
        by (stays (ApplicantRecord id list)) (sym (numbers_stay flags ids differ list (and_parts (list_all (has_id ids) list) _ p.0).0)) (lists_stay rs p.1)
      where
        by : (b : Bool) → numbers_by anew list ≡ numbers_of (flagged flags ids) list
            → flat_map (ids_read anew) (applicant_lists stays rs) ≡ flat_map (lists_by (flagged flags ids)) (filter stays rs)
            → flat_map (ids_read anew) ((b, list) ∷ applicant_lists stays rs)
            ≡ flat_map (lists_by (flagged flags ids)) (cond b (ApplicantRecord id list ∷ filter stays rs) (filter stays rs))
        by true e ih = ap₂ (λ (l : List ℕ) (ls : List (List ℕ)). l ∷ ls) e ih
        by false e ih = ih
    lists_stay (CoupleRecord id a c pairs ∷ rs) h = by (stays (CoupleRecord id a c pairs)) (lists_stay rs h)
      where
        by : (b : Bool) → flat_map (ids_read anew) (applicant_lists stays rs) ≡ flat_map (lists_by (flagged flags ids)) (filter stays rs)
            → flat_map (ids_read anew) ((b, []) ∷ (b, []) ∷ applicant_lists stays rs)
            ≡ flat_map (lists_by (flagged flags ids)) (cond b (CoupleRecord id a c pairs ∷ filter stays rs) (filter stays rs))
        by true ih = ap (λ (ls : List (List ℕ)). [] ∷ [] ∷ ls) ih
        by false ih = ih
    lists_stay (WithdrawRecord kind id ∷ rs) h = by (stays (WithdrawRecord kind id)) (lists_stay rs h)
      where
        by : (b : Bool) → flat_map (ids_read anew) (applicant_lists stays rs) ≡ flat_map (lists_by (flagged flags ids)) (filter stays rs)
            → flat_map (ids_read anew) (applicant_lists stays rs) ≡ flat_map (lists_by (flagged flags ids)) (cond b (WithdrawRecord kind id ∷ filter stays rs) (filter stays rs))
        by true ih = ih
        by false ih = ih

    all_pairs_stay : (half_pairs : Bool) (rs : List Record) → list_all (pairs_stand half_pairs ids) rs ≡ true
        → flat_map (pairs_read anew) (couple_lists stays rs) ≡ filter_map (pairs_in (flagged flags ids)) (filter stays rs)
    all_pairs_stay half_pairs [] h = refl
    all_pairs_stay half_pairs (ProgramRecord id quota list ∷ rs) h = passed_over stays _ (ProgramRecord id quota list) rs _ refl (all_pairs_stay half_pairs rs h)
    all_pairs_stay half_pairs (ApplicantRecord id list ∷ rs) h = passed_over stays _ (ApplicantRecord id list) rs _ refl (all_pairs_stay half_pairs rs h)
    all_pairs_stay half_pairs (CoupleRecord id a c pairs ∷ rs) h =
        let p = and_parts (pairs_stand half_pairs ids (CoupleRecord id a c pairs)) _ h in
        let only = all_only half_pairs ids pairs (and_parts (list_all (pair_stands half_pairs ids) pairs) _ p.0).0 in
        by (stays (CoupleRecord id a c pairs)) (sym (pairs_stay flags ids differ pairs only)) (all_pairs_stay half_pairs rs p.1)
      where
        by : (b : Bool) → pairs_by anew pairs ≡ pairs_by_number (flagged flags ids) pairs
            → flat_map (pairs_read anew) (couple_lists stays rs) ≡ filter_map (pairs_in (flagged flags ids)) (filter stays rs)
            → flat_map (pairs_read anew) ((b, pairs) ∷ couple_lists stays rs)
            ≡ filter_map (pairs_in (flagged flags ids)) (cond b (CoupleRecord id a c pairs ∷ filter stays rs) (filter stays rs))
        by true e ih = ap₂ (λ (l : List Pair) (ls : List (List Pair)). l ∷ ls) e ih
        by false e ih = ih
    all_pairs_stay half_pairs (WithdrawRecord kind id ∷ rs) h = passed_over stays _ (WithdrawRecord kind id) rs _ refl (all_pairs_stay half_pairs rs h)

  -- who stays is one of all, and has a new number
  flagged_listed : (bs : List Bool) (xs : List Bytes) (id : Bytes) → has_id (flagged bs xs) id ≡ true → has_id xs id ≡ true
  flagged_listed [] xs id h = cc
  flagged_listed (b ∷ bs) [] id h = cc
  flagged_listed (true ∷ bs) (x ∷ xs) id h = by (bytes_eq id x) h (flagged_listed bs xs id)
    where
      by : (b : Bool) → (b || has_id (flagged bs xs) id) ≡ true → (has_id (flagged bs xs) id ≡ true → has_id xs id ≡ true) → (b || has_id xs id) ≡ true
      by true k ih = refl
      by false k ih = ih k
  flagged_listed (false ∷ bs) (x ∷ xs) id h = or_right (bytes_eq id x) _ (flagged_listed bs xs id h)

  new_at : (id : Bytes) → has_id (flagged flags ids) id ≡ true → number_by anew id ≡ Some (number_of (flagged flags ids) id)
  new_at id h =
      let there : (if has_id (flagged flags ids) id then Some (number_of (flagged flags ids) id) else None) ≡ Some (number_of (flagged flags ids) id) = rw h refl in
      new_number flags ids id differ (flagged_listed flags ids id h) ∙ there

  all_pass : (test : Bytes → Bool) (xs : List Bytes) → ((id : Bytes) → has_id xs id ≡ true → test id ≡ true) → list_all test xs ≡ true
  all_pass test [] f = refl
  all_pass test (x ∷ xs) f = both _ _ (f x (or_left _ _ (itself x))) (all_pass test xs (λ id h. f id (or_right (bytes_eq id x) _ h)))

  members_stay : (rs : List Record) → list_all (has_id (flagged flags ids)) (applicant_ids rs) ≡ true → filter_map (members_by anew) rs ≡ filter_map (members_in (flagged flags ids)) rs
  members_stay [] h = refl
  members_stay (ProgramRecord id quota list ∷ rs) h = members_stay rs h
  members_stay (ApplicantRecord id list ∷ rs) h = members_stay rs (and_parts (has_id (flagged flags ids) id) _ h).1
  members_stay (CoupleRecord id a b pairs ∷ rs) h =
      let p = and_parts (has_id (flagged flags ids) a) _ h in
      let q = and_parts (has_id (flagged flags ids) b) _ p.1 in
      ap₂ (λ (m : Option (ℕ × ℕ)) (ms : List (ℕ × ℕ)). cons_option m ms) (ap₂ both_there (new_at a p.0) (new_at b q.0)) (members_stay rs q.1)
  members_stay (WithdrawRecord kind id ∷ rs) h = members_stay rs h

-- the records that stay if these are all that is withdrawn
pub remaining_are : (rs : List Record) (w : Kinds) → AreWithdrawn rs w → filter (stays_after w) rs ≡ remaining rs
remaining_are rs w are = by w.programs w.applicants w.couples (are.withdrawn OfProgram) (are.withdrawn OfApplicant) (are.withdrawn OfCouple)
  where
    by : (p a c : List Bytes) → p ≡ withdrawn OfProgram rs → a ≡ withdrawn OfApplicant rs → c ≡ withdrawn OfCouple rs → filter (stays_without p a c) rs ≡ remaining rs
    by p a c e f g = rw (e, f, g) (remaining_is rs)

-- a filter that leaves nothing out
all_kept : {X : Type 0} (p : X → Bool) (xs : List X) → length (filter p xs) ≡ length xs → filter p xs ≡ xs
all_kept p [] h = refl
all_kept p (x ∷ xs) h = by (p x) (all_kept p xs) h
  where
    by : (b : Bool) → (length (filter p xs) ≡ length xs → filter p xs ≡ xs) → length (cond b (x ∷ filter p xs) (filter p xs)) ≡ length (x ∷ xs)
        → cond b (x ∷ filter p xs) (filter p xs) ≡ x ∷ xs
    by true rest same = ap (λ ys. x ∷ ys) (rest (omega (arith, same)))
    by false rest less = absurd (omega (arith, less, length-filter p xs, count_by-le-length p xs))

-- the names of all records are those of the records that stay, if all stay
pub names_stay : (records : List Checked) (count : ℕ) (staying : List Checked) (names : NameLists) → count ≡ length records
    → all_seen staying ≡ remaining (all_seen records) → AreNames (all_seen records) names → length staying ≡ count → AreNames (all_seen staying) names
names_stay records count staying names counted stay are all =
    let long : length (remaining (all_seen records)) ≡ length (all_seen records) =
    sym (ap length stay) ∙ length-map staying record_seen ∙ all ∙ counted ∙ sym (length-map records record_seen) in
    subst (λ (rs : List Record). AreNames rs names) (sym (stay ∙ all_kept _ (all_seen records) long)) are

-- a fault among records, by the step that finds it
module _ (rules : Rules) (rs : List Record) (few : are_too_many rules.limits rs ≡ false) where
  abbrev all_stand : Bool
  all_stand = ids_differ rs && lists_stand rules.half_pairs (ids_of OfProgram rs) (applicant_ids rs) rs

  pub not_standing : all_stand ≡ false → is_faultless rules rs ≡ false
  not_standing h = faultless_by_steps rules rs few ∙ by all_stand (are_once rs && are_registered rs) h
    where
      by : (a b : Bool) → a ≡ false → (a && b) ≡ false
      by a b e = rw e refl

  pub not_once : are_once rs ≡ false → is_faultless rules rs ≡ false
  not_once h = faultless_by_steps rules rs few ∙ by all_stand (are_once rs) (are_registered rs) h
    where
      by : (a b c : Bool) → b ≡ false → (a && (b && c)) ≡ false
      by true b c e = rw e refl
      by false b c e = refl

  pub not_registered : are_registered rs ≡ false → is_faultless rules rs ≡ false
  not_registered h = faultless_by_steps rules rs few ∙ by all_stand (are_once rs) (are_registered rs) h
    where
      by : (a b c : Bool) → c ≡ false → (a && (b && c)) ≡ false
      by true true c e = e
      by true false c e = refl
      by false b c e = refl

  -- what remains of the records, by what their lists say
  pub remains : (w : Kinds) → AreWithdrawn rs w → are_registered rs ≡ true → (left : List Record) → left ≡ filter (stays_after w) rs
      → (e : Kinds × (ByApplicants × ByPrograms)) → GivesEntries rules.half_pairs (stays_after w) rs (Some e) → Remains rules rs left (Some e.1)
  remains w are known left is e gives = (
    faultless_by_steps rules rs few ∙ both _ _ (both _ _ gives.1.differ gives.0) (both _ _ are.once known),
    is ∙ remaining_are rs w are,
    subst (λ (zs : List Record). AreEntries zs e.1) (sym is) gives.2,
  )

-- what was found of the records that remain
pub remains_found : (rules : Rules) (rs left : List Record) (o : Option (ByApplicants × ByPrograms)) (e : ByApplicants × ByPrograms) → Remains rules rs left o → o ≡ Some e
    → (is_faultless rules rs ≡ true) × (left ≡ remaining rs) × AreEntries left e
remains_found rules rs left o e h is = subst (Remains rules rs left) is h

-- Below, the new numbers of applicants are those of the records that stay.
module _ (stays : Record → Bool) (rs : List Record) where
  module _ (n : Numbering ℕ) (ids : n.ids ≡ applicant_ids rs) where
    among_applicants : list_all (ids_stand n) (program_lists stays rs) ≡ list_all (ranking_stands (applicant_ids rs)) rs
    among_applicants = sym (rankings_stand n stays rs) ∙ ap (λ (xs : List Bytes). list_all (ranking_stands xs) rs) ids

    abbrev Rankings : Option (List (List ℕ)) → Type 0
    Rankings o = ReadsAll (ids_stand n) (ids_read n) (program_lists stays rs) o

    pub rankings_fail : (o : Option (List (List ℕ))) → o ≡ None → Rankings o → applicants_stand rs ≡ false
    rankings_fail o is reads =
        let fail : list_all (ids_stand n) (program_lists stays rs) ≡ false = subst Rankings is reads in
        right_fails (all_differ bytes_eq (applicant_ids rs)) _ (sym among_applicants ∙ fail)

    pub given_by_applicants : n.numbers ≡ new_numbers 0 (applicant_flags stays rs) → all_differ bytes_eq (applicant_ids rs) ≡ true
        → (b : List Bytes × ByApplicants) → b.0 ≡ n.ids → (o : Option (List (List ℕ))) → o ≡ Some b.1.rankings → Rankings o
        → b.1.members.items ≡ filter_map (members_by n) (filter stays rs) → GivesByApplicants stays rs (Some b)
    given_by_applicants numbers differ b same o is reads members =
        let read : Rankings (Some b.1.rankings) = subst Rankings is reads in
        let all : list_all (ranking_stands (applicant_ids rs)) rs ≡ true = sym among_applicants ∙ read.0 in
        let flags = applicant_flags stays rs in
        let stay = filter stays rs in
        let are : n ≡ anew flags (applicant_ids rs) differ = λ i. record { ids = ids i; numbers = numbers i } in
        let left : flagged flags (applicant_ids rs) ≡ applicant_ids stay = sym (applicant_ids_stay stays rs) in
        let among : list_all (has_id (applicant_ids stay)) (applicant_ids stay) ≡ true = all_pass [] [] refl (has_id (applicant_ids stay)) (applicant_ids stay) (λ id h. h) in (
          both _ _ differ all,
          record {
            ids = same ∙ ids;
            rankings = read.1 ∙ ap (λ (m : Numbering ℕ). flat_map (ids_read m) (program_lists stays rs)) are
                ∙ rankings_stay flags (applicant_ids rs) differ stays rs all
                ∙ ap (λ (xs : List Bytes). filter_map (ranking_in xs) stay) left;
            members = members ∙ ap (λ (m : Numbering ℕ). filter_map (members_by m) stay) are
                ∙ members_stay flags (applicant_ids rs) differ stay (ap (λ (xs : List Bytes). list_all (has_id xs) (applicant_ids stay)) left ∙ among)
                ∙ ap (λ (xs : List Bytes). filter_map (members_in xs) stay) left;
          },
        )

  -- the same of programs
  module _ (half_pairs : Bool) (n : Numbering ℕ) (ids : n.ids ≡ ids_of OfProgram rs) where
    among_programs : list_all (ids_stand n) (applicant_lists stays rs) ≡ list_all (list_stands (ids_of OfProgram rs)) rs
    among_programs = sym (choices_stand n stays rs) ∙ ap (λ (xs : List Bytes). list_all (list_stands xs) rs) ids

    pairs_among : list_all (pairs_stand_in half_pairs n) (couple_lists stays rs) ≡ list_all (pairs_stand half_pairs (ids_of OfProgram rs)) rs
    pairs_among = sym (couples_stand n stays half_pairs rs) ∙ ap (λ (xs : List Bytes). list_all (pairs_stand half_pairs xs) rs) ids

    abbrev Lists : Option (List (List ℕ)) → Type 0
    Lists o = ReadsAll (ids_stand n) (ids_read n) (applicant_lists stays rs) o

    abbrev Couples : Option (List (List Pair)) → Type 0
    Couples o = ReadsAll (pairs_stand_in half_pairs n) (pairs_read n) (couple_lists stays rs) o

    pub choices_fail : (o : Option (List (List ℕ))) → o ≡ None → Lists o → programs_stand half_pairs rs ≡ false
    choices_fail o is reads =
        let h : list_all (ids_stand n) (applicant_lists stays rs) ≡ false = subst Lists is reads in
        by (all_differ bytes_eq (ids_of OfProgram rs)) (list_all (list_stands (ids_of OfProgram rs)) rs) (list_all (pairs_stand half_pairs (ids_of OfProgram rs)) rs) (sym among_programs ∙ h)
      where
        by : (a b c : Bool) → b ≡ false → (a && b && c) ≡ false
        by true b c e = rw e refl
        by false b c e = refl

    pub pairs_fail : (o : Option (List (List Pair))) → o ≡ None → Couples o → programs_stand half_pairs rs ≡ false
    pairs_fail o is reads =
        let h : list_all (pairs_stand_in half_pairs n) (couple_lists stays rs) ≡ false = subst Couples is reads in
        by (all_differ bytes_eq (ids_of OfProgram rs)) (list_all (list_stands (ids_of OfProgram rs)) rs) (list_all (pairs_stand half_pairs (ids_of OfProgram rs)) rs) (sym pairs_among ∙ h)
      where
        by : (a b c : Bool) → c ≡ false → (a && b && c) ≡ false
        by true true c e = e
        by true false c e = refl
        by false b c e = refl

    pub given_by_programs : n.numbers ≡ new_numbers 0 (program_flags stays rs) → all_differ bytes_eq (ids_of OfProgram rs) ≡ true
        → (b : List Bytes × ByPrograms) → b.0 ≡ n.ids → (o : Option (List (List ℕ))) → o ≡ Some b.1.lists → Lists o → (q : Option (List (List Pair))) → q ≡ Some b.1.pairs → Couples q
        → GivesByPrograms half_pairs stays rs (Some b)
    given_by_programs numbers differ b same o is lists q so pairs =
        let read : Lists (Some b.1.lists) = subst Lists is lists in
        let both_read : Couples (Some b.1.pairs) = subst Couples so pairs in
        let all : list_all (list_stands (ids_of OfProgram rs)) rs ≡ true = sym among_programs ∙ read.0 in
        let each : list_all (pairs_stand half_pairs (ids_of OfProgram rs)) rs ≡ true = sym pairs_among ∙ both_read.0 in
        let flags = program_flags stays rs in
        let stay = filter stays rs in
        let are : n ≡ anew flags (ids_of OfProgram rs) differ = λ i. record { ids = ids i; numbers = numbers i } in
        let left : flagged flags (ids_of OfProgram rs) ≡ ids_of OfProgram stay = sym (program_ids_stay stays rs) in (
          both _ _ (both _ _ differ all) each,
          record {
            ids = same ∙ ids;
            lists = read.1 ∙ ap (λ (m : Numbering ℕ). flat_map (ids_read m) (applicant_lists stays rs)) are
                ∙ lists_stay flags (ids_of OfProgram rs) differ stays rs all
                ∙ ap (λ (xs : List Bytes). flat_map (lists_by xs) stay) left;
            pairs = both_read.1 ∙ ap (λ (m : Numbering ℕ). flat_map (pairs_read m) (couple_lists stays rs)) are
                ∙ all_pairs_stay flags (ids_of OfProgram rs) differ stays half_pairs rs each
                ∙ ap (λ (xs : List Bytes). filter_map (pairs_in xs) stay) left;
          },
        )

-- what is known of a result that is no error
pub given : {T : Type 0} (P : Option T → Type 0) (r : Result (Option T) AllocError) (o p : Option T) → r ≡ Ok o → o ≡ p → IfOk r P → P p
given P r o p was is gives = subst (λ x. IfOk x P) (was ∙ ap Ok is) gives

-- what both give
module _ (half_pairs : Bool) (stays : Record → Bool) (rs : List Record) where
  abbrev stand : Bool
  stand = ids_differ rs && lists_stand half_pairs (ids_of OfProgram rs) (applicant_ids rs) rs

  stand_by : stand ≡ ((applicants_stand rs && programs_stand half_pairs rs) && all_differ bytes_eq (ids_of OfCouple rs))
  stand_by =
      by (all_differ bytes_eq (ids_of OfProgram rs)) (all_differ bytes_eq (applicant_ids rs)) (all_differ bytes_eq (ids_of OfCouple rs)) (list_all (ranking_stands (applicant_ids rs)) rs)
      (list_all (list_stands (ids_of OfProgram rs)) rs) (list_all (pairs_stand half_pairs (ids_of OfProgram rs)) rs)
    where
      by : (p a c r l q : Bool) → ((p && a && c) && (r && l && q)) ≡ (((a && r) && (p && l && q)) && c)
      by p a c r l q = grind arith

  pub couples_fail : all_differ bytes_eq (ids_of OfCouple rs) ≡ false → stand ≡ false
  couples_fail h = stand_by ∙ right_fails (applicants_stand rs && programs_stand half_pairs rs) _ h

  pub applicants_fail : applicants_stand rs ≡ false → stand ≡ false
  applicants_fail h = stand_by ∙ rw h refl

  pub programs_fail : programs_stand half_pairs rs ≡ false → stand ≡ false
  programs_fail h = stand_by ∙ by (applicants_stand rs) (programs_stand half_pairs rs) (all_differ bytes_eq (ids_of OfCouple rs)) h
    where
      by : (a b c : Bool) → b ≡ false → ((a && b) && c) ≡ false
      by true b c e = rw e refl
      by false b c e = refl

  pub given_by_both : (a : List Bytes × ByApplicants) (b : List Bytes × ByPrograms) → GivesByApplicants stays rs (Some a) → GivesByPrograms half_pairs stays rs (Some b)
      → (couples : List Bytes) → couples ≡ ids_of OfCouple rs → all_differ bytes_eq (ids_of OfCouple rs) ≡ true
      → GivesEntries half_pairs stays rs (Some (record { programs = b.0; applicants = a.0; couples = couples }, (a.1, b.1)))
  given_by_both a b first second couples are differ =
      let all : stand ≡ true = stand_by ∙ both _ _ (both _ _ first.0 second.0) differ in
      let parts = and_parts (ids_differ rs) _ all in (
        parts.1,
        record { programs = second.1.ids; applicants = first.1.ids; couples = are; differ = parts.0 },
        record { rankings = first.1.rankings; lists = second.1.lists; pairs = second.1.pairs; members = first.1.members },
      )

-- the ids that a table was made of, if they differ
pub table_found : (names all : List Bytes) (o : Option (List Bytes)) (ids : List Bytes) → names ≡ all → IfSome o (λ table. table ≡ names) → is_some o ≡ all_differ bytes_eq names → o ≡ Some ids
    → (ids ≡ all) × (all_differ bytes_eq all ≡ true)
table_found names all None ids same found differ is = cc
table_found names all (Some table) ids same found differ is =
    let one : table ≡ ids = cc in (sym one ∙ found ∙ same, ap (all_differ bytes_eq) (sym same) ∙ sym differ)

pub table_missing : (names all : List Bytes) (o : Option (List Bytes)) → names ≡ all → is_some o ≡ all_differ bytes_eq names → o ≡ None → all_differ bytes_eq all ≡ false
table_missing names all o same differ is = ap (all_differ bytes_eq) (sym same) ∙ sym differ ∙ ap is_some is

-- there is a new number, or none, for each id
pub long_programs : (stays : Record → Bool) (rs : List Record) (ids : List Bytes) (numbers : List (Option ℕ)) → ids ≡ ids_of OfProgram rs
    → numbers ≡ new_numbers 0 (program_flags stays rs) → length numbers ≡ length ids
long_programs stays rs ids numbers are new = ap length new ∙ length-new_numbers 0 (program_flags stays rs) ∙ length-program_flags stays rs ∙ sym (ap length are)

pub long_applicants : (stays : Record → Bool) (rs : List Record) (ids : List Bytes) (numbers : List (Option ℕ)) → ids ≡ applicant_ids rs
    → numbers ≡ new_numbers 0 (applicant_flags stays rs) → length numbers ≡ length ids
long_applicants stays rs ids numbers are new = ap length new ∙ length-new_numbers 0 (applicant_flags stays rs) ∙ length-applicant_flags stays rs ∙ sym (ap length are)

-- what the steps found
pub once_found : (ws : List Checked) (o : Option Kinds) (w : Kinds) → MatchOption o (are_once (all_seen ws) ≡ false) (AreWithdrawn (all_seen ws)) → o ≡ Some w → AreWithdrawn (all_seen ws) w
once_found ws o w h is = subst (λ (x : Option Kinds). MatchOption x (are_once (all_seen ws) ≡ false) (AreWithdrawn (all_seen ws))) is h

pub read_found : (given records : List Checked) (inside rules : Rules) (w : Kinds) (o p : Option (Kinds × (ByApplicants × ByPrograms))) → given ≡ records → inside ≡ rules → o ≡ p
    → GivesEntries inside.half_pairs (stays_after w) (all_seen given) o → GivesEntries rules.half_pairs (stays_after w) (all_seen records) p
read_found given records inside rules w o p e f is gives =
    subst (GivesEntries rules.half_pairs (stays_after w) (all_seen records)) is
    (subst (λ (q : Rules). GivesEntries q.half_pairs (stays_after w) (all_seen records) o) f
    (subst (λ (xs : List Checked). GivesEntries inside.half_pairs (stays_after w) (all_seen xs) o) e gives))

below_limit : (limit most n : ℕ) → limit ≤ most → most < 2 ^ 31 → nat_lt limit n ≡ false → n < 2 ^ 31
below_limit limit most n a b h = grind (arith, nat_tests)

-- records that keep to limits have few programs and few applicants
pub have_few : (limits : Limits) (rs : List Record) → AreBounded limits → are_too_many limits rs ≡ false → HaveFewPrograms rs × HaveFewApplicants rs
have_few limits rs bounded few =
    let programs = nat_lt limits.programs (length (ids_of OfProgram rs)) in
    let couples = nat_lt limits.couples (length (ids_of OfCouple rs)) in
    let applicants = nat_lt limits.applicants (length (applicant_ids rs)) in
    let p = or_parts (applicants || programs || couples) (nat_lt limits.entries (entry_count rs)) few in
    let q = or_parts (applicants || programs) couples p.0 in
    let t = or_parts applicants programs q.0 in (
      below_limit limits.programs LIMITS_2.programs (length (ids_of OfProgram rs)) bounded.programs (omega arith) t.1,
      below_limit limits.applicants LIMITS_2.applicants (length (applicant_ids rs)) bounded.applicants (omega arith) t.0,
    )
