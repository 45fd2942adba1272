-- The ids that stay after withdrawals, and their numbers: numbered first among all ids, and then among those that stay.
use Rattle.std.proofs.Common.{◌≡◌, ℕ, suc, ◌+◌, Bool, true, false, not, ◌&&◌, ◌||◌, List, [], ◌∷◌, map, length, get_or, Option, Some, None, refl, ap, sym, subst, ◌∙◌, arith, cond, if◌then◌else◌}
use Rattle.std.specs.Prelude.{filter, filter_map, bytes_eq, ◌==◌}
use Rattle.std.specs.List.{list_all, list_any, cons_option}
use Rattle.std.specs.Option.{option_eq, option_map}
use Rattle.std.proofs.lemmas.Bool.{and_parts, false_from_ne_true}
use Rattle.std.proofs.lemmas.Bool.Decides.{nat_tests}
use Rattle.mt_terms.specs.Market.{Pair}
use Rattle.mt_terms.specs.Registration.Ids.{Bytes, has_id, number_of, numbers_of, all_differ}
use Rattle.mt_terms.specs.Registration.Records.{Record, ProgramRecord, ApplicantRecord, CoupleRecord, WithdrawRecord, Kind, OfProgram, OfApplicant, OfCouple, IdPair}
use Rattle.mt_terms.specs.Registration.Rows.{ids_of, applicant_ids, withdrawn, remaining}
use Rattle.mt_terms.specs.Registration.Passes.{is_same_pair}
use Rattle.mt_terms.specs.Registration.Numbering.{is_none_or_in, names_only, pair_by_number, pairs_by_number}
use Rattle.mt_terms.specs.Registration.Accepted.{are_same_places}
use Rattle.mt_draft_laws.specs.Staying.{flagged, new_numbers, new_place, new_pair, both_there, stays_without, program_flags, applicant_flags}
use Rattle.mt_record_laws.proofs.IdFacts.{Within, within_nil, within_cons, within_more, next_place}
use Rattle.mt_terms.proofs.IdFacts.{same_id, is_same, same_number, differ_parts}

-- a filter by a test that is the same for each kind of record
module _ (programs applicants couples : List Bytes) (stays : Record → Bool)
    (at_program : (id : Bytes) (quota : ℕ) (list : List Bytes) → stays (ProgramRecord id quota list) ≡ not (has_id programs id))
    (at_applicant : (id : Bytes) (list : List Bytes) → stays (ApplicantRecord id list) ≡ not (has_id applicants id))
    (at_couple : (id a b : Bytes) (pairs : List IdPair) → stays (CoupleRecord id a b pairs) ≡ not (has_id couples id))
    (at_withdrawal : (kind : Kind) (id : Bytes) → stays (WithdrawRecord kind id) ≡ false) where
  same_test : (r : Record) → stays_without programs applicants couples r ≡ stays r
  same_test (ProgramRecord id quota list) = sym (at_program id quota list)
  same_test (ApplicantRecord id list) = sym (at_applicant id list)
  same_test (CoupleRecord id a b pairs) = sym (at_couple id a b pairs)
  same_test (WithdrawRecord kind id) = sym (at_withdrawal kind id)

  same_filter : (rs : List Record) → filter (stays_without programs applicants couples) rs ≡ filter stays rs
  same_filter [] = refl
  same_filter (r ∷ rs) = rw (same_test r, same_filter rs) refl

-- the records that stay are the remaining ones
pub remaining_is : (rs : List Record) → filter (stays_without (withdrawn OfProgram rs) (withdrawn OfApplicant rs) (withdrawn OfCouple rs)) rs ≡ remaining rs
remaining_is rs = same_filter _ _ _ _ (λ id quota list. refl) (λ id list. refl) (λ id a b pairs. refl) (λ kind id. refl) rs

-- the ids of the records that stay are those with a flag
module _ (stays : Record → Bool) where
  pub program_ids_stay : (rs : List Record) → ids_of OfProgram (filter stays rs) ≡ flagged (program_flags stays rs) (ids_of OfProgram rs)
  program_ids_stay [] = refl
  program_ids_stay (r ∷ rs) = by r (stays r) refl (program_ids_stay rs)
    where
      by : (r : Record) (b : Bool) → stays r ≡ b → ids_of OfProgram (filter stays rs) ≡ flagged (program_flags stays rs) (ids_of OfProgram rs)
          → ids_of OfProgram (cond b (r ∷ filter stays rs) (filter stays rs)) ≡ flagged (program_flags stays (r ∷ rs)) (ids_of OfProgram (r ∷ rs))
      by (ProgramRecord id quota list) true e ih = rw e (ap (λ ids. id ∷ ids) ih)
      by (ProgramRecord id quota list) false e ih = rw e ih
      by (ApplicantRecord id list) true e ih = ih
      by (ApplicantRecord id list) false e ih = ih
      by (CoupleRecord id a b pairs) true e ih = ih
      by (CoupleRecord id a b pairs) false e ih = ih
      by (WithdrawRecord kind id) true e ih = ih
      by (WithdrawRecord kind id) false e ih = ih

  pub applicant_ids_stay : (rs : List Record) → applicant_ids (filter stays rs) ≡ flagged (applicant_flags stays rs) (applicant_ids rs)
  applicant_ids_stay [] = refl
  applicant_ids_stay (r ∷ rs) = by r (stays r) refl (applicant_ids_stay rs)
    where
      by : (r : Record) (b : Bool) → stays r ≡ b → applicant_ids (filter stays rs) ≡ flagged (applicant_flags stays rs) (applicant_ids rs)
          → applicant_ids (cond b (r ∷ filter stays rs) (filter stays rs)) ≡ flagged (applicant_flags stays (r ∷ rs)) (applicant_ids (r ∷ rs))
      by (ProgramRecord id quota list) true e ih = ih
      by (ProgramRecord id quota list) false e ih = ih
      by (ApplicantRecord id list) true e ih = rw e (ap (λ ids. id ∷ ids) ih)
      by (ApplicantRecord id list) false e ih = rw e ih
      by (CoupleRecord id a b pairs) true e ih = rw e (ap (λ ids. a ∷ b ∷ ids) ih)
      by (CoupleRecord id a b pairs) false e ih = rw e ih
      by (WithdrawRecord kind id) true e ih = ih
      by (WithdrawRecord kind id) false e ih = ih

  -- there is a flag for each program, and for each applicant
  pub length-program_flags : (rs : List Record) → length (program_flags stays rs) ≡ length (ids_of OfProgram rs)
  length-program_flags [] = refl
  length-program_flags (ProgramRecord id quota list ∷ rs) = ap suc (length-program_flags rs)
  length-program_flags (ApplicantRecord id list ∷ rs) = length-program_flags rs
  length-program_flags (CoupleRecord id a b pairs ∷ rs) = length-program_flags rs
  length-program_flags (WithdrawRecord kind id ∷ rs) = length-program_flags rs

  pub length-applicant_flags : (rs : List Record) → length (applicant_flags stays rs) ≡ length (applicant_ids rs)
  length-applicant_flags [] = refl
  length-applicant_flags (ProgramRecord id quota list ∷ rs) = length-applicant_flags rs
  length-applicant_flags (ApplicantRecord id list ∷ rs) = ap suc (length-applicant_flags rs)
  length-applicant_flags (CoupleRecord id a b pairs ∷ rs) = ap (λ n. suc (suc n)) (length-applicant_flags rs)
  length-applicant_flags (WithdrawRecord kind id ∷ rs) = length-applicant_flags rs

pub length-new_numbers : (n : ℕ) (flags : List Bool) → length (new_numbers n flags) ≡ length flags
length-new_numbers n [] = refl
length-new_numbers n (true ∷ flags) = ap suc (length-new_numbers (n + 1) flags)
length-new_numbers n (false ∷ flags) = ap suc (length-new_numbers n flags)

-- those with a flag are all, or some of them are left out
flagged_within : (flags : List Bool) (ids : List Bytes) → Within (flagged flags ids) ids
flagged_within [] [] = within_nil
flagged_within [] (x ∷ xs) = within_more x _ _ (flagged_within [] xs)
flagged_within (b ∷ bs) [] = within_nil
flagged_within (true ∷ bs) (x ∷ xs) = within_cons x _ _ (flagged_within bs xs)
flagged_within (false ∷ bs) (x ∷ xs) = within_more x _ _ (flagged_within bs xs)

-- the new number of an id, counted from a number on
new_number_from : (n : ℕ) (flags : List Bool) (ids : List Bytes) (id : Bytes) → all_differ bytes_eq ids ≡ true → has_id ids id ≡ true
    → get_or (new_numbers n flags) (number_of ids id) None ≡ (if has_id (flagged flags ids) id then Some (n + number_of (flagged flags ids) id) else None)
new_number_from n [] ids id d h = refl
new_number_from n (b ∷ bs) [] id d h = cc
new_number_from n (true ∷ bs) (x ∷ xs) id d h = by (bytes_eq id x) (new_number_from (n + 1) bs xs id (differ_parts x xs d).1) h
  where
    by : (b : Bool) → (has_id xs id ≡ true → get_or (new_numbers (n + 1) bs) (number_of xs id) None ≡ (if has_id (flagged bs xs) id then Some (n + 1 + number_of (flagged bs xs) id) else None))
        → (b || has_id xs id) ≡ true
        → get_or (Some n ∷ new_numbers (n + 1) bs) (cond (not b) (1 + number_of xs id) 0) None ≡ (if b || has_id (flagged bs xs) id then Some (n + cond (not b) (1 + number_of (flagged bs xs) id) 0) else None)
    by true ih k = let e : n ≡ n + 0 = omega arith in ap Some e
    by false ih k =
        let e : n + 1 + number_of (flagged bs xs) id ≡ n + (1 + number_of (flagged bs xs) id) = omega arith in
        next_place (Some n) (new_numbers (n + 1) bs) (number_of xs id) None ∙ ih k ∙ ap (λ (m : ℕ). if has_id (flagged bs xs) id then Some m else None) e
new_number_from n (false ∷ bs) (x ∷ xs) id d h = by (bytes_eq id x) (same_id id x) (new_number_from n bs xs id (differ_parts x xs d).1) h
  where
    by : (b : Bool) → (b ≡ true → id ≡ x) → (has_id xs id ≡ true → get_or (new_numbers n bs) (number_of xs id) None ≡ (if has_id (flagged bs xs) id then Some (n + number_of (flagged bs xs) id) else None))
        → (b || has_id xs id) ≡ true
        → get_or (None ∷ new_numbers n bs) (cond (not b) (1 + number_of xs id) 0) None ≡ (if has_id (flagged bs xs) id then Some (n + number_of (flagged bs xs) id) else None)
    by true e ih k =
        let off : has_id xs id ≡ false = subst (λ (y : Bytes). has_id xs y ≡ false) (sym (e refl)) (differ_parts x xs d).0 in
        let out : has_id (flagged bs xs) id ≡ false = false_from_ne_true _ (λ on. cc (off, (flagged_within bs xs).listed id on)) in
        rw out refl
    by false e ih k = next_place None (new_numbers n bs) (number_of xs id) None ∙ ih k

-- the number of an id among all gives its new number, which is its number among those that stay, if it stays
pub new_number : (flags : List Bool) (ids : List Bytes) (id : Bytes) → all_differ bytes_eq ids ≡ true → has_id ids id ≡ true
    → get_or (new_numbers 0 flags) (number_of ids id) None ≡ (if has_id (flagged flags ids) id then Some (number_of (flagged flags ids) id) else None)
new_number flags ids id d h =
    let e : 0 + number_of (flagged flags ids) id ≡ number_of (flagged flags ids) id = omega arith in
    new_number_from 0 flags ids id d h ∙ ap (λ (n : ℕ). if has_id (flagged flags ids) id then Some n else None) e

module _ (flags : List Bool) (ids : List Bytes) (differ : all_differ bytes_eq ids ≡ true) where
  -- a list by the numbers of those that stay, one id on
  number_stays : (id : Bytes) (rest : List Bytes) → has_id ids id ≡ true
      → numbers_of (flagged flags ids) (id ∷ rest) ≡ cons_option (get_or (new_numbers 0 flags) (number_of ids id) None) (numbers_of (flagged flags ids) rest)
  number_stays id rest h = by (has_id (flagged flags ids) id) ∙ ap (λ (o : Option ℕ). cons_option o (numbers_of (flagged flags ids) rest)) (sym (new_number flags ids id differ h))
    where
      by : (b : Bool) → map (number_of (flagged flags ids)) (cond b (id ∷ filter (has_id (flagged flags ids)) rest) (filter (has_id (flagged flags ids)) rest))
          ≡ cons_option (if b then Some (number_of (flagged flags ids) id) else None) (numbers_of (flagged flags ids) rest)
      by true = refl
      by false = refl

  pub numbers_stay-some : (id : Bytes) (rest : List Bytes) (n : ℕ) → has_id ids id ≡ true → get_or (new_numbers 0 flags) (number_of ids id) None ≡ Some n
      → numbers_of (flagged flags ids) (id ∷ rest) ≡ n ∷ numbers_of (flagged flags ids) rest
  numbers_stay-some id rest n h e = number_stays id rest h ∙ ap (λ (o : Option ℕ). cons_option o (numbers_of (flagged flags ids) rest)) e

  pub numbers_stay-none : (id : Bytes) (rest : List Bytes) → has_id ids id ≡ true → get_or (new_numbers 0 flags) (number_of ids id) None ≡ None
      → numbers_of (flagged flags ids) (id ∷ rest) ≡ numbers_of (flagged flags ids) rest
  numbers_stay-none id rest h e = number_stays id rest h ∙ ap (λ (o : Option ℕ). cons_option o (numbers_of (flagged flags ids) rest)) e

  -- a list of listed ids by the numbers of those that stay: an id that has no new number leaves it
  pub numbers_stay : (list : List Bytes) → list_all (has_id ids) list ≡ true
      → numbers_of (flagged flags ids) list ≡ filter_map (λ id. get_or (new_numbers 0 flags) (number_of ids id) None) list
  numbers_stay [] h = refl
  numbers_stay (id ∷ rest) h =
      let p : (has_id ids id ≡ true) × (list_all (has_id ids) rest ≡ true) = and_parts (has_id ids id) _ h in
      number_stays id rest p.0 ∙ ap (λ (ns : List ℕ). cons_option (get_or (new_numbers 0 flags) (number_of ids id) None) ns) (numbers_stay rest p.1)

  -- where a pair sends a member, by the numbers of those that stay
  new_place_is : (o : Option Bytes) → is_none_or_in ids o ≡ true
      → new_place (new_numbers 0 flags) (option_map (number_of ids) o) ≡ (if is_none_or_in (flagged flags ids) o then Some (option_map (number_of (flagged flags ids)) o) else None)
  new_place_is None h = refl
  new_place_is (Some id) h = ap (option_map Some) (new_number flags ids id differ h) ∙ by (has_id (flagged flags ids) id)
    where
      by : (b : Bool) → option_map Some (if b then Some (number_of (flagged flags ids) id) else None) ≡ (if b then Some (Some (number_of (flagged flags ids) id)) else None)
      by true = refl
      by false = refl

  -- a pair by the numbers of those that stay
  pub new_pair_is : (p : IdPair) → names_only ids p ≡ true
      → new_pair (new_numbers 0 flags) (pair_by_number ids p) ≡ (if names_only (flagged flags ids) p then Some (pair_by_number (flagged flags ids) p) else None)
  new_pair_is p h =
      let q : (is_none_or_in ids p.0 ≡ true) × (is_none_or_in ids p.1 ≡ true) = and_parts (is_none_or_in ids p.0) _ h in
      rw (new_place_is p.0 q.0, new_place_is p.1 q.1) (by (is_none_or_in (flagged flags ids) p.0) (is_none_or_in (flagged flags ids) p.1))
    where
      by : (b c : Bool) → both_there (if b then Some (option_map (number_of (flagged flags ids)) p.0) else None) (if c then Some (option_map (number_of (flagged flags ids)) p.1) else None)
          ≡ (if b && c then Some (pair_by_number (flagged flags ids) p) else None)
      by true true = refl
      by true false = refl
      by false c = refl

  -- a list of pairs by the numbers of those that stay, one pair on
  pair_stays : (p : IdPair) (rest : List IdPair) → names_only ids p ≡ true
      → pairs_by_number (flagged flags ids) (p ∷ rest) ≡ cons_option (new_pair (new_numbers 0 flags) (pair_by_number ids p)) (pairs_by_number (flagged flags ids) rest)
  pair_stays p rest h = by (names_only (flagged flags ids) p) ∙ ap (λ (o : Option Pair). cons_option o (pairs_by_number (flagged flags ids) rest)) (sym (new_pair_is p h))
    where
      by : (b : Bool) → map (pair_by_number (flagged flags ids)) (cond b (p ∷ filter (names_only (flagged flags ids)) rest) (filter (names_only (flagged flags ids)) rest))
          ≡ cons_option (if b then Some (pair_by_number (flagged flags ids) p) else None) (pairs_by_number (flagged flags ids) rest)
      by true = refl
      by false = refl

  pub pairs_stay-some : (p : IdPair) (rest : List IdPair) (q : Pair) → names_only ids p ≡ true → new_pair (new_numbers 0 flags) (pair_by_number ids p) ≡ Some q
      → pairs_by_number (flagged flags ids) (p ∷ rest) ≡ q ∷ pairs_by_number (flagged flags ids) rest
  pairs_stay-some p rest q h e = pair_stays p rest h ∙ ap (λ (o : Option Pair). cons_option o (pairs_by_number (flagged flags ids) rest)) e

  pub pairs_stay-none : (p : IdPair) (rest : List IdPair) → names_only ids p ≡ true → new_pair (new_numbers 0 flags) (pair_by_number ids p) ≡ None
      → pairs_by_number (flagged flags ids) (p ∷ rest) ≡ pairs_by_number (flagged flags ids) rest
  pairs_stay-none p rest h e = pair_stays p rest h ∙ ap (λ (o : Option Pair). cons_option o (pairs_by_number (flagged flags ids) rest)) e

  -- a list of pairs that name only listed ids, by the numbers of those that stay
  pub pairs_stay : (pairs : List IdPair) → list_all (names_only ids) pairs ≡ true
      → pairs_by_number (flagged flags ids) pairs ≡ filter_map (λ p. new_pair (new_numbers 0 flags) (pair_by_number ids p)) pairs
  pairs_stay [] h = refl
  pairs_stay (p ∷ rest) h =
      let q : (names_only ids p ≡ true) × (list_all (names_only ids) rest ≡ true) = and_parts (names_only ids p) _ h in
      pair_stays p rest q.0 ∙ ap (λ (ps : List Pair). cons_option (new_pair (new_numbers 0 flags) (pair_by_number ids p)) ps) (pairs_stay rest q.1)

-- what stands for the elements of a list differs if they do, if a test of each agrees on them
module _ {X Y : Type 0} (f : X → Y) (of_these : X → Bool) (here : Y → Y → Bool) (there : X → X → Bool)
    (agree : (x y : X) → of_these x ≡ true → of_these y ≡ true → here (f x) (f y) ≡ there x y) where
  any_map : (x : X) (xs : List X) → of_these x ≡ true → list_all of_these xs ≡ true → list_any (here (f x)) (map f xs) ≡ list_any (there x) xs
  any_map x [] h k = refl
  any_map x (y ∷ ys) h k =
      let p : (of_these y ≡ true) × (list_all of_these ys ≡ true) = and_parts (of_these y) _ k in
      rw (agree x y h p.0, any_map x ys h p.1) refl

  differ_map : (xs : List X) → list_all of_these xs ≡ true → all_differ here (map f xs) ≡ all_differ there xs
  differ_map [] h = refl
  differ_map (x ∷ xs) h =
      let p : (of_these x ≡ true) × (list_all of_these xs ≡ true) = and_parts (of_these x) _ h in
      rw (any_map x xs p.0 p.1, differ_map xs p.1) refl

module _ (ids : List Bytes) where
  -- two listed ids have one number if they are one
  ids_agree : (x y : Bytes) → has_id ids x ≡ true → has_id ids y ≡ true → (number_of ids x == number_of ids y) ≡ bytes_eq x y
  ids_agree x y h k = by (bytes_eq x y) refl
    where
      by : (b : Bool) → bytes_eq x y ≡ b → (number_of ids x == number_of ids y) ≡ b
      by true e = let s : number_of ids x ≡ number_of ids y = ap (number_of ids) (same_id x y e) in grind (arith, nat_tests)
      by false e =
          false_from_ne_true _
          (λ t.
          let s : number_of ids x ≡ number_of ids y = grind (arith, nat_tests) in
          let i : bytes_eq x y ≡ true = is_same x y (same_number ids x y h k s) in
          cc)

  -- listed ids differ if their numbers do
  pub differ_by_number : (list : List Bytes) → list_all (has_id ids) list ≡ true → all_differ ◌==◌ (map (number_of ids) list) ≡ all_differ bytes_eq list
  differ_by_number list h = differ_map (number_of ids) (has_id ids) ◌==◌ bytes_eq ids_agree list h

  -- and so do pairs of them
  places_agree : (o u : Option Bytes) → is_none_or_in ids o ≡ true → is_none_or_in ids u ≡ true → option_eq ◌==◌ (option_map (number_of ids) o) (option_map (number_of ids) u) ≡ option_eq bytes_eq o u
  places_agree None None h k = refl
  places_agree None (Some y) h k = refl
  places_agree (Some x) None h k = refl
  places_agree (Some x) (Some y) h k = ids_agree x y h k

  pairs_agree : (p q : IdPair) → names_only ids p ≡ true → names_only ids q ≡ true → are_same_places (pair_by_number ids p) (pair_by_number ids q) ≡ is_same_pair p q
  pairs_agree p q h k =
      let a : (is_none_or_in ids p.0 ≡ true) × (is_none_or_in ids p.1 ≡ true) = and_parts (is_none_or_in ids p.0) _ h in
      let b : (is_none_or_in ids q.0 ≡ true) × (is_none_or_in ids q.1 ≡ true) = and_parts (is_none_or_in ids q.0) _ k in
      rw (places_agree p.0 q.0 a.0 b.0, places_agree p.1 q.1 a.1 b.1) refl

  -- pairs of listed ids differ if they do by numbers
  pub pairs_differ_by_number : (pairs : List IdPair) → list_all (names_only ids) pairs ≡ true → all_differ are_same_places (map (pair_by_number ids) pairs) ≡ all_differ is_same_pair pairs
  pairs_differ_by_number pairs h = differ_map (pair_by_number ids) (names_only ids) are_same_places is_same_pair pairs_agree pairs h
