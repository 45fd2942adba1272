-- The market of records without a fault is well formed, and its names fit it.
use Rattle.std.proofs.Common.{◌≡◌, ◌≢◌, ℕ, zero, suc, ◌+◌, ◌<◌, ◌≤◌, Bool, true, false, not, ◌&&◌, ◌||◌, List, [], ◌∷◌, length, get_or, refl, ◌∙◌, arith, ap, sym, subst, cond, nat_lt, nat_le}
use Rattle.std.specs.Prelude.{bytes_eq, ◌==◌, filter_map, flat_map}
use Rattle.std.specs.List.{list_all, list_any}
use Rattle.std.proofs.lemmas.Bool.{and_parts, and_from, false_from_ne_true, or_right, or_parts, or_left}
use Rattle.std.proofs.lemmas.Bool.Decides.{nat_tests}
use Rattle.std.proofs.lemmas.List.Sums.{sum_by-cons}
use Rattle.mt_terms.specs.declared.numbers.Agent.TheVariants.{Couple}
use Rattle.mt_terms.specs.Lists.{has, is_distinct}
use Rattle.mt_terms.specs.Market.{Market, Program, Partners, Names, list_of, program_of, couple_of, agent_from}
use Rattle.mt_terms.specs.WellFormed.{IsWellFormed, IsMember}
use Rattle.mt_terms.specs.Registration.Ids.{Bytes, is_id, has_id, number_of, numbers_of, all_differ}
use Rattle.mt_terms.specs.Registration.Records.{Record, ProgramRecord, ApplicantRecord, CoupleRecord, WithdrawRecord, OfProgram, OfCouple, IdPair}
use Rattle.mt_terms.specs.Registration.Rows.{ids_of, applicant_ids, entries_of, entry_count}
use Rattle.mt_terms.specs.Registration.Passes.{is_same_pair}
use Rattle.mt_terms.specs.Registration.Numbering.{names_of, program_in, lists_in, couple_in, market_by, pairs_by_number}
use Rattle.mt_terms.specs.Registration.Accepted.{is_pair_below, are_same_places, list_entries, IsRegistration}
use Rattle.mt_record_laws.proofs.IdFacts.{numbers_distinct, numbers_below, numbers_short, itself, next_place}
use Rattle.mt_terms.proofs.IdFacts.{number_below, same_number, same_id, is_same, differ_parts}
use Rattle.mt_file_laws.proofs.NumberingFacts.{AreSound, is_good, names_one, at_each, pairs_below, pairs_differ, pairs_short, not_above}

module _ (N : Names) where
  programs_long : (rs : List Record) → length (filter_map (program_in N) rs) ≡ length (ids_of OfProgram rs)
  programs_long [] = refl
  programs_long (ProgramRecord id quota list ∷ rs) = ap suc (programs_long rs)
  programs_long (ApplicantRecord id list ∷ rs) = programs_long rs
  programs_long (CoupleRecord id a b pairs ∷ rs) = programs_long rs
  programs_long (WithdrawRecord kind id ∷ rs) = programs_long rs

  lists_long : (rs : List Record) → length (flat_map (lists_in N) rs) ≡ length (applicant_ids rs)
  lists_long [] = refl
  lists_long (ProgramRecord id quota list ∷ rs) = lists_long rs
  lists_long (ApplicantRecord id list ∷ rs) = ap suc (lists_long rs)
  lists_long (CoupleRecord id a b pairs ∷ rs) = ap suc (ap suc (lists_long rs))
  lists_long (WithdrawRecord kind id ∷ rs) = lists_long rs

  couples_long : (rs : List Record) → length (filter_map (couple_in N) rs) ≡ length (ids_of OfCouple rs)
  couples_long [] = refl
  couples_long (ProgramRecord id quota list ∷ rs) = couples_long rs
  couples_long (ApplicantRecord id list ∷ rs) = couples_long rs
  couples_long (CoupleRecord id a b pairs ∷ rs) = ap suc (couples_long rs)
  couples_long (WithdrawRecord kind id ∷ rs) = couples_long rs

  abbrev is_sound_program : Program → Bool
  is_sound_program p = is_distinct p.ranking && list_all (λ a. nat_lt a (length N.applicants)) p.ranking && nat_le p.quota 9999

  abbrev is_sound_list : List ℕ → Bool
  is_sound_list xs = is_distinct xs && list_all (λ p. nat_lt p (length N.programs)) xs

  abbrev is_sound_couple : Partners → Bool
  is_sound_couple c = list_all (is_pair_below (length N.programs)) c.pairs && all_differ are_same_places c.pairs

  sound_programs : (rs : List Record) → list_all is_good rs ≡ true → list_all is_sound_program (filter_map (program_in N) rs) ≡ true
  sound_programs [] h = refl
  sound_programs (ProgramRecord id quota list ∷ rs) h =
      let p : (is_good (ProgramRecord id quota list) ≡ true) × (list_all is_good rs ≡ true) = and_parts (is_good (ProgramRecord id quota list)) _ h in
      let q : (is_id 64 id && nat_le quota 9999 ≡ true) × (all_differ bytes_eq list ≡ true) = and_parts (is_id 64 id && nat_le quota 9999) _ p.0 in
      and_from _ _ (and_from _ _ (and_from _ _ (numbers_distinct N.applicants list q.1) (numbers_below N.applicants list)) (and_parts (is_id 64 id) _ q.0).1) (sound_programs rs p.1)
  sound_programs (ApplicantRecord id list ∷ rs) h = sound_programs rs (and_parts (is_good (ApplicantRecord id list)) _ h).1
  sound_programs (CoupleRecord id a b pairs ∷ rs) h = sound_programs rs (and_parts (is_good (CoupleRecord id a b pairs)) _ h).1
  sound_programs (WithdrawRecord kind id ∷ rs) h = sound_programs rs h

  sound_lists : (rs : List Record) → list_all is_good rs ≡ true → list_all is_sound_list (flat_map (lists_in N) rs) ≡ true
  sound_lists [] h = refl
  sound_lists (ProgramRecord id quota list ∷ rs) h = sound_lists rs (and_parts (is_good (ProgramRecord id quota list)) _ h).1
  sound_lists (ApplicantRecord id list ∷ rs) h =
      let p : (is_good (ApplicantRecord id list) ≡ true) × (list_all is_good rs ≡ true) = and_parts (is_good (ApplicantRecord id list)) _ h in
      and_from _ _ (and_from _ _ (numbers_distinct N.programs list (and_parts (is_id 64 id) _ p.0).1) (numbers_below N.programs list)) (sound_lists rs p.1)
  sound_lists (CoupleRecord id a b pairs ∷ rs) h = sound_lists rs (and_parts (is_good (CoupleRecord id a b pairs)) _ h).1
  sound_lists (WithdrawRecord kind id ∷ rs) h = sound_lists rs h

  sound_couples : (rs : List Record) → list_all is_good rs ≡ true → list_all is_sound_couple (filter_map (couple_in N) rs) ≡ true
  sound_couples [] h = refl
  sound_couples (ProgramRecord id quota list ∷ rs) h = sound_couples rs (and_parts (is_good (ProgramRecord id quota list)) _ h).1
  sound_couples (ApplicantRecord id list ∷ rs) h = sound_couples rs (and_parts (is_good (ApplicantRecord id list)) _ h).1
  sound_couples (CoupleRecord id a b pairs ∷ rs) h =
      let p : (is_good (CoupleRecord id a b pairs) ≡ true) × (list_all is_good rs ≡ true) = and_parts (is_good (CoupleRecord id a b pairs)) _ h in
      let q : (list_all (is_id 64) (id ∷ a ∷ b ∷ []) && list_all names_one pairs ≡ true) × (all_differ is_same_pair pairs ≡ true) = and_parts (list_all (is_id 64) (id ∷ a ∷ b ∷ []) && list_all names_one pairs) _ p.0 in
      and_from _ _ (and_from _ _ (pairs_below N.programs pairs (and_parts (list_all (is_id 64) (id ∷ a ∷ b ∷ [])) _ q.0).1) (pairs_differ N.programs pairs q.1)) (sound_couples rs p.1)
  sound_couples (WithdrawRecord kind id ∷ rs) h = sound_couples rs h

  entries_short : (rs : List Record) → list_entries (market_by N rs) ≤ entry_count rs
  entries_short [] = omega arith
  entries_short (ProgramRecord id quota list ∷ rs) =
      omega (
        arith,
        entries_short rs,
        numbers_short N.applicants list,
        sum_by-cons entries_of (ProgramRecord id quota list) rs,
        sum_by-cons (λ p. length (Program.ranking p)) (record { quota = quota; ranking = numbers_of N.applicants list }) (filter_map (program_in N) rs),
      )
  entries_short (ApplicantRecord id list ∷ rs) =
      omega (
        arith,
        entries_short rs,
        numbers_short N.programs list,
        sum_by-cons entries_of (ApplicantRecord id list) rs,
        sum_by-cons (length {A = ℕ}) (numbers_of N.programs list) (flat_map (lists_in N) rs),
      )
  entries_short (CoupleRecord id a b pairs ∷ rs) =
      omega (
        arith,
        entries_short rs,
        pairs_short N.programs pairs,
        sum_by-cons entries_of (CoupleRecord id a b pairs) rs,
        sum_by-cons (length {A = ℕ}) [] ([] ∷ flat_map (lists_in N) rs),
        sum_by-cons (length {A = ℕ}) [] (flat_map (lists_in N) rs),
        sum_by-cons (λ c. length (Partners.pairs c)) (record { first = number_of N.applicants a; second = number_of N.applicants b; pairs = pairs_by_number N.programs pairs }) (filter_map (couple_in N) rs),
      )
  entries_short (WithdrawRecord kind id ∷ rs) = omega (arith, entries_short rs, sum_by-cons entries_of (WithdrawRecord kind id) rs)

-- a couple's member
abbrev has_member : Bytes → Record → Bool
has_member x (CoupleRecord id a b pairs) = bytes_eq x a || bytes_eq x b
has_member x _ = false

member_registered : (rs : List Record) (x : Bytes) → list_any (has_member x) rs ≡ true → has_id (applicant_ids rs) x ≡ true
member_registered [] x h = cc
member_registered (ProgramRecord id quota list ∷ rs) x h = member_registered rs x h
member_registered (ApplicantRecord id list ∷ rs) x h = or_right _ _ (member_registered rs x h)
member_registered (CoupleRecord id a b pairs ∷ rs) x h = by (bytes_eq x a) (bytes_eq x b) (member_registered rs x) h
  where
    by : (s t : Bool) → (list_any (has_member x) rs ≡ true → has_id (applicant_ids rs) x ≡ true) → ((s || t) || list_any (has_member x) rs) ≡ true → (s || (t || has_id (applicant_ids rs) x)) ≡ true
    by true t ih k = refl
    by false true ih k = refl
    by false false ih k = ih k
member_registered (WithdrawRecord kind id ∷ rs) x h = member_registered rs x h

-- a member's list is empty
no_list : (N : Names) (rs : List Record) (x : Bytes) → all_differ bytes_eq (applicant_ids rs) ≡ true → list_any (has_member x) rs ≡ true → get_or (flat_map (lists_in N) rs) (number_of (applicant_ids rs) x) [] ≡ []
no_list N [] x d h = cc
no_list N (ProgramRecord id quota list ∷ rs) x d h = no_list N rs x d h
no_list N (ApplicantRecord id list ∷ rs) x d h =
    let p : (has_id (applicant_ids rs) id ≡ false) × (all_differ bytes_eq (applicant_ids rs) ≡ true) = differ_parts id _ d in
    let n : bytes_eq x id ≡ false = false_from_ne_true _ (λ e. let m : has_id (applicant_ids rs) id ≡ true = subst (λ (y : Bytes). has_id (applicant_ids rs) y ≡ true) (same_id x id e) (member_registered rs x h) in cc) in
    rw (n, next_place) (no_list N rs x p.1 h)
no_list N (CoupleRecord id a b pairs ∷ rs) x d h = by (bytes_eq x a) (bytes_eq x b) (no_list N rs x (differ_parts b (applicant_ids rs) (differ_parts a (b ∷ applicant_ids rs) d).1).1) h
  where
    by : (s t : Bool) → (list_any (has_member x) rs ≡ true → get_or (flat_map (lists_in N) rs) (number_of (applicant_ids rs) x) [] ≡ [])
        → ((s || t) || list_any (has_member x) rs) ≡ true
        → get_or ([] ∷ [] ∷ flat_map (lists_in N) rs) (cond (not s) (1 + cond (not t) (1 + number_of (applicant_ids rs) x) 0) 0) [] ≡ []
    by true t ih k = refl
    by false true ih k = refl
    by false false ih k = rw (next_place, next_place) (ih k)
no_list N (WithdrawRecord kind id ∷ rs) x d h = no_list N rs x d h

-- a couple's two members, by its record
abbrev member_at : Bool → Partners → ℕ
member_at true c = c.first
member_at false c = c.second

module _ (N : Names) (d : Partners) where
  member_is : (side : Bool) (rs : List Record) (c : ℕ) → c < length (filter_map (couple_in N) rs)
      → (x : Bytes) × (member_at side (get_or (filter_map (couple_in N) rs) c d) ≡ number_of N.applicants x) × (list_any (has_member x) rs ≡ true)
  member_is side [] c h = absurd (omega arith)
  member_is side (ProgramRecord id quota list ∷ rs) c h = member_is side rs c h
  member_is side (ApplicantRecord id list ∷ rs) c h = member_is side rs c h
  member_is true (CoupleRecord id a b pairs ∷ rs) zero h = (a, refl, rw (itself a) refl)
  member_is false (CoupleRecord id a b pairs ∷ rs) zero h = (b, refl, or_left _ _ (or_right _ _ (itself b)))
  member_is side (CoupleRecord id a b pairs ∷ rs) (suc c) h =
      let p : (x : Bytes) × (member_at side (get_or (filter_map (couple_in N) rs) c d) ≡ number_of N.applicants x) × (list_any (has_member x) rs ≡ true) = member_is side rs c (omega arith) in
      (p.0, p.1, or_right _ _ p.2)
  member_is side (WithdrawRecord kind id ∷ rs) c h = member_is side rs c h

  two_members : (rs : List Record) (c : ℕ) → all_differ bytes_eq (applicant_ids rs) ≡ true → list_all (has_id N.applicants) (applicant_ids rs) ≡ true
      → c < length (filter_map (couple_in N) rs) → (get_or (filter_map (couple_in N) rs) c d).first ≢ (get_or (filter_map (couple_in N) rs) c d).second
  two_members [] c f k h = absurd (omega arith)
  two_members (ProgramRecord id quota list ∷ rs) c f k h = two_members rs c f k h
  two_members (ApplicantRecord id list ∷ rs) c f k h = two_members rs c (differ_parts id _ f).1 (and_parts (has_id N.applicants id) _ k).1 h
  two_members (CoupleRecord id a b pairs ∷ rs) zero f k h = λ e.
      let p : (has_id N.applicants a ≡ true) × (list_all (has_id N.applicants) (b ∷ applicant_ids rs) ≡ true) = and_parts (has_id N.applicants a) _ k in
      let s : a ≡ b = same_number N.applicants a b p.0 (and_parts (has_id N.applicants b) _ p.1).0 e in
      let n : (bytes_eq a b ≡ false) × (has_id (applicant_ids rs) a ≡ false) = or_parts _ _ (differ_parts a (b ∷ applicant_ids rs) f).0 in
      cc (n.0, is_same a b s)
  two_members (CoupleRecord id a b pairs ∷ rs) (suc c) f k h =
      two_members rs c (differ_parts b (applicant_ids rs) (differ_parts a (b ∷ applicant_ids rs) f).1).1 (and_parts (has_id N.applicants b) _ (and_parts (has_id N.applicants a) _ k).1).1 (omega arith)
  two_members (WithdrawRecord kind id ∷ rs) c f k h = two_members rs c f k h

-- an id on a list of listed ids is listed
all_listed : (ids xs : List Bytes) (x : Bytes) → list_all (has_id ids) xs ≡ true → has_id xs x ≡ true → has_id ids x ≡ true
all_listed ids [] x h k = cc
all_listed ids (y ∷ ys) x h k = by (bytes_eq x y) (same_id x y) (and_parts (has_id ids y) _ h) (all_listed ids ys x) k
  where
    by : (b : Bool) → (b ≡ true → x ≡ y) → (has_id ids y ≡ true) × (list_all (has_id ids) ys ≡ true) → (list_all (has_id ids) ys ≡ true → has_id ys x ≡ true → has_id ids x ≡ true) → (b || has_id ys x) ≡ true → has_id ids x ≡ true
    by true e p ih k = subst (λ (z : Bytes). has_id ids z ≡ true) (sym (e refl)) p.0
    by false e p ih k = ih p.1 k

-- an id off a list has no number of one on it
other_number : (ids xs : List Bytes) (a x : Bytes) → has_id ids a ≡ true → list_all (has_id ids) xs ≡ true → has_id xs a ≡ false → has_id xs x ≡ true → (number_of ids a == number_of ids x) ≡ false
other_number ids xs a x h k n m =
    false_from_ne_true _
    (λ e.
    let s : number_of ids a ≡ number_of ids x = grind (arith, nat_tests) in
    let i : a ≡ x = same_number ids a x h (all_listed ids xs x k m) s in
    let l : has_id xs a ≡ true = subst (λ (z : Bytes). has_id xs z ≡ true) (sym i) m in
    cc)

module _ (N : Names) (d : Partners) where
  belongs : (side : Bool) (rs : List Record) (k c : ℕ) → all_differ bytes_eq (applicant_ids rs) ≡ true → list_all (has_id N.applicants) (applicant_ids rs) ≡ true
      → c < length (filter_map (couple_in N) rs)
      → agent_from (filter_map (couple_in N) rs) k (member_at side (get_or (filter_map (couple_in N) rs) c d)) ≡ Couple (k + c)
  belongs side [] k c f l h = absurd (omega arith)
  belongs side (ProgramRecord id quota list ∷ rs) k c f l h = belongs side rs k c f l h
  belongs side (ApplicantRecord id list ∷ rs) k c f l h = belongs side rs k c (differ_parts id (applicant_ids rs) f).1 (and_parts (has_id N.applicants id) _ l).1 h
  belongs true (CoupleRecord id a b pairs ∷ rs) k zero f l h =
      let t : (number_of N.applicants a == number_of N.applicants a) ≡ true = grind (arith, nat_tests) in
      let e : k ≡ k + 0 = omega arith in
      rw t (ap Couple e)
  belongs false (CoupleRecord id a b pairs ∷ rs) k zero f l h =
      let t : (number_of N.applicants b == number_of N.applicants b) ≡ true = grind (arith, nat_tests) in
      let e : k ≡ k + 0 = omega arith in
      rw (or_right (number_of N.applicants a == number_of N.applicants b) _ t) (ap Couple e)
  belongs side (CoupleRecord id a b pairs ∷ rs) k (suc c) f l h =
      let fa : (has_id (b ∷ applicant_ids rs) a ≡ false) × (all_differ bytes_eq (b ∷ applicant_ids rs) ≡ true) = differ_parts a (b ∷ applicant_ids rs) f in
      let fb : (has_id (applicant_ids rs) b ≡ false) × (all_differ bytes_eq (applicant_ids rs) ≡ true) = differ_parts b (applicant_ids rs) fa.1 in
      let la : (has_id N.applicants a ≡ true) × (list_all (has_id N.applicants) (b ∷ applicant_ids rs) ≡ true) = and_parts (has_id N.applicants a) _ l in
      let lb : (has_id N.applicants b ≡ true) × (list_all (has_id N.applicants) (applicant_ids rs) ≡ true) = and_parts (has_id N.applicants b) _ la.1 in
      let later : c < length (filter_map (couple_in N) rs) = omega arith in
      let m : (x : Bytes) × (member_at side (get_or (filter_map (couple_in N) rs) c d) ≡ number_of N.applicants x) × (list_any (has_member x) rs ≡ true) = member_is N d side rs c later in
      let r : has_id (applicant_ids rs) m.0 ≡ true = member_registered rs m.0 m.2 in
      let na : (number_of N.applicants a == number_of N.applicants m.0) ≡ false = other_number N.applicants (applicant_ids rs) a m.0 la.0 lb.1 (or_parts (bytes_eq a b) _ fa.0).1 r in
      let nb : (number_of N.applicants b == number_of N.applicants m.0) ≡ false = other_number N.applicants (applicant_ids rs) b m.0 lb.0 lb.1 fb.0 r in
      let e : k + 1 + c ≡ k + suc c = omega arith in
      let ih : agent_from (filter_map (couple_in N) rs) (k + 1) (member_at side (get_or (filter_map (couple_in N) rs) c d)) ≡ Couple (k + 1 + c) = belongs side rs (k + 1) c fb.1 lb.1 later in
      past (number_of N.applicants a) (number_of N.applicants b) (number_of N.applicants m.0) (member_at side (get_or (filter_map (couple_in N) rs) c d)) m.1 na nb ∙ ih ∙ ap Couple e
    where
      past : (i j n o : ℕ) → o ≡ n → (i == n) ≡ false → (j == n) ≡ false → (cond ((i == o) || (j == o)) (Couple k) (agent_from (filter_map (couple_in N) rs) (k + 1) o)) ≡ agent_from (filter_map (couple_in N) rs) (k + 1) o
      past i j n o e p q = let pp : (i == o) ≡ false = cc in let qq : (j == o) ≡ false = cc in rw (pp, qq) refl
  belongs side (WithdrawRecord kind id ∷ rs) k c f l h = belongs side rs k c f l h

-- every id on a list is on it
all_of_itself : (xs ys : List Bytes) → ((x : Bytes) → has_id ys x ≡ true → has_id xs x ≡ true) → list_all (has_id xs) ys ≡ true
all_of_itself xs [] h = refl
all_of_itself xs (y ∷ ys) h = and_from _ _ (h y (or_left _ _ (itself y))) (all_of_itself xs ys (λ x k. h x (or_right _ _ k)))

has_below : (n : ℕ) (xs : List ℕ) (p : ℕ) → list_all (λ x. nat_lt x n) xs ≡ true → has xs p ≡ true → p < n
has_below n [] p h k = cc
has_below n (x ∷ xs) p h k = by (x == p) refl (and_parts (nat_lt x n) _ h) (has_below n xs p) k
  where
    by : (b : Bool) → (x == p) ≡ b → (nat_lt x n ≡ true) × (list_all (λ y. nat_lt y n) xs ≡ true) → (list_all (λ y. nat_lt y n) xs ≡ true → has xs p ≡ true → p < n) → (b || has xs p) ≡ true → p < n
    by true e q ih k = let l : nat_lt x n ≡ true = q.0 in grind (arith, nat_tests)
    by false e q ih k = ih q.1 k

-- own ids are ids
programs_are_ids : (rs : List Record) → list_all is_good rs ≡ true → list_all (is_id 64) (ids_of OfProgram rs) ≡ true
programs_are_ids [] h = refl
programs_are_ids (ProgramRecord id quota list ∷ rs) h =
    let p : (is_good (ProgramRecord id quota list) ≡ true) × (list_all is_good rs ≡ true) = and_parts (is_good (ProgramRecord id quota list)) _ h in
    and_from _ _ (and_parts (is_id 64 id) _ (and_parts (is_id 64 id && nat_le quota 9999) _ p.0).0).0 (programs_are_ids rs p.1)
programs_are_ids (ApplicantRecord id list ∷ rs) h = programs_are_ids rs (and_parts (is_good (ApplicantRecord id list)) _ h).1
programs_are_ids (CoupleRecord id a b pairs ∷ rs) h = programs_are_ids rs (and_parts (is_good (CoupleRecord id a b pairs)) _ h).1
programs_are_ids (WithdrawRecord kind id ∷ rs) h = programs_are_ids rs h

couple_ids : (id a b : Bytes) (pairs : List IdPair) → is_good (CoupleRecord id a b pairs) ≡ true → (is_id 64 id ≡ true) × (is_id 64 a ≡ true) × (is_id 64 b ≡ true)
couple_ids id a b pairs h =
    let p : list_all (is_id 64) (id ∷ a ∷ b ∷ []) ≡ true = (and_parts (list_all (is_id 64) (id ∷ a ∷ b ∷ [])) _ (and_parts (list_all (is_id 64) (id ∷ a ∷ b ∷ []) && list_all names_one pairs) _ h).0).0 in
    let q : (is_id 64 id ≡ true) × (list_all (is_id 64) (a ∷ b ∷ []) ≡ true) = and_parts (is_id 64 id) _ p in
    let r : (is_id 64 a ≡ true) × (list_all (is_id 64) (b ∷ []) ≡ true) = and_parts (is_id 64 a) _ q.1 in
    (q.0, r.0, (and_parts (is_id 64 b) _ r.1).0)

couples_are_ids : (rs : List Record) → list_all is_good rs ≡ true → list_all (is_id 64) (ids_of OfCouple rs) ≡ true
couples_are_ids [] h = refl
couples_are_ids (ProgramRecord id quota list ∷ rs) h = couples_are_ids rs (and_parts (is_good (ProgramRecord id quota list)) _ h).1
couples_are_ids (ApplicantRecord id list ∷ rs) h = couples_are_ids rs (and_parts (is_good (ApplicantRecord id list)) _ h).1
couples_are_ids (CoupleRecord id a b pairs ∷ rs) h =
    let p : (is_good (CoupleRecord id a b pairs) ≡ true) × (list_all is_good rs ≡ true) = and_parts (is_good (CoupleRecord id a b pairs)) _ h in
    and_from _ _ (couple_ids id a b pairs p.0).0 (couples_are_ids rs p.1)
couples_are_ids (WithdrawRecord kind id ∷ rs) h = couples_are_ids rs h

applicants_are_ids : (rs : List Record) → list_all is_good rs ≡ true → list_all (is_id 64) (applicant_ids rs) ≡ true
applicants_are_ids [] h = refl
applicants_are_ids (ProgramRecord id quota list ∷ rs) h = applicants_are_ids rs (and_parts (is_good (ProgramRecord id quota list)) _ h).1
applicants_are_ids (ApplicantRecord id list ∷ rs) h =
    let p : (is_good (ApplicantRecord id list) ≡ true) × (list_all is_good rs ≡ true) = and_parts (is_good (ApplicantRecord id list)) _ h in
    and_from _ _ (and_parts (is_id 64 id) _ p.0).0 (applicants_are_ids rs p.1)
applicants_are_ids (CoupleRecord id a b pairs ∷ rs) h =
    let p : (is_good (CoupleRecord id a b pairs) ≡ true) × (list_all is_good rs ≡ true) = and_parts (is_good (CoupleRecord id a b pairs)) _ h in
    let q : (is_id 64 id ≡ true) × (is_id 64 a ≡ true) × (is_id 64 b ≡ true) = couple_ids id a b pairs p.0 in
    and_from _ _ q.1 (and_from _ _ q.2 (applicants_are_ids rs p.1))
applicants_are_ids (WithdrawRecord kind id ∷ rs) h = applicants_are_ids rs h

module _ (rs : List Record) (s : AreSound rs) where
  abbrev names : Names
  names = names_of rs

  abbrev market : Market
  market = market_by names rs

  abbrev no_couple : Partners
  no_couple = record { first = 0; second = 0; pairs = [] }

  listed : list_all (has_id (applicant_ids rs)) (applicant_ids rs) ≡ true
  listed = all_of_itself (applicant_ids rs) (applicant_ids rs) (λ x h. h)

  member : (side : Bool) (c : ℕ) → c < length market.couples → IsMember market c (member_at side (couple_of market c))
  member side c h =
      let m : (x : Bytes) × (member_at side (get_or (filter_map (couple_in names) rs) c no_couple) ≡ number_of (applicant_ids rs) x) × (list_any (has_member x) rs ≡ true) = member_is names no_couple side rs c h in
      let l : number_of (applicant_ids rs) m.0 < length (applicant_ids rs) = number_below (applicant_ids rs) m.0 (member_registered rs m.0 m.2) in
      let e : length (flat_map (lists_in names) rs) ≡ length (applicant_ids rs) = lists_long names rs in
      let n : get_or (flat_map (lists_in names) rs) (number_of (applicant_ids rs) m.0) [] ≡ [] = no_list names rs m.0 s.applicants_differ m.2 in
      let zero_plus : 0 + c ≡ c = omega arith in
      record {
        within = rw (m.1, e) l;
        no_list = rw m.1 n;
        belongs = belongs names no_couple side rs 0 c s.applicants_differ listed h ∙ ap Couple zero_plus;
      }

  program_sound : (p : ℕ) → is_sound_program names (program_of market p) ≡ true
  program_sound p = at_each (is_sound_program names) _ refl (filter_map (program_in names) rs) (sound_programs names rs s.all_good) p

  list_sound : (a : ℕ) → is_sound_list names (list_of market a) ≡ true
  list_sound a = at_each (is_sound_list names) _ refl (flat_map (lists_in names) rs) (sound_lists names rs s.all_good) a

  couple_sound : (c : ℕ) → is_sound_couple names (couple_of market c) ≡ true
  couple_sound c = at_each (is_sound_couple names) _ refl (filter_map (couple_in names) rs) (sound_couples names rs s.all_good) c

  long_programs : length market.programs ≡ length names.programs
  long_programs = programs_long names rs

  long_lists : length market.lists ≡ length names.applicants
  long_lists = lists_long names rs

  long_couples : length market.couples ≡ length names.couples
  long_couples = couples_long names rs

  well : IsWellFormed market
  well = record {
    lists_distinct = λ a. (and_parts (is_distinct (list_of market a)) _ (list_sound a)).0;
    lists_within = λ a p h. let l : p < length names.programs = has_below (length names.programs) (list_of market a) p (and_parts (is_distinct (list_of market a)) _ (list_sound a)).1 h in rw long_programs l;
    rankings_distinct = λ p. (and_parts (is_distinct (program_of market p).ranking) _ (and_parts (is_distinct (program_of market p).ranking && list_all (λ a. nat_lt a (length names.applicants)) (program_of market p).ranking) _ (program_sound p)).0).0;
    rankings_within = λ p a h. let l : a < length names.applicants = has_below (length names.applicants) (program_of market p).ranking a (and_parts (is_distinct (program_of market p).ranking) _ (and_parts (is_distinct (program_of market p).ranking && list_all (λ b. nat_lt b (length names.applicants)) (program_of market p).ranking) _ (program_sound p)).0).1 h in rw long_lists l;
    first_member = member true;
    second_member = member false;
    two_members = λ c h. two_members names no_couple rs c s.applicants_differ listed h;
  }

  pub registered_sound : IsRegistration (record { market = market_by (names_of rs) rs; names = names_of rs })
  registered_sound =
      let p : ((nat_lt 100_000 (length names.applicants) || nat_lt 20_000 (length names.programs) || nat_lt 10_000 (length names.couples)) ≡ false) × (nat_lt 8_000_000 (entry_count rs) ≡ false) = or_parts _ _ s.few in
      let q : ((nat_lt 100_000 (length names.applicants) || nat_lt 20_000 (length names.programs)) ≡ false) × (nat_lt 10_000 (length names.couples) ≡ false) = or_parts _ _ p.0 in
      let r : (nat_lt 100_000 (length names.applicants) ≡ false) × (nat_lt 20_000 (length names.programs) ≡ false) = or_parts _ _ q.0 in
      record {
        well_formed = well;
        pairs_below = λ c. rw long_programs (and_parts (list_all (is_pair_below (length names.programs)) (couple_of market c).pairs) _ (couple_sound c)).0;
        pairs_differ = λ c. (and_parts (list_all (is_pair_below (length names.programs)) (couple_of market c).pairs) _ (couple_sound c)).1;
        program_names = record { one_each = sym long_programs; are_ids = programs_are_ids rs s.all_good; differ = s.programs_differ };
        applicant_names = record { one_each = sym long_lists; are_ids = applicants_are_ids rs s.all_good; differ = s.applicants_differ };
        couple_names = record { one_each = sym long_couples; are_ids = couples_are_ids rs s.all_good; differ = s.couples_differ };
        few_programs = rw long_programs (not_above _ _ r.1);
        few_applicants = rw long_lists (not_above _ _ r.0);
        few_couples = rw long_couples (not_above _ _ q.1);
        few_entries = let l : entry_count rs ≤ 8_000_000 = not_above _ _ p.1 in omega (arith, entries_short names rs);
        quotas = λ i. let t : nat_le (program_of market i).quota 9999 ≡ true = (and_parts (is_distinct (program_of market i).ranking && list_all (λ b. nat_lt b (length names.applicants)) (program_of market i).ranking) _ (program_sound i)).1 in at_most _ _ t;
      }
    where
      at_most : (n m : ℕ) → nat_le n m ≡ true → n ≤ m
      at_most n m h = grind (arith, nat_tests)
