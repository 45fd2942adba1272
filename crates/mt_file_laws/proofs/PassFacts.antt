-- A file that is accepted registers a well formed market with names that fit it.
use Rattle.std.proofs.Common.{◌≡◌, ℕ, ◌≤◌, Bool, true, false, not, ◌&&◌, ◌||◌, List, [], ◌∷◌, ◌++◌, map, length, Option, Some, None, Result, Ok, Err, refl, arith, sym, subst, cond, nat_lt, nat_le}
use Rattle.std.specs.Prelude.{if◌then◌else◌, codes, bytes_eq, is_some, option_map, ok_or}
use Rattle.std.specs.Option.{option_map_or}
use Rattle.std.specs.List.{list_all}
use Rattle.std.specs.Char.{is_ascii_digit, digit_value}
use Rattle.std.specs.Str.Parse.{digits_value}
use Rattle.std.proofs.lemmas.Bool.{and_parts, and_from, or_parts, not-false}
use Rattle.std.proofs.lemmas.Bool.Decides.{nat_tests}
use Rattle.std.proofs.lemmas.List.{append-nil, append_assoc}
use Rattle.std.proofs.lemmas.List.Elements.{filter_map-append}
use Rattle.std.proofs.lemmas.List.Folds.{list_all-append, list_any-append}
use Rattle.std.proofs.lemmas.Grind.{flat_map-append}
use Rattle.mt_terms.specs.Market.{Registered}
use Rattle.mt_terms.specs.declared.limits.TheConstants.{LIMITS_2}
use Rattle.mt_terms.specs.Registration.{market_of_numbered, market_under}
use Rattle.mt_terms.specs.Registration.Ids.{Bytes, is_id, is_id_byte, is_dash, quota_of, has_id, all_differ}
use Rattle.mt_terms.specs.Registration.Faults.{RecordFault, Fault, record_fault, fault_at}
use Rattle.mt_terms.specs.Registration.Records.{Record, ProgramRecord, ApplicantRecord, CoupleRecord, WithdrawRecord, Kind, OfProgram, OfApplicant, OfCouple, version_1, version_2, rules_of, are_ids, is_pair, pair_of, two_by_two, record_of, record_by_kind, program_record, applicant_record, couple_by_pairs, withdraw_by_kind, withdraw_record, kind_of}
use Rattle.mt_terms.specs.Registration.Rows.{ids_of, applicant_ids, own_id, applicants_of, remaining}
use Rattle.mt_terms.specs.Registration.Passes.{Numbered, numbered_from, contents, first_of, and_then, unless, at_record, are_too_many, says_twice, registered_before, first_conflict, next_record, first_pass, second_pass}
use Rattle.mt_terms.specs.Registration.Numbering.{registered}
use Rattle.mt_terms.specs.Registration.Accepted.{IsRegistration}
use Rattle.mt_file_laws.specs.Registration.{AcceptedIsRegistration}
use Rattle.mt_record_laws.proofs.FirstPassFacts.{kept_parts, not_found, contents_push}
use Rattle.mt_file_laws.proofs.NumberingFacts.{AreSound, sound_within, is_good, names_one}
use Rattle.mt_file_laws.proofs.RegisteredFacts.{registered_sound}
use Rattle.mt_file_laws.proofs.VersionFacts.{market_of_either}
use Rattle.mt_terms.proofs.IdFacts.{differ_push}

-- a quota has at most four digits
digit_small : (c : ℕ) → is_ascii_digit c ≡ true → digit_value c ≤ 9
digit_small c h = grind (arith, nat_tests)

at_most : (n m : ℕ) → nat_le n m ≡ true → n ≤ m
at_most n m h = grind (arith, nat_tests)

if_some : (b : Bool) (v n : ℕ) → (if b then Some v else None) ≡ Some n → (b ≡ true) × (v ≡ n)
if_some true v n h = (refl, cc)
if_some false v n h = cc

digits_at_most : (n v : ℕ) → v ≡ n → v ≤ 9999 → nat_le n 9999 ≡ true
digits_at_most n v e h = grind (arith, nat_tests)

short : (ds : Bytes) → (nat_lt 0 (length ds) && nat_le (length ds) 4 && list_all is_ascii_digit ds) ≡ true → (nat_le (length ds) 4 ≡ true) × (list_all is_ascii_digit ds ≡ true)
short ds h = let p : (nat_lt 0 (length ds) && nat_le (length ds) 4 ≡ true) × (list_all is_ascii_digit ds ≡ true) = and_parts (nat_lt 0 (length ds) && nat_le (length ds) 4) _ h in ((and_parts (nat_lt 0 (length ds)) _ p.0).1, p.1)

quota_small : (f : Bytes) (n : ℕ) → quota_of f ≡ Some n → nat_le n 9999 ≡ true
quota_small f n h = let p : (nat_lt 0 (length f) && nat_le (length f) 4 && list_all is_ascii_digit f ≡ true) × (digits_value 10 f ≡ n) = if_some _ (digits_value 10 f) n h in digits_at_most n (digits_value 10 f) p.1 (by f (short f p.0))
  where
    by : (ds : Bytes) → (nat_le (length ds) 4 ≡ true) × (list_all is_ascii_digit ds ≡ true) → digits_value 10 ds ≤ 9999
    by [] q = omega arith
    by (a ∷ []) q =
        let r : (is_ascii_digit a ≡ true) × (list_all is_ascii_digit [] ≡ true) = and_parts (is_ascii_digit a) _ q.1 in
        omega (arith, digit_small a r.0)
    by (a ∷ b ∷ []) q =
        let r : (is_ascii_digit a ≡ true) × (list_all is_ascii_digit (b ∷ []) ≡ true) = and_parts (is_ascii_digit a) _ q.1 in
        let s : (is_ascii_digit b ≡ true) × (list_all is_ascii_digit [] ≡ true) = and_parts (is_ascii_digit b) _ r.1 in
        omega (arith, digit_small a r.0, digit_small b s.0)
    by (a ∷ b ∷ c ∷ []) q =
        let r : (is_ascii_digit a ≡ true) × (list_all is_ascii_digit (b ∷ c ∷ []) ≡ true) = and_parts (is_ascii_digit a) _ q.1 in
        let s : (is_ascii_digit b ≡ true) × (list_all is_ascii_digit (c ∷ []) ≡ true) = and_parts (is_ascii_digit b) _ r.1 in
        let t : (is_ascii_digit c ≡ true) × (list_all is_ascii_digit [] ≡ true) = and_parts (is_ascii_digit c) _ s.1 in
        omega (arith, digit_small a r.0, digit_small b s.0, digit_small c t.0)
    by (a ∷ b ∷ c ∷ d ∷ []) q =
        let r : (is_ascii_digit a ≡ true) × (list_all is_ascii_digit (b ∷ c ∷ d ∷ []) ≡ true) = and_parts (is_ascii_digit a) _ q.1 in
        let s : (is_ascii_digit b ≡ true) × (list_all is_ascii_digit (c ∷ d ∷ []) ≡ true) = and_parts (is_ascii_digit b) _ r.1 in
        let t : (is_ascii_digit c ≡ true) × (list_all is_ascii_digit (d ∷ []) ≡ true) = and_parts (is_ascii_digit c) _ s.1 in
        let u : (is_ascii_digit d ≡ true) × (list_all is_ascii_digit [] ≡ true) = and_parts (is_ascii_digit d) _ t.1 in
        omega (arith, digit_small a r.0, digit_small b s.0, digit_small c t.0, digit_small d u.0)
    by (a ∷ b ∷ c ∷ d ∷ e ∷ ds) q = let l : length (a ∷ b ∷ c ∷ d ∷ e ∷ ds) ≤ 4 = at_most _ _ q.0 in absurd (omega arith)

-- an id is no dash
no_dash : (n : ℕ) (f : Bytes) → is_id n f ≡ true → is_dash f ≡ false
no_dash n f h = by (is_dash f) (and_parts (nat_lt 0 (length f) && nat_le (length f) n && list_all is_id_byte f) _ h).1
  where
    by : (b : Bool) → not b ≡ true → b ≡ false
    by true k = cc
    by false k = refl

pair_names_one : (p : Bytes × Bytes) → is_pair version_2 p ≡ true → names_one (pair_of p) ≡ true
pair_names_one p h = by (is_id 64 p.0) (is_id 64 p.1) (is_dash p.0) (is_dash p.1) (no_dash 64 p.0) (no_dash 64 p.1) h
  where
    by : (s t d e : Bool) → (s ≡ true → d ≡ false) → (t ≡ true → e ≡ false) → ((s && t) || (true && ((s && e) || (d && t)))) ≡ true → (is_some (cond d None (Some p.0)) || is_some (cond e None (Some p.1))) ≡ true
    by true t d e f g h = rw (f refl) refl
    by false true true e f g h = rw (g refl) refl
    by false true false e f g h = refl
    by false false true e f g h = cc
    by false false false e f g h = cc

pairs_name_one : (ps : List (Bytes × Bytes)) → list_all (is_pair version_2) ps ≡ true → list_all names_one (map pair_of ps) ≡ true
pairs_name_one [] h = refl
pairs_name_one (p ∷ ps) h = let q : (is_pair version_2 p ≡ true) × (list_all (is_pair version_2) ps ≡ true) = and_parts (is_pair version_2 p) _ h in and_from _ _ (pair_names_one p q.0) (pairs_name_one ps q.1)

-- a record that is read, and says nothing twice, is without a fault
if_ok : (b : Bool) (o : Result Record RecordFault) (e : RecordFault) (r : Record) → (if b then o else Err e) ≡ Ok r → (b ≡ true) × (o ≡ Ok r)
if_ok true o e r h = (refl, h)
if_ok false o e r h = cc

module _ (before : List Record) where
  good_program : (fs : List Bytes) (r : Record) → program_record version_2 fs ≡ Ok r → says_twice before r ≡ false → is_good r ≡ true
  good_program [] r h k = cc
  good_program (id ∷ []) r h k = cc
  good_program (id ∷ quota ∷ list) r h k = let p : (are_ids version_2 (id ∷ list) ≡ true) × (ok_or (option_map (λ n. ProgramRecord id n list) (quota_of quota)) (record_fault 16 id) ≡ Ok r) = if_ok _ _ _ r h in by (quota_of quota) (quota_small quota) (and_parts (is_id 64 id) _ p.0).0 p.1
    where
      by : (o : Option ℕ) → ((n : ℕ) → o ≡ Some n → nat_le n 9999 ≡ true) → is_id 64 id ≡ true → ok_or (option_map (λ n. ProgramRecord id n list) o) (record_fault 16 id) ≡ Ok r → is_good r ≡ true
      by None f i e = cc
      by (Some n) f i e =
          let s : ProgramRecord id n list ≡ r = cc in
          let t : says_twice before (ProgramRecord id n list) ≡ false = subst (λ (q : Record). says_twice before q ≡ false) (sym s) k in
          subst (λ (q : Record). is_good q ≡ true) s (and_from _ _ (and_from _ _ i (f n refl)) (not-false _ t))

  good_applicant : (fs : List Bytes) (r : Record) → applicant_record version_2 fs ≡ Ok r → says_twice before r ≡ false → is_good r ≡ true
  good_applicant [] r h k = cc
  good_applicant (id ∷ list) r h k =
      let p : (are_ids version_2 (id ∷ list) ≡ true) × (Ok (ApplicantRecord id list) ≡ Ok r) = if_ok _ _ _ r h in
      let s : ApplicantRecord id list ≡ r = cc in
      let t : says_twice before (ApplicantRecord id list) ≡ false = subst (λ (q : Record). says_twice before q ≡ false) (sym s) k in
      subst (λ (q : Record). is_good q ≡ true) s (and_from _ _ (and_parts (is_id 64 id) _ p.0).0 (not-false _ t))

  good_couple : (id a b : Bytes) (o : Option (List (Bytes × Bytes))) (r : Record) → couple_by_pairs version_2 id a b o ≡ Ok r → says_twice before r ≡ false → is_good r ≡ true
  good_couple id a b None r h k = cc
  good_couple id a b (Some ps) r h k =
      let p : (are_ids version_2 (id ∷ a ∷ b ∷ []) && list_all (is_pair version_2) ps ≡ true) × (Ok (CoupleRecord id a b (map pair_of ps)) ≡ Ok r) = if_ok _ _ _ r h in
      let i : (are_ids version_2 (id ∷ a ∷ b ∷ []) ≡ true) × (list_all (is_pair version_2) ps ≡ true) = and_parts (are_ids version_2 (id ∷ a ∷ b ∷ [])) _ p.0 in
      let s : CoupleRecord id a b (map pair_of ps) ≡ r = cc in
      let t : says_twice before (CoupleRecord id a b (map pair_of ps)) ≡ false = subst (λ (q : Record). says_twice before q ≡ false) (sym s) k in
      subst (λ (q : Record). is_good q ≡ true) s (and_from _ _ (and_from _ _ i.0 (pairs_name_one ps i.1)) (not-false _ t))

  good_withdrawal : (o : Option Kind) (fs : List Bytes) (r : Record) → withdraw_by_kind version_2 o fs ≡ Ok r → is_good r ≡ true
  good_withdrawal None fs r h = cc
  good_withdrawal (Some kind) [] r h = cc
  good_withdrawal (Some kind) (id ∷ []) r h =
      let p : (are_ids version_2 (id ∷ []) ≡ true) × (Ok (WithdrawRecord kind id) ≡ Ok r) = if_ok _ _ _ r h in
      let s : WithdrawRecord kind id ≡ r = cc in
      subst (λ (q : Record). is_good q ≡ true) s refl
  good_withdrawal (Some kind) (id ∷ f ∷ fs) r h = cc

  good_kind : (o : Option Kind) (fs : List Bytes) (r : Record) → record_by_kind version_2 o fs ≡ Ok r → says_twice before r ≡ false → is_good r ≡ true
  good_kind None fs r h k = cc
  good_kind (Some OfProgram) fs r h k = good_program fs r h k
  good_kind (Some OfApplicant) fs r h k = good_applicant fs r h k
  good_kind (Some OfCouple) [] r h k = cc
  good_kind (Some OfCouple) (id ∷ []) r h k = cc
  good_kind (Some OfCouple) (id ∷ a ∷ []) r h k = cc
  good_kind (Some OfCouple) (id ∷ a ∷ b ∷ fs) r h k = good_couple id a b (two_by_two fs) r h k

  good_record : (fs : List Bytes) (r : Record) → record_of version_2 fs ≡ Ok r → says_twice before r ≡ false → is_good r ≡ true
  good_record [] r h k = cc
  good_record (word ∷ []) r h k = by (bytes_eq word (codes "withdraw")) h
    where
      by : (b : Bool) → (if b then withdraw_record version_2 [] else record_by_kind version_2 (kind_of word) []) ≡ Ok r → is_good r ≡ true
      by true e = cc
      by false e = good_kind (kind_of word) [] r e k
  good_record (word ∷ f ∷ fs) r h k = by (bytes_eq word (codes "withdraw")) h
    where
      by : (b : Bool) → (if b then withdraw_record version_2 (f ∷ fs) else record_by_kind version_2 (kind_of word) (f ∷ fs)) ≡ Ok r → is_good r ≡ true
      by true e = good_withdrawal (kind_of f) fs r e
      by false e = good_kind (kind_of word) (f ∷ fs) r e k

none_of : (o p q : Option Bytes) → first_of (o ∷ p ∷ q ∷ []) ≡ None → (o ≡ None) × (p ≡ None) × (q ≡ None)
none_of (Some x) p q h = cc
none_of None (Some x) q h = cc
none_of None None (Some x) h = cc
none_of None None None h = (refl, refl, refl)

-- a record that is added keeps the records sound
module _ (rs : List Record) (s : AreSound rs) where
  same_ids : (kind : Kind) (r : Record) → own_id kind r ≡ None → all_differ bytes_eq (ids_of kind rs) ≡ true → all_differ bytes_eq (ids_of kind (rs ++ r ∷ [])) ≡ true
  same_ids kind r n h = rw (filter_map-append, n, append-nil) h

  new_id : (kind : Kind) (r : Record) (id : Bytes) → own_id kind r ≡ Some id → has_id (ids_of kind rs) id ≡ false → all_differ bytes_eq (ids_of kind rs) ≡ true → all_differ bytes_eq (ids_of kind (rs ++ r ∷ [])) ≡ true
  new_id kind r id n f h = rw (filter_map-append, n) (differ_push (ids_of kind rs) id f h)

  same_applicants : (r : Record) → applicants_of r ≡ [] → all_differ bytes_eq (applicant_ids (rs ++ r ∷ [])) ≡ true
  same_applicants r n = rw (flat_map-append, n, append-nil) s.applicants_differ

  more_good : (r : Record) → is_good r ≡ true → list_all is_good (rs ++ r ∷ []) ≡ true
  more_good r g = rw (list_all-append, s.all_good, g) refl

  sound_push : (r : Record) → registered_before rs r ≡ None → is_good r ≡ true → are_too_many LIMITS_2 (rs ++ r ∷ []) ≡ false → AreSound (rs ++ r ∷ [])
  sound_push (ProgramRecord id quota list) n g f =
      let i : has_id (ids_of OfProgram rs) id ≡ false = not_found _ id n in
      record {
        programs_differ = new_id OfProgram (ProgramRecord id quota list) id refl i s.programs_differ;
        couples_differ = same_ids OfCouple (ProgramRecord id quota list) refl s.couples_differ;
        applicants_differ = same_applicants (ProgramRecord id quota list) refl;
        all_good = more_good (ProgramRecord id quota list) g;
        few = f;
      }
  sound_push (ApplicantRecord id list) n g f =
      let i : has_id (applicant_ids rs) id ≡ false = not_found _ id n in
      record {
        programs_differ = same_ids OfProgram (ApplicantRecord id list) refl s.programs_differ;
        couples_differ = same_ids OfCouple (ApplicantRecord id list) refl s.couples_differ;
        applicants_differ = rw flat_map-append (differ_push (applicant_ids rs) id i s.applicants_differ);
        all_good = more_good (ApplicantRecord id list) g;
        few = f;
      }
  sound_push (CoupleRecord id a b pairs) n g f =
      let o : (cond (has_id (ids_of OfCouple rs) id) (Some id) None ≡ None) × (cond (has_id (applicant_ids rs) a) (Some a) None ≡ None) × (cond (has_id (a ∷ applicant_ids rs) b) (Some b) None ≡ None) = none_of _ _ _ n in
      let i : has_id (ids_of OfCouple rs) id ≡ false = not_found _ id o.0 in
      let j : has_id (applicant_ids rs) a ≡ false = not_found _ a o.1 in
      let k : (bytes_eq b a ≡ false) × (has_id (applicant_ids rs) b ≡ false) = or_parts _ _ (not_found _ b o.2) in
      let l : has_id (applicant_ids rs ++ a ∷ []) b ≡ false = rw (list_any-append, k.0, k.1) refl in
      let d : all_differ bytes_eq ((applicant_ids rs ++ a ∷ []) ++ b ∷ []) ≡ true = differ_push (applicant_ids rs ++ a ∷ []) b l (differ_push (applicant_ids rs) a j s.applicants_differ) in
      record {
        programs_differ = same_ids OfProgram (CoupleRecord id a b pairs) refl s.programs_differ;
        couples_differ = new_id OfCouple (CoupleRecord id a b pairs) id refl i s.couples_differ;
        applicants_differ = rw flat_map-append (rw append_assoc at d);
        all_good = more_good (CoupleRecord id a b pairs) g;
        few = f;
      }
  sound_push (WithdrawRecord kind id) n g f =
      record {
        programs_differ = same_ids OfProgram (WithdrawRecord kind id) (own_none OfProgram) s.programs_differ;
        couples_differ = same_ids OfCouple (WithdrawRecord kind id) (own_none OfCouple) s.couples_differ;
        applicants_differ = same_applicants (WithdrawRecord kind id) refl;
        all_good = more_good (WithdrawRecord kind id) g;
        few = f;
      }
    where
      own_none : (k : Kind) → own_id k (WithdrawRecord kind id) ≡ None
      own_none OfProgram = refl
      own_none OfApplicant = refl
      own_none OfCouple = refl

  sound_next : (fs : List Bytes) (r : Record) → next_record version_2 rs fs ≡ Ok r → AreSound (rs ++ r ∷ [])
  sound_next fs r h = by (record_of version_2 fs) refl h
    where
      by : (o : Result Record RecordFault) → record_of version_2 fs ≡ o → and_then o (λ q. unless (first_conflict version_2 rs q) q) ≡ Ok r → AreSound (rs ++ r ∷ [])
      by (Err e) i k = cc
      by (Ok q) i k =
          let p : (q ≡ r) × (registered_before rs q ≡ None) × (says_twice rs q ≡ false) × (are_too_many LIMITS_2 (rs ++ q ∷ []) ≡ false) = kept_parts _ _ _ _ _ q r k in
          let t : AreSound (rs ++ q ∷ []) = sound_push q p.1 (good_record rs fs q i p.2) p.3 in
          subst (λ (z : Record). AreSound (rs ++ z ∷ [])) p.0 t

-- so what the first pass gives is sound
sound_pass : (before : List (Numbered Record)) (rows : List (Numbered (List Bytes))) (rs : List (Numbered Record)) → AreSound (contents before) → first_pass version_2 before rows ≡ Ok rs → AreSound (contents rs)
sound_pass before [] rs s h = let e : before ≡ rs = cc in subst (λ (z : List (Numbered Record)). AreSound (contents z)) e s
sound_pass before (row ∷ rows) rs s h =
    by (λ r t. sound_pass (before ++ (row.0, r) ∷ []) rows rs t) (next_record version_2 (contents before) row.1) (sound_next (contents before) s row.1) h
  where
    by : ((r : Record) → AreSound (contents (before ++ (row.0, r) ∷ [])) → first_pass version_2 (before ++ (row.0, r) ∷ []) rows ≡ Ok rs → AreSound (contents rs))
        → (o : Result Record RecordFault) → ((r : Record) → o ≡ Ok r → AreSound (contents before ++ r ∷ []))
        → and_then (at_record row.0 o) (λ r. first_pass version_2 (before ++ (row.0, r) ∷ []) rows) ≡ Ok rs → AreSound (contents rs)
    by g (Ok r) f k = g r (subst AreSound (sym (contents_push before row.0 r)) (f r refl)) k
    by g (Err e) f k = cc

sound_nil : AreSound []
sound_nil = record { programs_differ = refl; couples_differ = refl; applicants_differ = refl; all_good = refl; few = refl }

sound_registered : (rs : List Record) → AreSound rs → IsRegistration (registered rs)
sound_registered rs s = registered_sound (remaining rs) (sound_within _ rs s)

sound_market : (rows : List (Numbered (List Bytes))) (r : Registered) → market_under version_2 rows ≡ Ok r → IsRegistration r
sound_market rows r h = by (first_pass version_2 [] rows) (λ rs. sound_pass [] rows rs sound_nil) h
  where
    second : (rs : List (Numbered Record)) (o : Option Fault) → AreSound (contents rs) → unless o (registered (contents rs)) ≡ Ok r → IsRegistration r
    second rs (Some fault) s k = cc
    second rs None s k = let e : registered (contents rs) ≡ r = cc in subst IsRegistration e (sound_registered (contents rs) s)

    by : (o : Result (List (Numbered Record)) Fault) → ((rs : List (Numbered Record)) → o ≡ Ok rs → AreSound (contents rs))
        → and_then o (λ records. unless (second_pass records) (registered (contents records))) ≡ Ok r → IsRegistration r
    by (Ok rs) f k = second rs (second_pass rs) (f rs refl) k
    by (Err e) f k = cc

-- by the rules of either version
sound_version : (fields : List Bytes) (rows : List (Numbered (List Bytes))) (n : ℕ) (r : Registered) → option_map_or (λ rules. market_under rules rows) (rules_of fields) (Err (fault_at n (record_fault 12 []))) ≡ Ok r → IsRegistration r
sound_version [] rows n r h = cc
sound_version (word ∷ []) rows n r h = cc
sound_version (word ∷ number ∷ []) rows n r h = by (bytes_eq word (codes "match") && bytes_eq number (codes "1")) (bytes_eq word (codes "match") && bytes_eq number (codes "2")) h
  where
    by : (b c : Bool) → option_map_or (λ rules. market_under rules rows) (if b then Some version_1 else (if c then Some version_2 else None)) (Err (fault_at n (record_fault 12 []))) ≡ Ok r → IsRegistration r
    by true c k = sound_market rows r (market_of_either rows r k)
    by false true k = sound_market rows r k
    by false false k = cc
sound_version (word ∷ number ∷ f ∷ fs) rows n r h = cc

pub accepted_is_registration_lem : AcceptedIsRegistration
accepted_is_registration_lem rows r h = by (numbered_from 1 rows) h
  where
    by : (numbered : List (Numbered (List Bytes))) → market_of_numbered numbered ≡ Ok r → IsRegistration r
    by [] k = cc
    by (row ∷ rest) k = sound_version row.1 rest row.0 r k
