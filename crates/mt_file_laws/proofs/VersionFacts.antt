-- What is accepted as version 1 is accepted as version 2, and as the same market.
use Rattle.std.proofs.Common.{◌≡◌, ℕ, ◌+◌, Bool, true, false, ◌&&◌, ◌||◌, List, [], ◌∷◌, ◌++◌, length, Option, Some, None, Result, Ok, Err, refl, ◌∙◌, arith, ap, nat_le, nat_lt, zero, suc, add-zero}
use Rattle.std.specs.Prelude.{if◌then◌else◌, codes, bytes_eq, replicate}
use Rattle.std.specs.List.{list_all}
use Rattle.std.proofs.lemmas.Bool.Decides.{nat_tests}
use Rattle.std.proofs.lemmas.Slice.Eq.{bytes_eq-Decides}
use Rattle.mt_terms.specs.Market.{Registered}
use Rattle.mt_terms.specs.Registration.{market_under}
use Rattle.mt_terms.specs.Registration.Ids.{Bytes, is_id}
use Rattle.mt_terms.specs.Registration.Faults.{RecordFault, Fault}
use Rattle.mt_terms.specs.Registration.Records.{Record, version_1, version_2, are_ids, is_pair, two_by_two, record_of, program_record, applicant_record, couple_by_pairs, couple_record, withdraw_record, record_by_kind, Rules, Kind, OfProgram, OfApplicant, OfCouple, kind_of}
use Rattle.mt_terms.specs.Registration.Passes.{Numbered, numbered_from, contents, first_of, and_then, unless, at_record, are_too_many, first_conflict, next_record, first_pass, second_pass}
use Rattle.mt_terms.specs.Registration.Rows.{entry_count, applicant_ids, ids_of}
use Rattle.mt_terms.specs.Registration.Numbering.{registered}
use Rattle.std.specs.Bool.{then_some}
use Rattle.mt_file_laws.specs.Registration.{VersionsAgree}

-- what a test that holds gives, one that it implies gives too
weaker : (s t : Bool) (o : Result Record RecordFault) (e : RecordFault) (r : Record) → (s ≡ true → t ≡ true) → (if s then o else Err e) ≡ Ok r → (if t then o else Err e) ≡ Ok r
weaker true t o e r h k = rw (h refl) k
weaker false t o e r h k = cc

-- a test of four parts, of which the second asks less
pub second_of_four : (a b b' c d : Bool) → (b ≡ true → b' ≡ true) → (a && b && c && d) ≡ true → (a && b' && c && d) ≡ true
second_of_four true true b' c d h k = rw (h refl) k
second_of_four true false b' c d h k = cc
second_of_four false b b' c d h k = cc

pub id_of_more : (n : ℕ) → nat_le n 32 ≡ true → nat_le n 64 ≡ true
id_of_more n h = grind (arith, nat_tests)

id_of_either : (f : Bytes) → is_id 32 f ≡ true → is_id 64 f ≡ true
id_of_either f h = second_of_four _ (nat_le (length f) 32) (nat_le (length f) 64) _ _ (id_of_more (length f)) h

ids_of_either : (fs : List Bytes) → are_ids version_1 fs ≡ true → are_ids version_2 fs ≡ true
ids_of_either [] h = refl
ids_of_either (f ∷ fs) h = grind (arith, id_of_either f, ids_of_either fs)

pairs_of_either : (ps : List (Bytes × Bytes)) → list_all (is_pair version_1) ps ≡ true → list_all (is_pair version_2) ps ≡ true
pairs_of_either [] h = refl
pairs_of_either (p ∷ ps) h = grind (arith, id_of_either p.0, id_of_either p.1, pairs_of_either ps)

program_of_either : (fs : List Bytes) (r : Record) → program_record version_1 fs ≡ Ok r → program_record version_2 fs ≡ Ok r
program_of_either [] r h = cc
program_of_either (id ∷ []) r h = cc
program_of_either (id ∷ quota ∷ list) r h = weaker _ _ _ _ r (ids_of_either (id ∷ list)) h

applicant_of_either : (fs : List Bytes) (r : Record) → applicant_record version_1 fs ≡ Ok r → applicant_record version_2 fs ≡ Ok r
applicant_of_either [] r h = cc
applicant_of_either (id ∷ list) r h = weaker _ _ _ _ r (ids_of_either (id ∷ list)) h

both_tests : (a b c d : Bool) → (a ≡ true → c ≡ true) → (b ≡ true → d ≡ true) → (a && b) ≡ true → (c && d) ≡ true
both_tests true true c d h k e = rw (h refl, k refl) refl
both_tests true false c d h k e = cc
both_tests false b c d h k e = cc

by_pairs_of_either : (id a b : Bytes) (o : Option (List (Bytes × Bytes))) (r : Record) → couple_by_pairs version_1 id a b o ≡ Ok r → couple_by_pairs version_2 id a b o ≡ Ok r
by_pairs_of_either id a b None r h = cc
by_pairs_of_either id a b (Some ps) r h =
    weaker _ _ _ _ r (both_tests _ _ _ _ (ids_of_either (id ∷ a ∷ b ∷ [])) (pairs_of_either ps)) h

couple_of_either : (fs : List Bytes) (r : Record) → couple_record version_1 fs ≡ Ok r → couple_record version_2 fs ≡ Ok r
couple_of_either [] r h = cc
couple_of_either (id ∷ []) r h = cc
couple_of_either (id ∷ a ∷ []) r h = cc
couple_of_either (id ∷ a ∷ b ∷ fs) r h = by_pairs_of_either id a b (two_by_two fs) r h

by_kind_of_either : (k : Option Kind) (fs : List Bytes) (r : Record) → record_by_kind version_1 k fs ≡ Ok r → record_by_kind version_2 k fs ≡ Ok r
by_kind_of_either None fs r h = cc
by_kind_of_either (Some OfProgram) fs r h = program_of_either fs r h
by_kind_of_either (Some OfApplicant) fs r h = applicant_of_either fs r h
by_kind_of_either (Some OfCouple) fs r h = couple_of_either fs r h

-- a withdrawal is of no other kind
no_kind : (word : Bytes) → bytes_eq word (codes "withdraw") ≡ true → kind_of word ≡ None
no_kind word h = rw ((bytes_eq-Decides word (codes "withdraw")).0 h) refl

never_none : (o : Option Kind) (fs : List Bytes) (r : Record) → o ≡ None → record_by_kind version_1 o fs ≡ Ok r → ⊥
never_none None fs r e h = cc
never_none (Some kind) fs r e h = cc

record_of_either : (fs : List Bytes) (r : Record) → record_of version_1 fs ≡ Ok r → record_of version_2 fs ≡ Ok r
record_of_either [] r h = cc
record_of_either (word ∷ fs) r h = by_word (bytes_eq word (codes "withdraw")) (no_kind word)
  where
    by_word : (b : Bool) → (b ≡ true → kind_of word ≡ None) → (if b then withdraw_record version_2 fs else record_by_kind version_2 (kind_of word) fs) ≡ Ok r
    by_word true k = absurd (never_none (kind_of word) fs r (k refl) h)
    by_word false k = by_kind_of_either (kind_of word) fs r h

-- what is not too many for a limit is not too many for a larger one
last_of_four : (a b c d e : Bool) → (d ≡ false → e ≡ false) → (a || b || c || d) ≡ false → (a || b || c || e) ≡ false
last_of_four false false false d e h k = h k
last_of_four false false true d e h k = cc
last_of_four false true c d e h k = cc
last_of_four true b c d e h k = cc

no_more : (n : ℕ) → nat_lt 4_000_000 n ≡ false → nat_lt 8_000_000 n ≡ false
no_more n h = grind (arith, nat_tests)

too_many_of_either : (rs : List Record) → are_too_many version_1.limits rs ≡ false → are_too_many version_2.limits rs ≡ false
too_many_of_either rs h =
    last_of_four (nat_lt version_1.limits.applicants (length (applicant_ids rs)))
    (nat_lt version_1.limits.programs (length (ids_of OfProgram rs)))
    (nat_lt version_1.limits.couples (length (ids_of OfCouple rs)))
    _ _
    (no_more (entry_count rs))
    h

-- two results lead to the same if they give the same without a fault
module _ {X Y E : Type 0} where
  keeps_next : (o p : Result X E) (next more : X → Result Y E) (y : Y) → ((x : X) → o ≡ Ok x → p ≡ Ok x) → ((x : X) → next x ≡ Ok y → more x ≡ Ok y)
      → and_then o next ≡ Ok y → and_then p more ≡ Ok y
  keeps_next (Ok x) p next more y f g h = rw (f x refl) (g x h)
  keeps_next (Err e) p next more y f g h = cc

keeps_at : {X : Type 0} (n : ℕ) (o p : Result X RecordFault) (x : X) → ((x : X) → o ≡ Ok x → p ≡ Ok x) → at_record n o ≡ Ok x → at_record n p ≡ Ok x
keeps_at n (Ok y) p x f h = let e : y ≡ x = cc in rw (f y refl) (ap Ok e)
keeps_at n (Err c) p x f h = cc

kept : (o : Option RecordFault) (s t u : Bool) (c d : RecordFault) (q r : Record) → (t ≡ false → u ≡ false)
    → unless (first_of (o ∷ then_some s c ∷ then_some t d ∷ [])) q ≡ Ok r → unless (first_of (o ∷ then_some s c ∷ then_some u d ∷ [])) q ≡ Ok r
kept (Some e) s t u c d q r h k = cc
kept None true t u c d q r h k = cc
kept None false true u c d q r h k = cc
kept None false false u c d q r h k = rw (h refl) k

next_of_either : (before : List Record) (fs : List Bytes) (r : Record) → next_record version_1 before fs ≡ Ok r → next_record version_2 before fs ≡ Ok r
next_of_either before fs r =
    keeps_next (record_of version_1 fs) (record_of version_2 fs) (λ q. unless (first_conflict version_1 before q) q) (λ q. unless (first_conflict version_2 before q) q) r
    (record_of_either fs) (λ q. kept _ _ _ _ _ _ q r (too_many_of_either (before ++ q ∷ [])))

first_pass_of_either : (before : List (Numbered Record)) (rows : List (Numbered (List Bytes))) (rs : List (Numbered Record)) → first_pass version_1 before rows ≡ Ok rs → first_pass version_2 before rows ≡ Ok rs
first_pass_of_either before [] rs h = h
first_pass_of_either before (row ∷ rows) rs h =
    let one : Rules → Result Record RecordFault = λ rules. next_record rules (contents before) row.1 in
    keeps_next (at_record row.0 (one version_1)) (at_record row.0 (one version_2))
    (λ r. first_pass version_1 (before ++ (row.0, r) ∷ []) rows) (λ r. first_pass version_2 (before ++ (row.0, r) ∷ []) rows) rs
    (λ r. keeps_at row.0 (one version_1) (one version_2) r (next_of_either (contents before) row.1))
    (λ r. first_pass_of_either (before ++ (row.0, r) ∷ []) rows rs) h

pub market_of_either : (rows : List (Numbered (List Bytes))) (r : Registered) → market_under version_1 rows ≡ Ok r → market_under version_2 rows ≡ Ok r
market_of_either rows r =
    let rest : List (Numbered Record) → Result Registered Fault = λ records. unless (second_pass records) (registered (contents records)) in
    keeps_next (first_pass version_1 [] rows) (first_pass version_2 [] rows) rest rest r (first_pass_of_either [] rows) (λ records h. h)

-- records without a field are passed over
after_blanks : (n blanks : ℕ) (rows : List (List Bytes)) → numbered_from n (replicate blanks [] ++ rows) ≡ numbered_from (n + blanks) rows
after_blanks n zero rows = rw add-zero refl
after_blanks n (suc b) rows = let e : n + 1 + b ≡ n + suc b = omega arith in after_blanks (n + 1) b rows ∙ ap (λ k. numbered_from k rows) e

pub versions_agree_lem : VersionsAgree
versions_agree_lem blanks rows r h = rw after_blanks (market_of_either (numbered_from (1 + blanks + 1) rows) r (rw after_blanks at h))
