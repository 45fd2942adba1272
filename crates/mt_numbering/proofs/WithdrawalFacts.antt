-- What records withdraw, record by record, and the new numbers of those that stay.
use Rattle.std.proofs.Common.{◌≡◌, ℕ, ◌+◌, ◌-◌, ◌<◌, ◌≤◌, ◌==◌, Bool, true, false, not, ◌&&◌, ◌||◌, List, [], ◌∷◌, ◌++◌, length, take, drop, get_or, refl, ap, ap₂, sym, subst, ◌∙◌, arith, cond}
use Rattle.std.specs.Prelude.{bytes_eq, filter, if◌then◌else◌, map, option_to_list, Option, Some}
use Rattle.std.specs.List.{range_with_len}
use Rattle.std.specs.Borrow.{Bor}
use Rattle.std.specs.List.{list_all, list_any}
use Rattle.std.proofs.lemmas.Bool.{and_parts, and_from as both}
use Rattle.std.proofs.lemmas.Bool.Decides.{nat_tests}
use Rattle.std.proofs.lemmas.List.{append-nil, map-append, take_more, take-append-drop, drop_more}
use Rattle.std.proofs.lemmas.List.Elements.{filter_map-append}
use Rattle.std.proofs.lemmas.List.Folds.{list_all-append}
use Rattle.mt_terms.specs.Registration.Ids.{Bytes, has_id, all_differ}
use Rattle.mt_terms.specs.Registration.Records.{Record, ProgramRecord, ApplicantRecord, CoupleRecord, WithdrawRecord, Kind, OfProgram, OfApplicant, OfCouple}
use Rattle.mt_terms.specs.Registration.Rows.{withdrawn_id, withdrawn, ids_of, applicant_ids}
use Rattle.mt_record_laws.proofs.IdFacts.{differ_parts, differ_push, not_true, or_left, or_right}
use Rattle.mt_terms.proofs.IdFacts.{is_same, same_id}
use Rattle.mt_ids.specs.declared.kinds.Kind as checked
use Rattle.mt_records.specs.declared.record.Record.{Record as Checked}
use Rattle.mt_records.specs.declared.record.Record.TheVariants as variants
use Rattle.mt_ids.specs.declared.kinds.Kinds.{Kinds}
use Rattle.mt_records.specs.Records.{all_seen, record_seen}
use Rattle.mt_ids.specs.Kinds.{ids_in, under, AddsId}
use Rattle.mt_records.proofs.FieldFacts.{right_fails}
use Rattle.mt_terms.specs.Lists.{below}
use Rattle.mt_draft_laws.specs.Staying.{stays_without, new_numbers, program_flags, applicant_flags}
use Rattle.mt_numbering.specs.Withdrawals.{are_once, are_known, is_withdrawal, stays_after, withdrawn_by, withdrawn_ids, AreWithdrawn}
use Rattle.mt_ids.specs.Seeds.{digest_of, with_fields}
use Rattle.mt_ids.proofs.SeedFacts.{with_fields-append}
use Rattle.std.specs.Hash.DefaultHasher as sip
use Rattle.std.proofs.lemmas.Grind.{flat_map-append}
use Rattle.mt_record_laws.proofs.GrowthFacts.{withdrawn-more}

-- an id that differs from all others is none of those before it
differ_before : (xs : List Bytes) (y : Bytes) (ys : List Bytes) → all_differ bytes_eq (xs ++ y ∷ ys) ≡ true → has_id xs y ≡ false
differ_before [] y ys h = refl
differ_before (x ∷ xs) y ys h =
    let p : (has_id (xs ++ y ∷ ys) x ≡ false) × (all_differ bytes_eq (xs ++ y ∷ ys) ≡ true) = differ_parts x (xs ++ y ∷ ys) h in
    let n : bytes_eq y x ≡ false = not_true _ (λ e. cc (p.0, later xs x (same_id y x e))) in
    rw (n, differ_before xs y ys p.1) refl
  where
    later : (xs : List Bytes) (x : Bytes) → y ≡ x → has_id (xs ++ y ∷ ys) x ≡ true
    later [] x e = or_left _ _ (is_same x y (sym e))
    later (z ∷ zs) x e = or_right _ _ (later zs x e)

-- the records before a place and the one there, and all with those after it
pub seen_more : (records : List Checked) (i : ℕ) (d : Checked) → i < length records → all_seen (take (i + 1) records) ≡ all_seen (take i records) ++ record_seen (get_or records i d) ∷ []
seen_more records i d h = ap all_seen (take_more records i d h) ∙ map-append record_seen (take i records) (get_or records i d ∷ [])

pub seen_split : (records : List Checked) (i : ℕ) (d : Checked) → i < length records
    → all_seen (take i records) ++ record_seen (get_or records i d) ∷ all_seen (drop (i + 1) records) ≡ all_seen records
seen_split records i d h =
    sym (map-append record_seen (take i records) (get_or records i d ∷ drop (i + 1) records))
    ∙ ap (λ (rest : List Checked). all_seen (take i records ++ rest)) (sym (drop_more records i d h))
    ∙ ap all_seen (take-append-drop i records)

-- a list without elements
nil_of : {X : Type 0} (xs : List X) → length xs ≡ 0 → xs ≡ []
nil_of [] h = refl
nil_of (x ∷ xs) h = cc

-- a list with an id that fails a test, and a list that has one twice
unlisted : (test : Bytes → Bool) (xs : List Bytes) (x : Bytes) (ys : List Bytes) → test x ≡ false → list_all test (xs ++ x ∷ ys) ≡ false
unlisted test xs x ys n =
    not_true _
    (λ h.
    let q : (list_all test xs ≡ true) × (list_all test (x ∷ ys) ≡ true) = and_parts (list_all test xs) _ (sym (list_all-append test xs (x ∷ ys)) ∙ h) in
    let r : (test x ≡ true) × (list_all test ys ≡ true) = and_parts (test x) _ q.1 in
    cc (n, r.0))

listed_twice : (xs : List Bytes) (x : Bytes) (ys : List Bytes) → has_id xs x ≡ true → all_differ bytes_eq (xs ++ x ∷ ys) ≡ false
listed_twice xs x ys t =
    not_true _
    (λ h.
    let n : has_id xs x ≡ false = differ_before xs x ys h in
    cc (n, t))

-- Of the records so far no id is withdrawn twice, and those that are withdrawn are these.
pub record AreSoFar (before : List Record) (w : Kinds) : Type 0 where
  pub once : (kind : Kind) → all_differ bytes_eq (withdrawn kind before) ≡ true
  pub ids : (kind : Kind) → ids_in w kind ≡ withdrawn kind before

-- Of the records so far each withdrawn id passes the test of its kind.
abbrev pub AreKnown : (Kind → Bytes → Bool) → List Record → Type 0
AreKnown knows before = (kind : Kind) → list_all (knows kind) (withdrawn kind before) ≡ true

-- a record that is no withdrawal adds nothing
pub no_withdrawal : (r : Checked) → ((kind : checked.Kind) (id : Bor Bytes) → r ≡ variants.Withdraw kind id → ⊥) → is_withdrawal (record_seen r) ≡ false
no_withdrawal (variants.Program id quota list) h = refl
no_withdrawal (variants.Applicant id list) h = refl
no_withdrawal (variants.Couple id fields) h = refl
no_withdrawal (variants.Withdraw kind id) h = absurd (h kind id refl)

withdraws_nothing : (r : Record) → is_withdrawal r ≡ false → withdrawn_by r ≡ []
withdraws_nothing (ProgramRecord id quota list) h = refl
withdraws_nothing (ApplicantRecord id list) h = refl
withdraws_nothing (CoupleRecord id a b pairs) h = refl
withdraws_nothing (WithdrawRecord kind id) h = cc

-- the digest of what records withdraw, with one record more
pub digest_with : (rs : List Record) (r : Record) → digest_of (withdrawn_ids (rs ++ r ∷ [])) ≡ with_fields (digest_of (withdrawn_ids rs)) (withdrawn_by r)
digest_with rs r =
    ap digest_of (flat_map-append withdrawn_by rs (r ∷ []) ∙ ap (λ (ids : List Bytes). withdrawn_ids rs ++ ids) (append-nil (withdrawn_by r)))
    ∙ with_fields-append sip.initial (withdrawn_ids rs) (withdrawn_by r)

pub digest_without : (rs : List Record) (r : Record) → is_withdrawal r ≡ false → digest_of (withdrawn_ids (rs ++ r ∷ [])) ≡ digest_of (withdrawn_ids rs)
digest_without rs r h = digest_with rs r ∙ ap (with_fields (digest_of (withdrawn_ids rs))) (withdraws_nothing r h)

withdraws_none : (r : Record) (kind : Kind) → is_withdrawal r ≡ false → option_to_list (withdrawn_id kind r) ≡ []
withdraws_none (ProgramRecord id quota list) OfProgram h = refl
withdraws_none (ProgramRecord id quota list) OfApplicant h = refl
withdraws_none (ProgramRecord id quota list) OfCouple h = refl
withdraws_none (ApplicantRecord id list) OfProgram h = refl
withdraws_none (ApplicantRecord id list) OfApplicant h = refl
withdraws_none (ApplicantRecord id list) OfCouple h = refl
withdraws_none (CoupleRecord id a b pairs) OfProgram h = refl
withdraws_none (CoupleRecord id a b pairs) OfApplicant h = refl
withdraws_none (CoupleRecord id a b pairs) OfCouple h = refl
withdraws_none (WithdrawRecord k id) kind h = cc

same_withdrawn : (before : List Record) (r : Record) (kind : Kind) → is_withdrawal r ≡ false → withdrawn kind (before ++ r ∷ []) ≡ withdrawn kind before
same_withdrawn before r kind n = withdrawn-more before r kind ∙ ap (λ (ids : List Bytes). withdrawn kind before ++ ids) (withdraws_none r kind n) ∙ append-nil (withdrawn kind before)

pub still_withdrawn : (before : List Record) (w : Kinds) (r : Record) → AreSoFar before w → is_withdrawal r ≡ false → AreSoFar (before ++ r ∷ []) w
still_withdrawn before w r are n = record {
  once = λ kind. ap (all_differ bytes_eq) (same_withdrawn before r kind n) ∙ are.once kind;
  ids = λ kind. are.ids kind ∙ sym (same_withdrawn before r kind n);
}

pub still_known : (knows : Kind → Bytes → Bool) (before : List Record) (r : Record) → AreKnown knows before → is_withdrawal r ≡ false → AreKnown knows (before ++ r ∷ [])
still_known knows before r are n = λ kind. ap (list_all (knows kind)) (same_withdrawn before r kind n) ∙ are kind

-- what a withdrawal adds
withdraws_one : (kind k : Kind) (id : Bytes) → option_to_list (withdrawn_id k (WithdrawRecord kind id)) ≡ under kind id k
withdraws_one OfProgram OfProgram id = refl
withdraws_one OfProgram OfApplicant id = refl
withdraws_one OfProgram OfCouple id = refl
withdraws_one OfApplicant OfProgram id = refl
withdraws_one OfApplicant OfApplicant id = refl
withdraws_one OfApplicant OfCouple id = refl
withdraws_one OfCouple OfProgram id = refl
withdraws_one OfCouple OfApplicant id = refl
withdraws_one OfCouple OfCouple id = refl

one_more : (before : List Record) (kind : Kind) (id : Bytes) (k : Kind) → withdrawn k (before ++ WithdrawRecord kind id ∷ []) ≡ withdrawn k before ++ under kind id k
one_more before kind id k = withdrawn-more before (WithdrawRecord kind id) k ∙ ap (λ (ids : List Bytes). withdrawn k before ++ ids) (withdraws_one kind k id)

-- what holds of the ids of each kind still does with one of its kind at their end
with_one : (P : Kind → List Bytes → Type 0) (xs : Kind → List Bytes) (kind : Kind) (id : Bytes) → ((k : Kind) → P k (xs k)) → P kind (xs kind ++ id ∷ []) → (k : Kind) → P k (xs k ++ under kind id k)
with_one P xs OfProgram id all one OfProgram = one
with_one P xs OfProgram id all one OfApplicant = subst (P OfApplicant) (sym (append-nil (xs OfApplicant))) (all OfApplicant)
with_one P xs OfProgram id all one OfCouple = subst (P OfCouple) (sym (append-nil (xs OfCouple))) (all OfCouple)
with_one P xs OfApplicant id all one OfProgram = subst (P OfProgram) (sym (append-nil (xs OfProgram))) (all OfProgram)
with_one P xs OfApplicant id all one OfApplicant = one
with_one P xs OfApplicant id all one OfCouple = subst (P OfCouple) (sym (append-nil (xs OfCouple))) (all OfCouple)
with_one P xs OfCouple id all one OfProgram = subst (P OfProgram) (sym (append-nil (xs OfProgram))) (all OfProgram)
with_one P xs OfCouple id all one OfApplicant = subst (P OfApplicant) (sym (append-nil (xs OfApplicant))) (all OfApplicant)
with_one P xs OfCouple id all one OfCouple = one

pub one_withdrawn : (before : List Record) (w more : Kinds) (kind : Kind) (id : Bytes) → AreSoFar before w
    → has_id (ids_in w kind) id ≡ false → AddsId w more kind id → AreSoFar (before ++ WithdrawRecord kind id ∷ []) more
one_withdrawn before w more kind id are n adds = record {
  once = λ k.
      ap (all_differ bytes_eq) (one_more before kind id k)
      ∙ with_one (λ k xs. all_differ bytes_eq xs ≡ true) (λ x. withdrawn x before) kind id are.once
      (differ_push (withdrawn kind before) id (ap (λ (ids : List Bytes). has_id ids id) (sym (are.ids kind)) ∙ n) (are.once kind)) k;
  ids = λ k. adds k ∙ ap (λ (ids : List Bytes). ids ++ under kind id k) (are.ids k) ∙ sym (one_more before kind id k);
}

pub one_known : (knows : Kind → Bytes → Bool) (before : List Record) (kind : Kind) (id : Bytes) → AreKnown knows before → knows kind id ≡ true → AreKnown knows (before ++ WithdrawRecord kind id ∷ [])
one_known knows before kind id are i = λ k.
    ap (list_all (knows k)) (one_more before kind id k)
    ∙ with_one (λ k xs. list_all (knows k) xs ≡ true) (λ x. withdrawn x before) kind id are
    (list_all-append (knows kind) (withdrawn kind before) (id ∷ []) ∙ both _ _ (are kind) (both _ _ i refl)) k

-- a test of all kinds fails if that of some kind does
kind_fails : (test : Kind → Bool) (kind : Kind) → test kind ≡ false → (test OfProgram && test OfApplicant && test OfCouple) ≡ false
kind_fails test OfProgram h = rw h refl
kind_fails test OfApplicant h = rw (right_fails (test OfProgram) _ h) refl
kind_fails test OfCouple h = right_fails (test OfProgram && test OfApplicant) _ h

-- Below, one of all records is a withdrawal.
module _ (all before after : List Record) (kind : Kind) (id : Bytes) (are : before ++ WithdrawRecord kind id ∷ after ≡ all) where
  withdrawn_all : withdrawn kind all ≡ withdrawn kind before ++ id ∷ withdrawn kind after
  withdrawn_all = ap (withdrawn kind) (sym are) ∙ filter_map-append (withdrawn_id kind) before (WithdrawRecord kind id ∷ after) ∙ by kind
    where
      by : (k : Kind) → withdrawn k before ++ withdrawn k (WithdrawRecord k id ∷ after) ≡ withdrawn k before ++ id ∷ withdrawn k after
      by OfProgram = refl
      by OfApplicant = refl
      by OfCouple = refl

  -- of an id that fails the test of its kind
  pub unknown : (knows : Kind → Bytes → Bool) → knows kind id ≡ false → are_known knows all ≡ false
  unknown knows n =
      kind_fails (λ k. list_all (knows k) (withdrawn k all)) kind
      (ap (list_all (knows kind)) withdrawn_all ∙ unlisted (knows kind) (withdrawn kind before) id (withdrawn kind after) n)

  -- of one that was withdrawn before
  pub withdrawn_twice : has_id (withdrawn kind before) id ≡ true → are_once all ≡ false
  withdrawn_twice t =
      kind_fails (λ k. all_differ bytes_eq (withdrawn k all)) kind
      (ap (all_differ bytes_eq) withdrawn_all ∙ listed_twice (withdrawn kind before) id (withdrawn kind after) t)

-- what all records withdraw
pub all_withdrawn : (all : List Record) (w : Kinds) → AreSoFar all w → AreWithdrawn all w
all_withdrawn all w are = record { once = rw (are.once OfProgram, are.once OfApplicant, are.once OfCouple) refl; withdrawn = are.ids }

pub all_known : (knows : Kind → Bytes → Bool) (all : List Record) → AreKnown knows all → are_known knows all ≡ true
all_known knows all are = rw (are OfProgram, are OfApplicant, are OfCouple) refl

-- two tests that agree
pub known_by : (knows is : Kind → Bytes → Bool) → ((kind : Kind) (id : Bytes) → knows kind id ≡ is kind id) → (rs : List Record) → are_known knows rs ≡ are_known is rs
known_by knows is same rs = let e : knows ≡ is = λ i kind id. same kind id i in ap (λ test. are_known test rs) e

-- how many records there are of each sort
parts : (rs : List Record) → length rs + length (ids_of OfCouple rs) ≡ length (ids_of OfProgram rs) + length (applicant_ids rs) + length (filter is_withdrawal rs)
parts [] = refl
parts (ProgramRecord id quota list ∷ rs) = omega (arith, parts rs)
parts (ApplicantRecord id list ∷ rs) = omega (arith, parts rs)
parts (CoupleRecord id a b pairs ∷ rs) = omega (arith, parts rs)
parts (WithdrawRecord kind id ∷ rs) = omega (arith, parts rs)

pub fewer_couples : (rs : List Record) → length (ids_of OfCouple rs) ≤ length (applicant_ids rs)
fewer_couples [] = omega arith
fewer_couples (ProgramRecord id quota list ∷ rs) = fewer_couples rs
fewer_couples (ApplicantRecord id list ∷ rs) = omega (arith, fewer_couples rs)
fewer_couples (CoupleRecord id a b pairs ∷ rs) = omega (arith, fewer_couples rs)
fewer_couples (WithdrawRecord kind id ∷ rs) = fewer_couples rs

any_by_count : {X : Type 0} (p : X → Bool) (xs : List X) → (length (filter p xs) ≡ 0 → list_any p xs ≡ false) × ((length (filter p xs) ≡ 0 → ⊥) → list_any p xs ≡ true)
any_by_count p [] = ((λ h. refl), λ h. absurd (h refl))
any_by_count p (x ∷ xs) = by (p x) (any_by_count p xs)
  where
    by : (b : Bool) → (length (filter p xs) ≡ 0 → list_any p xs ≡ false) × ((length (filter p xs) ≡ 0 → ⊥) → list_any p xs ≡ true)
        → (length (cond b (x ∷ filter p xs) (filter p xs)) ≡ 0 → (b || list_any p xs) ≡ false) × ((length (cond b (x ∷ filter p xs) (filter p xs)) ≡ 0 → ⊥) → (b || list_any p xs) ≡ true)
    by true ih = ((λ h. absurd (omega (arith, h))), λ h. refl)
    by false ih = ih

module _ (rs : List Record) where
  abbrev registering : ℕ
  registering = length (ids_of OfProgram rs) + (length (applicant_ids rs) - length (ids_of OfCouple rs))

  pub within_all : registering ≤ length rs
  within_all = omega (arith, parts rs, fewer_couples rs)

  pub none_withdraws : length rs ≡ registering → list_any is_withdrawal rs ≡ false
  none_withdraws h = (any_by_count is_withdrawal rs).0 (omega (arith, h, parts rs, fewer_couples rs))

  pub one_withdraws : (length rs ≡ registering → ⊥) → list_any is_withdrawal rs ≡ true
  one_withdraws h = (any_by_count is_withdrawal rs).1 (λ z. h (omega (arith, z, parts rs, fewer_couples rs)))

-- records none of which withdraws
nothing_withdrawn : (rs : List Record) (kind : Kind) → list_any is_withdrawal rs ≡ false → withdrawn kind rs ≡ []
nothing_withdrawn [] kind h = refl
nothing_withdrawn (ProgramRecord id quota list ∷ rs) OfProgram h = nothing_withdrawn rs OfProgram h
nothing_withdrawn (ProgramRecord id quota list ∷ rs) OfApplicant h = nothing_withdrawn rs OfApplicant h
nothing_withdrawn (ProgramRecord id quota list ∷ rs) OfCouple h = nothing_withdrawn rs OfCouple h
nothing_withdrawn (ApplicantRecord id list ∷ rs) OfProgram h = nothing_withdrawn rs OfProgram h
nothing_withdrawn (ApplicantRecord id list ∷ rs) OfApplicant h = nothing_withdrawn rs OfApplicant h
nothing_withdrawn (ApplicantRecord id list ∷ rs) OfCouple h = nothing_withdrawn rs OfCouple h
nothing_withdrawn (CoupleRecord id a b pairs ∷ rs) OfProgram h = nothing_withdrawn rs OfProgram h
nothing_withdrawn (CoupleRecord id a b pairs ∷ rs) OfApplicant h = nothing_withdrawn rs OfApplicant h
nothing_withdrawn (CoupleRecord id a b pairs ∷ rs) OfCouple h = nothing_withdrawn rs OfCouple h
nothing_withdrawn (WithdrawRecord k id ∷ rs) kind h = cc

all_stay : (rs : List Record) → list_any is_withdrawal rs ≡ false → filter (stays_without [] [] []) rs ≡ rs
all_stay [] h = refl
all_stay (ProgramRecord id quota list ∷ rs) h = ap (λ (xs : List Record). ProgramRecord id quota list ∷ xs) (all_stay rs h)
all_stay (ApplicantRecord id list ∷ rs) h = ap (λ (xs : List Record). ApplicantRecord id list ∷ xs) (all_stay rs h)
all_stay (CoupleRecord id a b pairs ∷ rs) h = ap (λ (xs : List Record). CoupleRecord id a b pairs ∷ xs) (all_stay rs h)
all_stay (WithdrawRecord k id ∷ rs) h = cc

-- the length of an empty list, by the test
pub no_length : (n : ℕ) (b : Bool) → b ≡ (n == 0) → b ≡ true → n ≡ 0
no_length n b e t = grind (arith, nat_tests)

-- These are the records, or none of them if none withdraws.
abbrev pub AreWithdrawing : List Checked → List Checked → Type 0
AreWithdrawing records ws = ws ≡ (if list_any is_withdrawal (all_seen records) then records else [])

pub found_withdrawing : (given records ws : List Checked) → given ≡ records → AreWithdrawing given ws → AreWithdrawing records ws
found_withdrawing given records ws e are = subst (λ (xs : List Checked). AreWithdrawing xs ws) e are

module _ (records ws : List Checked) (are : AreWithdrawing records ws) where
  pub same_withdrawals : (kind : Kind) → withdrawn kind (all_seen ws) ≡ withdrawn kind (all_seen records)
  same_withdrawals kind = ap (λ (xs : List Checked). withdrawn kind (all_seen xs)) are ∙ by (list_any is_withdrawal (all_seen records)) (nothing_withdrawn (all_seen records) kind)
    where
      by : (b : Bool) → (b ≡ false → withdrawn kind (all_seen records) ≡ []) → withdrawn kind (all_seen (if b then records else [])) ≡ withdrawn kind (all_seen records)
      by true none = refl
      by false none = nothing_withdrawn [] kind refl ∙ sym (none refl)

  pub same_once : are_once (all_seen ws) ≡ are_once (all_seen records)
  same_once =
      let e : (λ (kind : Kind). withdrawn kind (all_seen ws)) ≡ (λ (kind : Kind). withdrawn kind (all_seen records)) = λ i kind. same_withdrawals kind i in
      ap (λ (w : Kind → List Bytes). all_differ bytes_eq (w OfProgram) && all_differ bytes_eq (w OfApplicant) && all_differ bytes_eq (w OfCouple)) e

  pub same_known : (knows : Kind → Bytes → Bool) → are_known knows (all_seen ws) ≡ are_known knows (all_seen records)
  same_known knows =
      let e : (λ (kind : Kind). withdrawn kind (all_seen ws)) ≡ (λ (kind : Kind). withdrawn kind (all_seen records)) = λ i kind. same_withdrawals kind i in
      ap (λ (w : Kind → List Bytes). list_all (knows OfProgram) (w OfProgram) && list_all (knows OfApplicant) (w OfApplicant) && list_all (knows OfCouple) (w OfCouple)) e

  pub withdrawn_of_all : (w : Kinds) → AreWithdrawn (all_seen ws) w → AreWithdrawn (all_seen records) w
  withdrawn_of_all w them = record { once = sym same_once ∙ them.once; withdrawn = λ kind. them.withdrawn kind ∙ same_withdrawals kind }

  -- if there are none of them, all records stay
  pub stay_all : length ws ≡ 0 → (w : Kinds) → AreWithdrawn (all_seen ws) w → all_seen records ≡ filter (stays_after w) (all_seen records)
  stay_all none w them = by (list_any is_withdrawal (all_seen records)) refl are
    where
      by : (b : Bool) → list_any is_withdrawal (all_seen records) ≡ b → ws ≡ (if b then records else []) → all_seen records ≡ filter (stays_after w) (all_seen records)
      by true some same = let gone : records ≡ [] = nil_of records (ap length (sym same) ∙ none) in rw gone refl
      by false nobody same =
          let empty : (kind : Kind) → ids_in w kind ≡ [] = λ kind. them.withdrawn kind ∙ ap (λ (xs : List Checked). withdrawn kind (all_seen xs)) same ∙ nothing_withdrawn [] kind refl in
          let p : w.programs ≡ [] = empty OfProgram in
          let a : w.applicants ≡ [] = empty OfApplicant in
          let c : w.couples ≡ [] = empty OfCouple in
          rw (p, a, c) (sym (all_stay (all_seen records) nobody))

-- if no program is withdrawn, the new numbers of programs are their places
programs_from : (n : ℕ) (a c : List Bytes) (rs : List Record) → new_numbers n (program_flags (stays_without [] a c) rs) ≡ map Some (range_with_len n (length (ids_of OfProgram rs)))
programs_from n a c [] = refl
programs_from n a c (ProgramRecord id quota list ∷ rs) = ap (λ (ks : List (Option ℕ)). Some n ∷ ks) (programs_from (n + 1) a c rs)
programs_from n a c (ApplicantRecord id list ∷ rs) = programs_from n a c rs
programs_from n a c (CoupleRecord id first second pairs ∷ rs) = programs_from n a c rs
programs_from n a c (WithdrawRecord kind id ∷ rs) = programs_from n a c rs

pub programs_in_place : (w : Kinds) (rs : List Record) → length w.programs ≡ 0
    → map Some (below (length (ids_of OfProgram rs))) ≡ new_numbers 0 (program_flags (stays_after w) rs)
programs_in_place w rs none =
    sym (programs_from 0 w.applicants w.couples rs)
    ∙ ap (λ (p : List Bytes). new_numbers 0 (program_flags (stays_without p w.applicants w.couples) rs)) (sym (nil_of w.programs none))

-- the same of applicants, if no single and no couple is withdrawn
applicants_from : (n : ℕ) (p : List Bytes) (rs : List Record) → new_numbers n (applicant_flags (stays_without p [] []) rs) ≡ map Some (range_with_len n (length (applicant_ids rs)))
applicants_from n p [] = refl
applicants_from n p (ProgramRecord id quota list ∷ rs) = applicants_from n p rs
applicants_from n p (ApplicantRecord id list ∷ rs) = ap (λ (ks : List (Option ℕ)). Some n ∷ ks) (applicants_from (n + 1) p rs)
applicants_from n p (CoupleRecord id first second pairs ∷ rs) = ap (λ (ks : List (Option ℕ)). Some n ∷ Some (n + 1) ∷ ks) (applicants_from (n + 1 + 1) p rs)
applicants_from n p (WithdrawRecord kind id ∷ rs) = applicants_from n p rs

pub applicants_in_place : (w : Kinds) (rs : List Record) → length w.applicants ≡ 0 → length w.couples ≡ 0
    → map Some (below (length (applicant_ids rs))) ≡ new_numbers 0 (applicant_flags (stays_after w) rs)
applicants_in_place w rs singles couples =
    sym (applicants_from 0 w.programs rs)
    ∙ ap₂ (λ (a c : List Bytes). new_numbers 0 (applicant_flags (stays_without w.programs a c) rs)) (sym (nil_of w.applicants singles)) (sym (nil_of w.couples couples))

-- a Bool by its opposite
pub was_true : (b : Bool) → not b ≡ false → b ≡ true
was_true true h = refl
was_true false h = cc

pub was_false : (b : Bool) → not b ≡ true → b ≡ false
was_false true h = cc
was_false false h = refl
