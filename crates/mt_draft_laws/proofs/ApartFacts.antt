-- Records that don't conflict with one another.
use Rattle.std.proofs.Common.{◌≡◌, ℕ, ◌+◌, Bool, true, false, not, ◌&&◌, ◌||◌, nat_lt, List, [], ◌∷◌, ◌++◌, length, length-append, Option, Some, None, refl, ap, sym, ◌∙◌, arith, cond}
use Rattle.std.specs.Prelude.{bytes_eq, is_none, option_to_list}
use Rattle.std.proofs.lemmas.Bool.{and_parts, not-true, and_from, or_parts}
use Rattle.std.proofs.lemmas.Bool.Decides.{nat_tests}
use Rattle.std.proofs.lemmas.List.{append-nil, append_assoc}
use Rattle.std.proofs.lemmas.List.Elements.{filter_map-append}
use Rattle.std.proofs.lemmas.List.Folds.{list_any-append}
use Rattle.std.proofs.lemmas.List.Sums.{sum_by-append}
use Rattle.std.proofs.lemmas.Grind.{flat_map-append}
use Rattle.mt_terms.specs.declared.limits.Limits.{Limits}
use Rattle.mt_terms.specs.Registration.Ids.{Bytes, has_id, all_differ}
use Rattle.mt_terms.specs.Registration.Records.{Record, ProgramRecord, ApplicantRecord, CoupleRecord, WithdrawRecord, OfProgram, OfApplicant, OfCouple}
use Rattle.mt_terms.specs.Registration.Rows.{own_id, ids_of, withdrawn_id, withdrawn, applicants_of, applicant_ids, entries_of, entry_count}
use Rattle.mt_terms.specs.Registration.Passes.{is_same_pair, registered_before, says_twice, are_too_many, first_of, first_in}
use Rattle.mt_draft_laws.specs.Faultless.{ids_differ}
use Rattle.mt_record_laws.proofs.GrowthFacts.{applicant_ids-more, ids_of-more, withdrawn-more}
use Rattle.mt_record_laws.proofs.IdFacts.{differ_join}
use Rattle.mt_terms.proofs.IdFacts.{differ_parts, bytes_eq_sym}

-- whether nothing is withdrawn twice
abbrev pub withdrawn_once : List Record → Bool
withdrawn_once rs = all_differ bytes_eq (withdrawn OfProgram rs) && all_differ bytes_eq (withdrawn OfApplicant rs) && all_differ bytes_eq (withdrawn OfCouple rs)

-- whether no id or pair stands twice in the list of a record
abbrev pub lists_once : Record → Bool
lists_once (ProgramRecord id quota list) = all_differ bytes_eq list
lists_once (ApplicantRecord id list) = all_differ bytes_eq list
lists_once (CoupleRecord id a b pairs) = all_differ is_same_pair pairs
lists_once (WithdrawRecord kind id) = true

-- records of which no id is registered twice, nothing is withdrawn twice, and that are not too many
pub record AreApart (limits : Limits) (rs : List Record) : Type 0 where
  pub ids : ids_differ rs ≡ true
  pub withdrawals : withdrawn_once rs ≡ true
  pub few : are_too_many limits rs ≡ false

-- of no records none conflict
pub none_apart : (limits : Limits) → AreApart limits []
none_apart limits = record { ids = refl; withdrawals = refl; few = none limits.applicants limits.programs limits.couples limits.entries }
  where
    none : (a p c e : ℕ) → (nat_lt a 0 || nat_lt p 0 || nat_lt c 0 || nat_lt e 0) ≡ false
    none a p c e = grind (arith, nat_tests)

differ-more : (xs : List Bytes) (x : Bytes) → all_differ bytes_eq (xs ++ x ∷ []) ≡ (all_differ bytes_eq xs && not (has_id xs x))
differ-more [] x = refl
differ-more (y ∷ ys) x =
    by (has_id ys y) (bytes_eq x y) (all_differ bytes_eq ys) (has_id ys x)
    (list_any-append (bytes_eq y) ys (x ∷ []) ∙ ap (λ e. has_id ys y || (e || false)) (bytes_eq_sym y x)) (differ-more ys x)
  where
    by : (h e d n : Bool) {there rest : Bool} → there ≡ (h || (e || false)) → rest ≡ (d && not n) → (not there && rest) ≡ (not h && d && not (e || n))
    by h e d n i j = grind arith

differ-two : (xs : List Bytes) (x y : Bytes) → all_differ bytes_eq (xs ++ x ∷ y ∷ []) ≡ (all_differ bytes_eq xs && not (has_id xs x) && not (bytes_eq y x || has_id xs y))
differ-two xs x y =
    ap (all_differ bytes_eq) (sym (append_assoc xs (x ∷ []) (y ∷ []))) ∙ differ-more (xs ++ x ∷ []) y
    ∙ by (all_differ bytes_eq xs) (has_id xs x) (bytes_eq y x) (has_id xs y) (differ-more xs x) (list_any-append (bytes_eq y) xs (x ∷ []))
  where
    by : (d h e n : Bool) {front last : Bool} → front ≡ (d && not h) → last ≡ (n || (e || false)) → (front && not last) ≡ (d && not h && not (e || n))
    by d h e n i j = grind arith

-- three lists of ids, of which one has an id more
module _ (xs ys zs : List Bytes) where
  abbrev three_differ : Bool
  three_differ = all_differ bytes_eq xs && all_differ bytes_eq ys && all_differ bytes_eq zs

  more_first : (x : Bytes) → (all_differ bytes_eq (xs ++ x ∷ []) && all_differ bytes_eq (ys ++ []) && all_differ bytes_eq (zs ++ [])) ≡ (three_differ && not (has_id xs x))
  more_first x = rw (append-nil ys, append-nil zs, differ-more xs x) (by (all_differ bytes_eq xs) (all_differ bytes_eq ys) (all_differ bytes_eq zs) (not (has_id xs x)))
    where
      by : (a b c n : Bool) → (a && n && b && c) ≡ (a && b && c && n)
      by a b c n = grind arith

  more_second : (y : Bytes) → (all_differ bytes_eq (xs ++ []) && all_differ bytes_eq (ys ++ y ∷ []) && all_differ bytes_eq (zs ++ [])) ≡ (three_differ && not (has_id ys y))
  more_second y = rw (append-nil xs, append-nil zs, differ-more ys y) (by (all_differ bytes_eq xs) (all_differ bytes_eq ys) (all_differ bytes_eq zs) (not (has_id ys y)))
    where
      by : (a b c n : Bool) → (a && (b && n) && c) ≡ (a && b && c && n)
      by a b c n = grind arith

  more_third : (z : Bytes) → (all_differ bytes_eq (xs ++ []) && all_differ bytes_eq (ys ++ []) && all_differ bytes_eq (zs ++ z ∷ [])) ≡ (three_differ && not (has_id zs z))
  more_third z = rw (append-nil xs, append-nil ys, differ-more zs z) (by (all_differ bytes_eq xs) (all_differ bytes_eq ys) (all_differ bytes_eq zs) (not (has_id zs z)))
    where
      by : (a b c n : Bool) → (a && b && (c && n)) ≡ (a && b && c && n)
      by a b c n = grind arith

  more_none : (all_differ bytes_eq (xs ++ []) && all_differ bytes_eq (ys ++ []) && all_differ bytes_eq (zs ++ [])) ≡ three_differ
  more_none = rw (append-nil xs, append-nil ys, append-nil zs) refl

  more_couple : (x y z : Bytes) → (all_differ bytes_eq (xs ++ []) && all_differ bytes_eq (ys ++ x ∷ y ∷ []) && all_differ bytes_eq (zs ++ z ∷ []))
      ≡ (three_differ && is_none (first_of (first_in zs (z ∷ []) ∷ first_in ys (x ∷ []) ∷ first_in (x ∷ ys) (y ∷ []) ∷ [])))
  more_couple x y z =
      rw (append-nil xs, differ-two ys x y, differ-more zs z)
      (by (all_differ bytes_eq xs) (all_differ bytes_eq ys) (all_differ bytes_eq zs) (has_id zs z) (has_id ys x) (has_id (x ∷ ys) y))
    where
      by : (a b c h i j : Bool) → (a && (b && not i && not j) && (c && not h)) ≡ (a && b && c && is_none (first_of (cond h (Some z) None ∷ cond i (Some x) None ∷ cond j (Some y) None ∷ [])))
      by a b c true i j = grind arith
      by a b c false true j = grind arith
      by a b c false false true = grind arith
      by a b c false false false = grind arith

-- a record more
module _ (before : List Record) where
  -- it registers none of the ids before it
  pub ids_differ-more : (r : Record) → ids_differ (before ++ r ∷ []) ≡ (ids_differ before && is_none (registered_before before r))
  ids_differ-more r = rw (ids_of-more before r OfProgram, ids_of-more before r OfCouple, applicant_ids-more before r) (by r)
    where
      programs : List Bytes
      programs = ids_of OfProgram before

      applicants : List Bytes
      applicants = applicant_ids before

      couples : List Bytes
      couples = ids_of OfCouple before

      new : (d h : Bool) (id : Bytes) → (d && not h) ≡ (d && is_none (cond h (Some id) None))
      new d true id = refl
      new d false id = refl

      always : (d : Bool) → d ≡ (d && true)
      always true = refl
      always false = refl

      by : (r : Record)
          → (all_differ bytes_eq (programs ++ option_to_list (own_id OfProgram r)) && all_differ bytes_eq (applicants ++ applicants_of r) && all_differ bytes_eq (couples ++ option_to_list (own_id OfCouple r)))
          ≡ (ids_differ before && is_none (registered_before before r))
      by (ProgramRecord id quota list) = more_first programs applicants couples id ∙ new (ids_differ before) (has_id programs id) id
      by (ApplicantRecord id list) = more_second programs applicants couples id ∙ new (ids_differ before) (has_id applicants id) id
      by (CoupleRecord id a b pairs) = more_couple programs applicants couples a b id
      by (WithdrawRecord kind id) = more_none programs applicants couples ∙ always (ids_differ before)

  -- it withdraws none of what those before it do
  pub withdrawn_once-more : (r : Record) → (withdrawn_once (before ++ r ∷ []) && lists_once r) ≡ (withdrawn_once before && not (says_twice before r))
  withdrawn_once-more r = rw (withdrawn-more before r OfProgram, withdrawn-more before r OfApplicant, withdrawn-more before r OfCouple) (by r)
    where
      programs : List Bytes
      programs = withdrawn OfProgram before

      applicants : List Bytes
      applicants = withdrawn OfApplicant before

      couples : List Bytes
      couples = withdrawn OfCouple before

      same : (d e h : Bool) → e ≡ d → (e && h) ≡ (d && not (not h))
      same d e true k = ap (λ b. b && true) k
      same d e false k = ap (λ b. b && false) k

      new : (d n e : Bool) → e ≡ (d && n) → (e && true) ≡ (d && n)
      new d n true k = k
      new d n false k = k

      by : (r : Record)
          → (all_differ bytes_eq (programs ++ option_to_list (withdrawn_id OfProgram r)) && all_differ bytes_eq (applicants ++ option_to_list (withdrawn_id OfApplicant r)) && all_differ bytes_eq (couples ++ option_to_list (withdrawn_id OfCouple r)) && lists_once r)
          ≡ (withdrawn_once before && not (says_twice before r))
      by (ProgramRecord id quota list) = same (withdrawn_once before) _ (all_differ bytes_eq list) (more_none programs applicants couples)
      by (ApplicantRecord id list) = same (withdrawn_once before) _ (all_differ bytes_eq list) (more_none programs applicants couples)
      by (CoupleRecord id a b pairs) = same (withdrawn_once before) _ (all_differ is_same_pair pairs) (more_none programs applicants couples)
      by (WithdrawRecord OfProgram id) = new (withdrawn_once before) (not (has_id programs id)) _ (more_first programs applicants couples id)
      by (WithdrawRecord OfApplicant id) = new (withdrawn_once before) (not (has_id applicants id)) _ (more_second programs applicants couples id)
      by (WithdrawRecord OfCouple id) = new (withdrawn_once before) (not (has_id couples id)) _ (more_third programs applicants couples id)

-- A record that can stand after those before it: it registers no id of theirs, it says nothing twice, and with it they are not
-- too many.
pub record CanFollow (limits : Limits) (before : List Record) (r : Record) : Type 0 where
  pub new : registered_before before r ≡ None
  pub once : says_twice before r ≡ false
  pub few : are_too_many limits (before ++ r ∷ []) ≡ false

-- with such a record more, records stay apart, and its list has nothing twice; if that is so, it is such a record
module _ (limits : Limits) (before : List Record) (r : Record) where
  pub apart_more : AreApart limits before → CanFollow limits before r → AreApart limits (before ++ r ∷ []) × (lists_once r ≡ true)
  apart_more apart follows =
      let w : withdrawn_once (before ++ r ∷ []) && lists_once r ≡ true = withdrawn_once-more before r ∙ rw (apart.withdrawals, follows.once) refl in
      let q : (withdrawn_once (before ++ r ∷ []) ≡ true) × (lists_once r ≡ true) = and_parts (withdrawn_once (before ++ r ∷ [])) (lists_once r) w in
      (record { ids = ids_differ-more before r ∙ rw (apart.ids, follows.new) refl; withdrawals = q.0; few = follows.few }, q.1)

  pub can_follow : AreApart limits (before ++ r ∷ []) → lists_once r ≡ true → CanFollow limits before r
  can_follow apart once =
      let i : ids_differ before && is_none (registered_before before r) ≡ true = sym (ids_differ-more before r) ∙ apart.ids in
      let w : withdrawn_once before && not (says_twice before r) ≡ true = sym (withdrawn_once-more before r) ∙ and_from _ _ apart.withdrawals once in
      record {
        new = none (registered_before before r) (and_parts (ids_differ before) _ i).1;
        once = not-true (says_twice before r) (and_parts (withdrawn_once before) _ w).1;
        few = apart.few;
      }
    where
      none : (o : Option Bytes) → is_none o ≡ true → o ≡ None
      none None h = refl
      none (Some id) h = cc

-- the first of records that are apart
differ_front : (xs ys : List Bytes) → all_differ bytes_eq (xs ++ ys) ≡ true → all_differ bytes_eq xs ≡ true
differ_front [] ys h = refl
differ_front (x ∷ xs) ys h =
    let p : (has_id (xs ++ ys) x ≡ false) × (all_differ bytes_eq (xs ++ ys) ≡ true) = differ_parts x (xs ++ ys) h in
    let n : (has_id xs x ≡ false) × (has_id ys x ≡ false) = or_parts (has_id xs x) (has_id ys x) (sym (list_any-append (bytes_eq x) xs ys) ∙ p.0) in
    differ_join x xs n.0 (differ_front xs ys p.1)

three_front : (xs xs' ys ys' zs zs' : List Bytes) → three_differ (xs ++ xs') (ys ++ ys') (zs ++ zs') ≡ true → three_differ xs ys zs ≡ true
three_front xs xs' ys ys' zs zs' h =
    let p : (all_differ bytes_eq (xs ++ xs') && all_differ bytes_eq (ys ++ ys') ≡ true) × (all_differ bytes_eq (zs ++ zs') ≡ true) = and_parts (all_differ bytes_eq (xs ++ xs') && all_differ bytes_eq (ys ++ ys')) _ h in
    let q : (all_differ bytes_eq (xs ++ xs') ≡ true) × (all_differ bytes_eq (ys ++ ys') ≡ true) = and_parts (all_differ bytes_eq (xs ++ xs')) _ p.0 in
    rw (differ_front xs xs' q.0, differ_front ys ys' q.1, differ_front zs zs' p.1) refl

few_front : (limit n m all : ℕ) → all ≡ n + m → nat_lt limit all ≡ false → nat_lt limit n ≡ false
few_front limit n m all e h = grind (arith, nat_tests)

module _ (limits : Limits) (before rest : List Record) where
  few_before : are_too_many limits (before ++ rest) ≡ false → are_too_many limits before ≡ false
  few_before h =
      let all : List Record = before ++ rest in
      let p = or_parts (nat_lt limits.applicants (length (applicant_ids all)) || nat_lt limits.programs (length (ids_of OfProgram all)) || nat_lt limits.couples (length (ids_of OfCouple all))) (nat_lt limits.entries (entry_count all)) h in
      let q = or_parts (nat_lt limits.applicants (length (applicant_ids all)) || nat_lt limits.programs (length (ids_of OfProgram all))) (nat_lt limits.couples (length (ids_of OfCouple all))) p.0 in
      let t = or_parts (nat_lt limits.applicants (length (applicant_ids all))) (nat_lt limits.programs (length (ids_of OfProgram all))) q.0 in
      let a = few_front _ (length (applicant_ids before)) _ _ (ap length (flat_map-append applicants_of before rest) ∙ length-append (applicant_ids before) (applicant_ids rest)) t.0 in
      let b = few_front _ (length (ids_of OfProgram before)) _ _ (ap length (filter_map-append (own_id OfProgram) before rest) ∙ length-append (ids_of OfProgram before) (ids_of OfProgram rest)) t.1 in
      let c = few_front _ (length (ids_of OfCouple before)) _ _ (ap length (filter_map-append (own_id OfCouple) before rest) ∙ length-append (ids_of OfCouple before) (ids_of OfCouple rest)) q.1 in
      let d = few_front _ (entry_count before) _ _ (sum_by-append entries_of before rest) p.1 in
      rw (a, b, c, d) refl

  pub apart_front : AreApart limits (before ++ rest) → AreApart limits before
  apart_front apart = record {
    ids = three_front (ids_of OfProgram before) (ids_of OfProgram rest) (applicant_ids before) (applicant_ids rest) (ids_of OfCouple before) (ids_of OfCouple rest)
        (rw (← filter_map-append (own_id OfProgram) before rest, ← filter_map-append (own_id OfCouple) before rest, ← flat_map-append applicants_of before rest) apart.ids);
    withdrawals = three_front (withdrawn OfProgram before) (withdrawn OfProgram rest) (withdrawn OfApplicant before) (withdrawn OfApplicant rest) (withdrawn OfCouple before) (withdrawn OfCouple rest)
        (rw (← filter_map-append (withdrawn_id OfProgram) before rest, ← filter_map-append (withdrawn_id OfApplicant) before rest, ← filter_map-append (withdrawn_id OfCouple) before rest) apart.withdrawals);
    few = few_before apart.few;
  }
