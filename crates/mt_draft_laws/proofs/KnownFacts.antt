-- Records of which each names registered ids alone.
use Rattle.std.proofs.Common.{◌≡◌, ℕ, Bool, true, false, not, ◌&&◌, ◌||◌, List, [], ◌∷◌, map, Option, Some, None, refl, ap, sym, ◌∙◌, subst, arith, cond, flat_map}
use Rattle.std.specs.Prelude.{bytes_eq, is_none, option_map, option_to_list}
use Rattle.std.specs.List.{list_all}
use Rattle.std.proofs.lemmas.Bool.{and_parts, not-true, and_from}
use Rattle.std.proofs.lemmas.List.Folds.{list_all-append}
use Rattle.mt_terms.specs.Registration.Ids.{Bytes, is_id, has_id, all_differ}
use Rattle.mt_terms.specs.Registration.Faults.{RecordFault, record_fault, fault_at}
use Rattle.mt_terms.specs.declared.codes.TheConstants.{UNKNOWN_APPLICANT, UNKNOWN_PROGRAM, NOT_REGISTERED}
use Rattle.mt_terms.specs.Registration.Records.{Rules, Record, ProgramRecord, ApplicantRecord, CoupleRecord, WithdrawRecord, Kind, OfProgram, OfApplicant, OfCouple, IdPair}
use Rattle.mt_terms.specs.Registration.Rows.{ids_of, applicant_ids, withdrawn}
use Rattle.mt_terms.specs.Registration.Passes.{Numbered, contents, first_of, first_not_in, unknown_id, named, are_too_many, is_same_pair}
use Rattle.mt_terms.specs.Registration.Numbering.{is_none_or_in, names_only}
use Rattle.mt_draft_laws.specs.Faultless.{ids_differ, ranking_stands, list_stands, is_allowed, pair_stands, pairs_stand, withdrawals_stand, is_faultless}
use Rattle.mt_terms.proofs.IdFacts.{same_id}
use Rattle.mt_draft_laws.proofs.ApartFacts.{withdrawn_once, lists_once, AreApart}
use Rattle.mt_draft_laws.proofs.DraftFacts.{lists_ids, registers_ids, is_none_or_id, is_id_pair, programs_ids, applicants_ids}

-- a list none of whose ids is unknown
first_not_in-none : (ids list : List Bytes) → is_none (first_not_in ids list) ≡ list_all (has_id ids) list
first_not_in-none ids [] = refl
first_not_in-none ids (x ∷ xs) = by (has_id ids x) (first_not_in-none ids xs)
  where
    by : (b : Bool) → is_none (first_not_in ids xs) ≡ list_all (has_id ids) xs → is_none (cond (not b) (Some x) (first_not_in ids xs)) ≡ (b && list_all (has_id ids) xs)
    by true ih = ih
    by false ih = refl

charged-none : (code : ℕ) (o : Option Bytes) → is_none (option_map (record_fault code) o) ≡ is_none o
charged-none code None = refl
charged-none code (Some id) = refl

-- the same of a list of pairs
and_true : (b : Bool) → (b && true) ≡ b
and_true true = refl
and_true false = refl

place-known : (ids : List Bytes) (o : Option Bytes) → list_all (has_id ids) (option_to_list o) ≡ is_none_or_in ids o
place-known ids None = refl
place-known ids (Some id) = and_true (has_id ids id)

pair-known : (ids : List Bytes) (p : IdPair) → list_all (has_id ids) (named p) ≡ names_only ids p
pair-known ids p = list_all-append (has_id ids) (option_to_list p.0) (option_to_list p.1) ∙ rw (place-known ids p.0, place-known ids p.1) refl

pairs-known : (ids : List Bytes) (ps : List IdPair) → list_all (has_id ids) (flat_map named ps) ≡ list_all (names_only ids) ps
pairs-known ids [] = refl
pairs-known ids (p ∷ ps) = list_all-append (has_id ids) (named p) (flat_map named ps) ∙ rw (pair-known ids p, pairs-known ids ps) refl

two_true : (b : Bool) → (b && true && true) ≡ b
two_true b = and_true (b && true) ∙ and_true b

three_true : (b : Bool) → (b && true && true && true) ≡ b
three_true b = and_true (b && true && true) ∙ two_true b

-- whether a record names registered ids alone
abbrev pub is_known : List Record → Record → Bool
is_known all r = is_none (unknown_id all r)

-- whether the pairs of a couple are allowed
abbrev pub allows_pairs : Bool → Record → Bool
allows_pairs half_pairs (CoupleRecord id a b pairs) = list_all (is_allowed half_pairs) pairs
allows_pairs half_pairs _ = true

-- whether what a record withdraws is registered
abbrev pub withdraws_known : List Record → Record → Bool
withdraws_known all (WithdrawRecord kind id) = has_id (ids_of kind all) id
withdraws_known all _ = true

-- the second pass finds nothing if each record does
pub second-none : (unknown : Record → Option RecordFault) (ns : List (Numbered Record))
    → is_none (first_of (map (λ r. option_map (fault_at r.0) (unknown r.1)) ns)) ≡ list_all (λ r. is_none (unknown r)) (contents ns)
second-none unknown [] = refl
second-none unknown (n ∷ ns) = by (unknown n.1) (second-none unknown ns)
  where
    by : (o : Option RecordFault) → is_none (first_of (map (λ r. option_map (fault_at r.0) (unknown r.1)) ns)) ≡ list_all (λ r. is_none (unknown r)) (contents ns)
        → is_none (first_of (option_map (fault_at n.0) o ∷ map (λ r. option_map (fault_at r.0) (unknown r.1)) ns)) ≡ (is_none o && list_all (λ r. is_none (unknown r)) (contents ns))
    by None ih = ih
    by (Some c) ih = refl

module _ (all : List Record) where
  -- for each kind of record
  program-known : (id : Bytes) (quota : ℕ) (list : List Bytes) → is_known all (ProgramRecord id quota list) ≡ list_all (has_id (applicant_ids all)) list
  program-known id quota list = charged-none UNKNOWN_APPLICANT (first_not_in (applicant_ids all) list) ∙ first_not_in-none (applicant_ids all) list

  applicant-known : (id : Bytes) (list : List Bytes) → is_known all (ApplicantRecord id list) ≡ list_all (has_id (ids_of OfProgram all)) list
  applicant-known id list = charged-none UNKNOWN_PROGRAM (first_not_in (ids_of OfProgram all) list) ∙ first_not_in-none (ids_of OfProgram all) list

  couple-known : (id a b : Bytes) (pairs : List IdPair) → is_known all (CoupleRecord id a b pairs) ≡ list_all (names_only (ids_of OfProgram all)) pairs
  couple-known id a b pairs =
      charged-none UNKNOWN_PROGRAM (first_not_in (ids_of OfProgram all) (flat_map named pairs)) ∙ first_not_in-none (ids_of OfProgram all) (flat_map named pairs)
      ∙ pairs-known (ids_of OfProgram all) pairs

  withdrawal-known : (kind : Kind) (id : Bytes) → is_known all (WithdrawRecord kind id) ≡ has_id (ids_of kind all) id
  withdrawal-known kind id =
      charged-none NOT_REGISTERED (first_not_in (ids_of kind all) (id ∷ [])) ∙ first_not_in-none (ids_of kind all) (id ∷ []) ∙ and_true (has_id (ids_of kind all) id)

  -- a record whose list stands names registered ids alone, and none twice, and its pairs are allowed
  pairs-stand : (half_pairs : Bool) (programs : List Bytes) (ps : List IdPair)
      → list_all (pair_stands half_pairs programs) ps ≡ (list_all (is_allowed half_pairs) ps && list_all (names_only programs) ps)
  pairs-stand half_pairs programs [] = refl
  pairs-stand half_pairs programs (p ∷ ps) = ap (λ b. pair_stands half_pairs programs p && b) (pairs-stand half_pairs programs ps)
      ∙ by (is_allowed half_pairs p) (names_only programs p) (list_all (is_allowed half_pairs) ps) (list_all (names_only programs) ps)
    where
      by : (a n c d : Bool) → ((a && n) && (c && d)) ≡ ((a && c) && (n && d))
      by a n c d = grind arith

  stands : (half_pairs : Bool) (r : Record)
      → (ranking_stands (applicant_ids all) r && list_stands (ids_of OfProgram all) r && pairs_stand half_pairs (ids_of OfProgram all) r && withdraws_known all r)
      ≡ (is_known all r && lists_once r && allows_pairs half_pairs r)
  stands half_pairs (ProgramRecord id quota list) = three_true (list_all (has_id (applicant_ids all)) list && all_differ bytes_eq list) ∙ rw (← program-known id quota list) (sym (and_true _))
  stands half_pairs (ApplicantRecord id list) = two_true (list_all (has_id (ids_of OfProgram all)) list && all_differ bytes_eq list) ∙ rw (← applicant-known id list) (sym (and_true _))
  stands half_pairs (CoupleRecord id a b pairs) =
      and_true (list_all (pair_stands half_pairs (ids_of OfProgram all)) pairs && all_differ is_same_pair pairs)
      ∙ ap (λ t. t && all_differ is_same_pair pairs) (pairs-stand half_pairs (ids_of OfProgram all) pairs)
      ∙ by (list_all (is_allowed half_pairs) pairs) (list_all (names_only (ids_of OfProgram all)) pairs) (all_differ is_same_pair pairs)
      ∙ ap (λ t. t && all_differ is_same_pair pairs && list_all (is_allowed half_pairs) pairs) (sym (couple-known id a b pairs))
    where
      by : (a n d : Bool) → ((a && n) && d) ≡ (n && d && a)
      by a n d = grind arith
  stands half_pairs (WithdrawRecord kind id) = sym (withdrawal-known kind id) ∙ sym (two_true (is_known all (WithdrawRecord kind id)))

  -- the withdrawals of records, by kind
  abbrev known_among : Kind → List Record → Bool
  known_among kind rs = list_all (has_id (ids_of kind all)) (withdrawn kind rs)

  withdraws-known : (rs : List Record) → list_all (withdraws_known all) rs ≡ (known_among OfProgram rs && known_among OfApplicant rs && known_among OfCouple rs)
  withdraws-known [] = refl
  withdraws-known (ProgramRecord id quota list ∷ rs) = withdraws-known rs
  withdraws-known (ApplicantRecord id list ∷ rs) = withdraws-known rs
  withdraws-known (CoupleRecord id a b pairs ∷ rs) = withdraws-known rs
  withdraws-known (WithdrawRecord kind id ∷ rs) = ap (λ b. has_id (ids_of kind all) id && b) (withdraws-known rs) ∙ by kind
    where
      first : (h p a c : Bool) → (h && (p && a && c)) ≡ (h && p && a && c)
      first h p a c = grind arith

      second : (h p a c : Bool) → (h && (p && a && c)) ≡ (p && (h && a) && c)
      second h p a c = grind arith

      third : (h p a c : Bool) → (h && (p && a && c)) ≡ (p && a && (h && c))
      third h p a c = grind arith

      by : (kind : Kind)
          → (has_id (ids_of kind all) id && (known_among OfProgram rs && known_among OfApplicant rs && known_among OfCouple rs))
          ≡ (known_among OfProgram (WithdrawRecord kind id ∷ rs) && known_among OfApplicant (WithdrawRecord kind id ∷ rs) && known_among OfCouple (WithdrawRecord kind id ∷ rs))
      by OfProgram = first (has_id (ids_of OfProgram all) id) (known_among OfProgram rs) (known_among OfApplicant rs) (known_among OfCouple rs)
      by OfApplicant = second (has_id (ids_of OfApplicant all) id) (known_among OfProgram rs) (known_among OfApplicant rs) (known_among OfCouple rs)
      by OfCouple = third (has_id (ids_of OfCouple all) id) (known_among OfProgram rs) (known_among OfApplicant rs) (known_among OfCouple rs)

-- tests of the records of a list
list_all-and : (p q : Record → Bool) (rs : List Record) → list_all (λ r. p r && q r) rs ≡ (list_all p rs && list_all q rs)
list_all-and p q [] = refl
list_all-and p q (r ∷ rs) = ap (λ b. p r && q r && b) (list_all-and p q rs) ∙ by (p r) (q r) (list_all p rs) (list_all q rs)
  where
    by : (a b c d : Bool) → (a && b && (c && d)) ≡ (a && c && (b && d))
    by a b c d = grind arith

list_all-same : (p q : Record → Bool) → ((r : Record) → p r ≡ q r) → (rs : List Record) → list_all p rs ≡ list_all q rs
list_all-same p q f [] = refl
list_all-same p q f (r ∷ rs) = rw (f r, list_all-same p q f rs) refl

-- Records have no fault among them if they are apart and each of them names registered ids alone, and none twice, and all
-- pairs are allowed.
module _ (rs : List Record) (half_pairs : Bool) where
  abbrev each_ranking : Bool
  each_ranking = list_all (ranking_stands (applicant_ids rs)) rs

  abbrev each_list : Bool
  each_list = list_all (list_stands (ids_of OfProgram rs)) rs

  abbrev each_pairs : Bool
  each_pairs = list_all (pairs_stand half_pairs (ids_of OfProgram rs)) rs

  abbrev each_withdrawal : Bool
  each_withdrawal = list_all (withdraws_known rs) rs

  all_stand : (each_ranking && each_list && each_pairs && each_withdrawal) ≡ (list_all (is_known rs) rs && list_all lists_once rs && list_all (allows_pairs half_pairs) rs)
  all_stand =
      let r1 = ranking_stands (applicant_ids rs) in
      let r2 = list_stands (ids_of OfProgram rs) in
      let r3 = pairs_stand half_pairs (ids_of OfProgram rs) in
      ap (λ b. b && each_pairs && each_withdrawal) (sym (list_all-and r1 r2 rs))
      ∙ ap (λ b. b && each_withdrawal) (sym (list_all-and (λ r. r1 r && r2 r) r3 rs))
      ∙ sym (list_all-and (λ r. r1 r && r2 r && r3 r) (withdraws_known rs) rs)
      ∙ list_all-same (λ r. r1 r && r2 r && r3 r && withdraws_known rs r) (λ r. is_known rs r && lists_once r && allows_pairs half_pairs r) (stands rs half_pairs) rs
      ∙ list_all-and (λ r. is_known rs r && lists_once r) (allows_pairs half_pairs) rs
      ∙ ap (λ b. b && list_all (allows_pairs half_pairs) rs) (list_all-and (is_known rs) lists_once rs)

  withdrawals-stand : withdrawals_stand rs ≡ (each_withdrawal && withdrawn_once rs)
  withdrawals-stand =
      by (known_among rs OfProgram rs) (known_among rs OfApplicant rs) (known_among rs OfCouple rs)
      (all_differ bytes_eq (withdrawn OfProgram rs)) (all_differ bytes_eq (withdrawn OfApplicant rs)) (all_differ bytes_eq (withdrawn OfCouple rs))
      ∙ ap (λ b. b && withdrawn_once rs) (sym (withdraws-known rs rs))
    where
      by : (p a c d e f : Bool) → ((p && d) && (a && e) && (c && f)) ≡ ((p && a && c) && (d && e && f))
      by p a c d e f = grind arith

-- whether each record names registered ids alone, and none twice, and pairs that are allowed
abbrev pub each_stands : Rules → List Record → Bool
each_stands rules rs = list_all (is_known rs) rs && list_all lists_once rs && list_all (allows_pairs rules.half_pairs) rs

pub faultless-is : (rs : List Record) (rules : Rules) → is_faultless rules rs ≡ ((ids_differ rs && withdrawn_once rs && not (are_too_many rules.limits rs)) && each_stands rules rs)
faultless-is rs rules =
    ap (λ b. ids_differ rs && b && rankings && lists && pairs && not (are_too_many rules.limits rs)) (withdrawals-stand rs rules.half_pairs)
    ∙ by (ids_differ rs) withdrawals (withdrawn_once rs) rankings lists pairs (not (are_too_many rules.limits rs))
    ∙ ap (λ b. (ids_differ rs && withdrawn_once rs && not (are_too_many rules.limits rs)) && b) (all_stand rs rules.half_pairs)
  where
    rankings : Bool
    rankings = each_ranking rs rules.half_pairs

    lists : Bool
    lists = each_list rs rules.half_pairs

    pairs : Bool
    pairs = each_pairs rs rules.half_pairs

    withdrawals : Bool
    withdrawals = each_withdrawal rs rules.half_pairs

    by : (i w d r l p n : Bool) → (i && (w && d) && r && l && p && n) ≡ ((i && d && n) && (r && l && p && w))
    by i w d r l p n = grind arith

-- the same as facts
pub record AreFaultless (rules : Rules) (rs : List Record) : Type 0 where
  pub apart : AreApart rules.limits rs
  pub known : list_all (is_known rs) rs ≡ true
  pub once : list_all lists_once rs ≡ true
  pub allowed : list_all (allows_pairs rules.half_pairs) rs ≡ true

module _ (rules : Rules) (rs : List Record) where
  pub faultless_parts : is_faultless rules rs ≡ true → AreFaultless rules rs
  faultless_parts h =
      let few : Bool = not (are_too_many rules.limits rs) in
      let p : (ids_differ rs && withdrawn_once rs && few ≡ true) × (each_stands rules rs ≡ true) = and_parts (ids_differ rs && withdrawn_once rs && few) (each_stands rules rs) (sym (faultless-is rs rules) ∙ h) in
      let q : (ids_differ rs && withdrawn_once rs ≡ true) × (few ≡ true) = and_parts (ids_differ rs && withdrawn_once rs) _ p.0 in
      let t : (ids_differ rs ≡ true) × (withdrawn_once rs ≡ true) = and_parts (ids_differ rs) (withdrawn_once rs) q.0 in
      let u : (list_all (is_known rs) rs && list_all lists_once rs ≡ true) × (list_all (allows_pairs rules.half_pairs) rs ≡ true) = and_parts (list_all (is_known rs) rs && list_all lists_once rs) _ p.1 in
      let v : (list_all (is_known rs) rs ≡ true) × (list_all lists_once rs ≡ true) = and_parts (list_all (is_known rs) rs) (list_all lists_once rs) u.0 in
      record { apart = record { ids = t.0; withdrawals = t.1; few = not-true (are_too_many rules.limits rs) q.1 }; known = v.0; once = v.1; allowed = u.1 }

  pub faultless_join : AreFaultless rules rs → is_faultless rules rs ≡ true
  faultless_join are = faultless-is rs rules ∙ rw (are.apart.ids, are.apart.withdrawals, are.apart.few, are.known, are.once, are.allowed) refl

-- a test that registered ids pass, the ids of a list of them pass
passed_by_one : (p : Bytes → Bool) (ids : List Bytes) (x : Bytes) → list_all p ids ≡ true → has_id ids x ≡ true → p x ≡ true
passed_by_one p [] x a h = cc
passed_by_one p (y ∷ ys) x a h =
    let q : (p y ≡ true) × (list_all p ys ≡ true) = and_parts (p y) _ a in
    by (bytes_eq x y) (same_id x y) h q.0 (passed_by_one p ys x q.1)
  where
    by : (b : Bool) → (b ≡ true → x ≡ y) → (b || has_id ys x) ≡ true → p y ≡ true → (has_id ys x ≡ true → p x ≡ true) → p x ≡ true
    by true e h k ih = subst (λ (z : Bytes). p z ≡ true) (sym (e refl)) k
    by false e h k ih = ih h

passed_by_all : (p : Bytes → Bool) (ids list : List Bytes) → list_all p ids ≡ true → list_all (has_id ids) list ≡ true → list_all p list ≡ true
passed_by_all p ids [] a h = refl
passed_by_all p ids (x ∷ xs) a h =
    let q : (has_id ids x ≡ true) × (list_all (has_id ids) xs ≡ true) = and_parts (has_id ids x) _ h in
    and_from _ _ (passed_by_one p ids x a q.0) (passed_by_all p ids xs a q.1)

-- lists of registered ids have ids alone, if what is registered are ids, and pairs that are allowed have such places
place_is_id : (rules : Rules) (ids : List Bytes) (o : Option Bytes) → list_all (is_id rules.limits.id_bytes) ids ≡ true → is_none_or_in ids o ≡ true → is_none_or_id rules o ≡ true
place_is_id rules ids None a h = refl
place_is_id rules ids (Some id) a h = passed_by_one _ ids id a h

pairs_are_ids : (rules : Rules) (ids : List Bytes) (ps : List IdPair) → list_all (is_id rules.limits.id_bytes) ids ≡ true
    → list_all (names_only ids) ps ≡ true → list_all (is_allowed rules.half_pairs) ps ≡ true → list_all (is_id_pair rules) ps ≡ true
pairs_are_ids rules ids [] a h k = refl
pairs_are_ids rules ids (p ∷ ps) a h k =
    let n : (names_only ids p ≡ true) × (list_all (names_only ids) ps ≡ true) = and_parts (names_only ids p) _ h in
    let m : (is_none_or_in ids p.0 ≡ true) × (is_none_or_in ids p.1 ≡ true) = and_parts (is_none_or_in ids p.0) _ n.0 in
    let l : (is_allowed rules.half_pairs p ≡ true) × (list_all (is_allowed rules.half_pairs) ps ≡ true) = and_parts (is_allowed rules.half_pairs p) _ k in
    and_from _ _ (and_from _ _ l.0 (and_from _ _ (place_is_id rules ids p.0 a m.0) (place_is_id rules ids p.1 a m.1))) (pairs_are_ids rules ids ps a n.1 l.1)

module _ (rules : Rules) (all : List Record) (registered : list_all (registers_ids rules) all ≡ true) where
  lists_ids_of : (r : Record) → is_known all r ≡ true → allows_pairs rules.half_pairs r ≡ true → lists_ids rules r ≡ true
  lists_ids_of (ProgramRecord id quota list) k l = passed_by_all _ (applicant_ids all) list (applicants_ids rules all registered) (sym (program-known all id quota list) ∙ k)
  lists_ids_of (ApplicantRecord id list) k l = passed_by_all _ (ids_of OfProgram all) list (programs_ids rules all registered) (sym (applicant-known all id list) ∙ k)
  lists_ids_of (CoupleRecord id a b pairs) k l = pairs_are_ids rules (ids_of OfProgram all) pairs (programs_ids rules all registered) (sym (couple-known all id a b pairs) ∙ k) l
  lists_ids_of (WithdrawRecord kind id) k l = refl

  pub all_lists_ids : (rs : List Record) → list_all (is_known all) rs ≡ true → list_all (allows_pairs rules.half_pairs) rs ≡ true → list_all (lists_ids rules) rs ≡ true
  all_lists_ids [] h a = refl
  all_lists_ids (r ∷ rs) h a =
      let q : (is_known all r ≡ true) × (list_all (is_known all) rs ≡ true) = and_parts (is_known all r) _ h in
      let p : (allows_pairs rules.half_pairs r ≡ true) × (list_all (allows_pairs rules.half_pairs) rs ≡ true) = and_parts (allows_pairs rules.half_pairs r) _ a in
      and_from _ _ (lists_ids_of r q.0 p.0) (all_lists_ids rs q.1 p.1)

-- a list of pairs of ids that are allowed has pairs that are
pairs_allowed : (rules : Rules) (ps : List IdPair) → list_all (is_id_pair rules) ps ≡ true → list_all (is_allowed rules.half_pairs) ps ≡ true
pairs_allowed rules [] h = refl
pairs_allowed rules (p ∷ ps) h =
    let q : (is_id_pair rules p ≡ true) × (list_all (is_id_pair rules) ps ≡ true) = and_parts (is_id_pair rules p) _ h in
    and_from _ _ (and_parts (is_allowed rules.half_pairs p) _ q.0).0 (pairs_allowed rules ps q.1)

pub lists_allowed : (rules : Rules) (r : Record) → lists_ids rules r ≡ true → allows_pairs rules.half_pairs r ≡ true
lists_allowed rules (ProgramRecord id quota list) h = refl
lists_allowed rules (ApplicantRecord id list) h = refl
lists_allowed rules (CoupleRecord id a b pairs) h = pairs_allowed rules pairs h
lists_allowed rules (WithdrawRecord kind id) h = refl
