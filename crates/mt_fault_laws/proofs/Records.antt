-- Each kind of record beside its parts, and a record of any fields.
use Rattle.std.proofs.Common.{◌≡◌, ℕ, suc, ◌+◌, ◌*◌, Bool, true, false, not, ◌||◌, ◌&&◌, ◌==◌, nat_lt, List, [], ◌∷◌, ◌++◌, map, filter, length, Option, Some, None, is_some, is_none, Ok, Err, refl, cond, ap, sym, ◌∙◌, subst, arith}
use Rattle.std.specs.Prelude.{bytes_eq, codes, option_map, option_to_list, ok_or, flat_map, if◌then◌else◌}
use Rattle.std.specs.Bool.{then_some}
use Rattle.std.specs.List.{list_all}
use Rattle.std.proofs.lemmas.Bool.{and_parts}
use Rattle.std.proofs.lemmas.Bool.Decides.{nat_tests}
use Rattle.std.proofs.lemmas.List.{length-map}
use Rattle.std.proofs.lemmas.List.Folds.{list_any-append}
use Rattle.mt_terms.specs.declared.codes.TheConstants.{FIELD_COUNT, BAD_ID, BAD_QUOTA, DUPLICATE_ID, DUPLICATE_ENTRY, UNKNOWN_APPLICANT, UNKNOWN_PROGRAM, NOT_REGISTERED}
use Rattle.mt_terms.specs.Registration.Ids.{Bytes, has_id, all_differ, quota_of}
use Rattle.mt_terms.specs.Registration.Faults.{RecordFault, record_fault, record_fault_alone}
use Rattle.mt_terms.specs.Registration.Records.{Rules, Record, ProgramRecord, ApplicantRecord, CoupleRecord, WithdrawRecord, Kind, OfProgram, OfApplicant, OfCouple, is_pair, pair_of, two_by_two, kind_of, program_record, applicant_record, couple_by_pairs, couple_record, withdraw_by_kind, withdraw_record, record_by_kind, record_of}
use Rattle.mt_terms.specs.Registration.Rows.{own_id, ids_of, withdrawn_id, withdrawn, applicant_ids}
use Rattle.mt_terms.specs.Registration.Passes.{contents, first_of, first_in, first_not_in, named, is_same_pair, registered_before}
use Rattle.mt_terms.specs.Lists.{by_twos}
use Rattle.mt_fault_terms.specs.Faults.{Placed, FieldFault, fault_of, placed_from}
use Rattle.mt_fault_terms.specs.Parts.{Registers, Withdraws, Parts, PlacedPair, is_odd, miscounted, program_parts, applicant_parts, couple_parts, withdrawal_parts, withdrawal_by_kind, withdraw_parts, parts_by_kind, parts_of, own_ids, withdrawn_ids, all_own_ids, all_applicants, all_withdrawn}
use Rattle.mt_fault_terms.specs.OfRecord.{is_id_field, bad_of_pair, bad_fields, id_among, quota_faults, own_faults, found_among, missing_among, members_before, registered_faults, repeats_after, pair_repeats_after}
use Rattle.mt_fault_laws.proofs.Leading.{Leads, Shows, leads_nil, leads_next, leads_last, leads_alone, first_map}
use Rattle.mt_fault_laws.proofs.Reading.{Agree, IsRead, Reads, bare, both, none, an_id, none-append, none-bad, none-bad_pairs, own_leads, own_bad, one_among, two_among, first_among, found_leads, repeats_lead, pair_repeats_lead, missing_lead, missing_pairs_lead}

-- the parts of a record that can be read
abbrev pub program_of : Placed → Placed → List Placed → Parts
program_of id quota list = record { form = Registers OfProgram; faults = []; names = id ∷ []; quota = Some quota; list = list; pairs = [] }

abbrev pub applicant_of : Placed → List Placed → Parts
applicant_of id list = record { form = Registers OfApplicant; faults = []; names = id ∷ []; quota = None; list = list; pairs = [] }

abbrev pub couple_of : (id a b : Placed) → List PlacedPair → Parts
couple_of id a b pairs = record { form = Registers OfCouple; faults = []; names = id ∷ a ∷ b ∷ []; quota = None; list = []; pairs = pairs }

abbrev pub withdrawal_of : Kind → Placed → Parts
withdrawal_of kind id = record { form = Withdraws kind; faults = []; names = id ∷ []; quota = None; list = []; pairs = [] }

-- fields two by two, with their places and without
two_by_two-is : (fields : List Placed) → two_by_two (contents fields) ≡ (if is_odd fields then None else Some (map bare (by_twos fields)))
two_by_two-is [] = refl
two_by_two-is (x ∷ []) = refl
two_by_two-is (x ∷ y ∷ fields) = ap (option_map (λ ps. (x.1, y.1) ∷ ps)) (two_by_two-is fields) ∙ by (is_odd fields)
  where
    by : (b : Bool) → option_map (λ ps. (x.1, y.1) ∷ ps) (if b then None else Some (map bare (by_twos fields))) ≡ (if b then None else Some ((x.1, y.1) ∷ map bare (by_twos fields)))
    by true = refl
    by false = refl

contents-placed : (n : ℕ) (fields : List Bytes) → contents (placed_from n fields) ≡ fields
contents-placed n [] = refl
contents-placed n (field ∷ fields) = ap (λ xs. field ∷ xs) (contents-placed (n + 1) fields)

-- entries without pairs, and pairs alone
no_pairs : (n : ℕ) → n + 2 * 0 ≡ n
no_pairs n = omega arith

no_list : (n : ℕ) → 0 + 2 * n ≡ 2 * n
no_list n = omega arith

-- how many fields there are
at_least_one : (n : ℕ) → nat_lt (suc n) 1 ≡ false
at_least_one n = grind (arith, nat_tests)

at_least_two : (n : ℕ) → nat_lt (suc (suc n)) 2 ≡ false
at_least_two n = grind (arith, nat_tests)

at_least_three : (n : ℕ) → nat_lt (suc (suc (suc n))) 3 ≡ false
at_least_three n = grind (arith, nat_tests)

not_one : (n : ℕ) → (suc (suc n) == 1) ≡ false
not_one n = grind (arith, nat_tests)

-- of two tests one fails
not_all : (i l : Bool) → (i && l) ≡ false → ((i && true) && l && true) ≡ false
not_all true true h = cc
not_all true false h = refl
not_all false l h = refl

not_all_pairs : (i l : Bool) → (i && l) ≡ false → (i && true && l) ≡ false
not_all_pairs true true h = cc
not_all_pairs true false h = refl
not_all_pairs false l h = refl

module _ (rules : Rules) where
  bad-is : (parts : Parts)
      → none (bad_fields rules parts) ≡ (list_all (an_id rules) (contents parts.names) && list_all (an_id rules) (contents parts.list) && list_all (is_pair rules) (map bare parts.pairs))
  bad-is parts =
      none-append (names ++ list) pairs
      ∙ ap (λ (b : Bool). b && none pairs) (none-append names list)
      ∙ ap (λ (b : Bool). b && none list && none pairs) (none-bad rules parts.names)
      ∙ ap (λ (b : Bool). list_all (an_id rules) (contents parts.names) && b && none pairs) (none-bad rules parts.list)
      ∙ ap (λ (b : Bool). list_all (an_id rules) (contents parts.names) && list_all (an_id rules) (contents parts.list) && b) (none-bad_pairs rules parts.pairs)
    where
      names : List Placed
      names = filter (λ field. not (is_id_field rules field)) parts.names

      list : List Placed
      list = filter (λ field. not (is_id_field rules field)) parts.list

      pairs : List Placed
      pairs = flat_map (bad_of_pair rules) parts.pairs

  all_true : (a b c : Bool) → a ≡ true → b ≡ true → c ≡ true → (a && b && c) ≡ true
  all_true true true true h k l = refl
  all_true true true false h k l = cc
  all_true true false c h k l = cc
  all_true false b c h k l = cc

  -- an id that is found among ids that have it if others do
  found_agrees : (code : ℕ) (ids others : List Bytes) (field : Placed) → an_id rules field.1 ≡ true → has_id others field.1 ≡ has_id ids field.1
      → Leads Shows (option_map (record_fault code) (first_in ids (field.1 ∷ []))) (found_among rules code others (field ∷ []))
  found_agrees code ids others field h e =
      subst (λ (b : Bool). Leads Shows (option_map (record_fault code) (cond b (Some field.1) None)) (found_among rules code others (field ∷ []))) e (found_leads rules code others field h)

  -- ids that are missing if others are
  missing_agrees : (code : ℕ) (ids others : List Bytes) (fields : List Placed) → others ≡ ids → list_all (an_id rules) (contents fields) ≡ true
      → Leads Shows (option_map (record_fault code) (first_not_in ids (contents fields))) (missing_among rules code others fields)
  missing_agrees code ids others fields e h =
      subst (λ (xs : List Bytes). Leads Shows (option_map (record_fault code) (first_not_in ids (contents fields))) (missing_among rules code xs fields)) (sym e) (missing_lead rules code ids fields h)

  lists_lead : (id : Placed) (list : List Placed) → list_all (an_id rules) (contents list) ≡ true
      → Leads Shows (then_some (not (all_differ bytes_eq (contents list))) (record_fault DUPLICATE_ENTRY id.1)) (repeats_after rules [] list ++ [] ++ [])
  lists_lead id list l =
      let o : Option RecordFault = then_some (not (all_differ bytes_eq (contents list))) (record_fault DUPLICATE_ENTRY id.1) in
      leads_alone Shows o (repeats_after rules [] list ++ []) (leads_alone Shows o (repeats_after rules [] list) (repeats_lead rules id.1 [] list l refl))

  quota_lead : (id quota : Placed) (list : List Placed) → an_id rules id.1 ≡ true
      → Leads Shows (then_some (is_none (quota_of quota.1)) (record_fault BAD_QUOTA id.1)) (quota_faults rules (program_of id quota list))
  quota_lead id quota list i = by (quota_of quota.1)
    where
      by : (o : Option ℕ) → Leads Shows (then_some (is_none o) (record_fault BAD_QUOTA id.1)) (cond (is_some o) [] (record { code = BAD_QUOTA; field = quota.0; id = id_among rules (id ∷ []) } ∷ []) ++ [])
      by None = (refl, λ k. first_among rules id [] i)
      by (Some n) = tt

  clean_of : (parts : Parts) → parts.faults ≡ [] → none (bad_fields rules parts) ≡ true → Leads Shows None (quota_faults rules parts) → own_faults rules parts ≡ []
  clean_of parts f h k = leads_nil Shows (own_faults rules parts) (own_leads rules parts true None f h k)

  program_read : (id quota : Placed) (n : ℕ) (list : List Placed) → an_id rules id.1 ≡ true → list_all (an_id rules) (contents list) ≡ true → quota_of quota.1 ≡ Some n
      → IsRead rules (program_of id quota list) (ProgramRecord id.1 n (contents list))
  program_read id quota n list i l q = record {
    clean = clean_of parts refl (bad-is parts ∙ all_true (list_all (an_id rules) (id.1 ∷ [])) (list_all (an_id rules) (contents list)) true (rw i refl) l refl)
        (subst (λ (o : Option ℕ). Leads Shows (then_some (is_none o) (record_fault BAD_QUOTA id.1)) (quota_faults rules parts)) q (quota_lead id quota list i));
    id = first_among rules id [] i;
    own = own_is;
    applicants = refl;
    withdrawn_too = withdrawn_is;
    entries = no_pairs (length list) ∙ sym (length-map list (λ (x : Placed). x.1));
    registered = λ before records a. found_agrees DUPLICATE_ID (ids_of OfProgram records) (all_own_ids rules OfProgram before) id i (ap (λ (ids : List Bytes). has_id ids id.1) (a.own OfProgram));
    repeated = λ before records a. lists_lead id list l;
    unknown = λ all records a. missing_agrees UNKNOWN_APPLICANT (applicant_ids records) (all_applicants rules all) list a.applicants l;
  }
    where
      parts : Parts
      parts = program_of id quota list

      own_is : (kind : Kind) → own_ids rules kind parts ≡ option_to_list (own_id kind (ProgramRecord id.1 n (contents list)))
      own_is OfProgram = one_among rules id i
      own_is OfApplicant = refl
      own_is OfCouple = refl

      withdrawn_is : (kind : Kind) → withdrawn_ids rules kind parts ≡ option_to_list (withdrawn_id kind (ProgramRecord id.1 n (contents list)))
      withdrawn_is OfProgram = refl
      withdrawn_is OfApplicant = refl
      withdrawn_is OfCouple = refl

  applicant_read : (id : Placed) (list : List Placed) → an_id rules id.1 ≡ true → list_all (an_id rules) (contents list) ≡ true
      → IsRead rules (applicant_of id list) (ApplicantRecord id.1 (contents list))
  applicant_read id list i l = record {
    clean = clean_of parts refl (bad-is parts ∙ all_true (list_all (an_id rules) (id.1 ∷ [])) (list_all (an_id rules) (contents list)) true (rw i refl) l refl) tt;
    id = first_among rules id [] i;
    own = own_is;
    applicants = one_among rules id i;
    withdrawn_too = withdrawn_is;
    entries = no_pairs (length list) ∙ sym (length-map list (λ (x : Placed). x.1));
    registered = λ before records a. found_agrees DUPLICATE_ID (applicant_ids records) (all_applicants rules before) id i (ap (λ (ids : List Bytes). has_id ids id.1) a.applicants);
    repeated = λ before records a. lists_lead id list l;
    unknown = λ all records a. missing_agrees UNKNOWN_PROGRAM (ids_of OfProgram records) (all_own_ids rules OfProgram all) list (a.own OfProgram) l;
  }
    where
      parts : Parts
      parts = applicant_of id list

      own_is : (kind : Kind) → own_ids rules kind parts ≡ option_to_list (own_id kind (ApplicantRecord id.1 (contents list)))
      own_is OfProgram = refl
      own_is OfApplicant = one_among rules id i
      own_is OfCouple = refl

      withdrawn_is : (kind : Kind) → withdrawn_ids rules kind parts ≡ option_to_list (withdrawn_id kind (ApplicantRecord id.1 (contents list)))
      withdrawn_is OfProgram = refl
      withdrawn_is OfApplicant = refl
      withdrawn_is OfCouple = refl

  couple_read : (id a b : Placed) (pairs : List PlacedPair) → an_id rules id.1 ≡ true → an_id rules a.1 ≡ true → an_id rules b.1 ≡ true → list_all (is_pair rules) (map bare pairs) ≡ true
      → IsRead rules (couple_of id a b pairs) (CoupleRecord id.1 a.1 b.1 (map pair_of (map bare pairs)))
  couple_read id a b pairs i j k l = record {
    clean = clean_of parts refl (bad-is parts ∙ all_true (list_all (an_id rules) (id.1 ∷ a.1 ∷ b.1 ∷ [])) true (list_all (is_pair rules) (map bare pairs)) (rw (i, j, k) refl) refl l) tt;
    id = first_among rules id (a ∷ b ∷ []) i;
    own = own_is;
    applicants = two_among rules a b j k;
    withdrawn_too = withdrawn_is;
    entries = no_list (length pairs) ∙ ap (λ (k : ℕ). 2 * k) (sym (length-map pairs bare) ∙ sym (length-map (map bare pairs) pair_of));
    registered = registered_is;
    repeated = λ before records g. leads_alone Shows (then_some (not (all_differ is_same_pair (map pair_of (map bare pairs)))) (record_fault DUPLICATE_ENTRY id.1)) (pair_repeats_after rules [] pairs) (pair_repeats_lead rules id.1 [] pairs l refl);
    unknown = λ all records g.
        subst (λ (ids : List Bytes). Leads Shows (option_map (record_fault UNKNOWN_PROGRAM) (first_not_in (ids_of OfProgram records) (flat_map named (map pair_of (map bare pairs))))) (missing_among rules UNKNOWN_PROGRAM ids (flat_map both pairs)))
        (sym (g.own OfProgram)) (missing_pairs_lead rules UNKNOWN_PROGRAM (ids_of OfProgram records) pairs l);
  }
    where
      parts : Parts
      parts = couple_of id a b pairs

      own_is : (kind : Kind) → own_ids rules kind parts ≡ option_to_list (own_id kind (CoupleRecord id.1 a.1 b.1 (map pair_of (map bare pairs))))
      own_is OfProgram = refl
      own_is OfApplicant = refl
      own_is OfCouple = one_among rules id i

      withdrawn_is : (kind : Kind) → withdrawn_ids rules kind parts ≡ option_to_list (withdrawn_id kind (CoupleRecord id.1 a.1 b.1 (map pair_of (map bare pairs))))
      withdrawn_is OfProgram = refl
      withdrawn_is OfApplicant = refl
      withdrawn_is OfCouple = refl

      turned : (h s : Bool) → (h || (s || false)) ≡ (s || h)
      turned true true = refl
      turned true false = refl
      turned false true = refl
      turned false false = refl

      registered_is : (before : List Parts) (records : List Record) → Agree rules before records
          → Leads Shows (option_map (record_fault DUPLICATE_ID) (registered_before records (CoupleRecord id.1 a.1 b.1 (map pair_of (map bare pairs))))) (registered_faults rules before parts)
      registered_is before records g =
          let earlier : List Bytes = all_applicants rules before in
          let ids : Option Bytes = first_in (ids_of OfCouple records) (id.1 ∷ []) in
          let ids_a : Option Bytes = first_in (applicant_ids records) (a.1 ∷ []) in
          let ids_b : Option Bytes = first_in (a.1 ∷ applicant_ids records) (b.1 ∷ []) in
          let own : Option RecordFault = option_map (record_fault DUPLICATE_ID) ids in
          let first : Option RecordFault = option_map (record_fault DUPLICATE_ID) ids_a in
          let second : Option RecordFault = option_map (record_fault DUPLICATE_ID) ids_b in
          let own_lead : Leads Shows own (found_among rules DUPLICATE_ID (all_own_ids rules OfCouple before) (id ∷ [])) =
          found_agrees DUPLICATE_ID (ids_of OfCouple records) (all_own_ids rules OfCouple before) id i (ap (λ (xs : List Bytes). has_id xs id.1) (g.own OfCouple)) in
          let first_lead : Leads Shows first (found_among rules DUPLICATE_ID earlier (a ∷ [])) =
          found_agrees DUPLICATE_ID (applicant_ids records) earlier a j (ap (λ (xs : List Bytes). has_id xs a.1) g.applicants) in
          let same : has_id (earlier ++ a.1 ∷ []) b.1 ≡ has_id (a.1 ∷ applicant_ids records) b.1 =
          list_any-append (bytes_eq b.1) earlier (a.1 ∷ []) ∙ ap (λ (xs : List Bytes). has_id xs b.1 || (bytes_eq b.1 a.1 || false)) g.applicants
          ∙ turned (has_id (applicant_ids records) b.1) (bytes_eq b.1 a.1) in
          let found_second : List FieldFault = found_among rules DUPLICATE_ID (earlier ++ a.1 ∷ []) (b ∷ []) in
          let second_lead : Leads Shows second found_second = found_agrees DUPLICATE_ID (a.1 ∷ applicant_ids records) (earlier ++ a.1 ∷ []) b k same in
          let last : Leads Shows (first_of (second ∷ [])) (found_second ++ []) = leads_alone Shows (first_of (second ∷ [])) found_second (leads_last Shows second found_second second_lead) in
          subst (λ (o : Option RecordFault). Leads Shows o (registered_faults rules before parts)) (sym (first_map (record_fault DUPLICATE_ID) (ids ∷ ids_a ∷ ids_b ∷ [])))
          (leads_next Shows own (first ∷ second ∷ []) (found_among rules DUPLICATE_ID (all_own_ids rules OfCouple before) (id ∷ [])) (members_before rules earlier (a ∷ b ∷ [])) own_lead
          (leads_next Shows first (second ∷ []) (found_among rules DUPLICATE_ID earlier (a ∷ [])) (found_second ++ []) first_lead last))

  withdrawal_read : (kind : Kind) (id : Placed) → an_id rules id.1 ≡ true → IsRead rules (withdrawal_of kind id) (WithdrawRecord kind id.1)
  withdrawal_read kind id i = record {
    clean = clean_of parts refl (bad-is parts ∙ all_true (list_all (an_id rules) (id.1 ∷ [])) true true (rw i refl) refl refl) tt;
    id = first_among rules id [] i;
    own = own_is;
    applicants = refl;
    withdrawn_too = withdrawn_is kind;
    entries = refl;
    registered = λ before records a. tt;
    repeated = λ before records a. twice_is before records (ap (λ (ids : List Bytes). has_id ids id.1) (a.withdrawn_too kind));
    unknown = λ all records a. missing_agrees NOT_REGISTERED (ids_of kind records) (all_own_ids rules kind all) (id ∷ []) (a.own kind) (rw i refl);
  }
    where
      parts : Parts
      parts = withdrawal_of kind id

      own_is : (k : Kind) → own_ids rules k parts ≡ option_to_list (own_id k (WithdrawRecord kind id.1))
      own_is OfProgram = refl
      own_is OfApplicant = refl
      own_is OfCouple = refl

      withdrawn_is : (kind k : Kind) → withdrawn_ids rules k (withdrawal_of kind id) ≡ option_to_list (withdrawn_id k (WithdrawRecord kind id.1))
      withdrawn_is OfProgram OfProgram = one_among rules id i
      withdrawn_is OfApplicant OfProgram = refl
      withdrawn_is OfCouple OfProgram = refl
      withdrawn_is OfProgram OfApplicant = refl
      withdrawn_is OfApplicant OfApplicant = one_among rules id i
      withdrawn_is OfCouple OfApplicant = refl
      withdrawn_is OfProgram OfCouple = refl
      withdrawn_is OfApplicant OfCouple = refl
      withdrawn_is OfCouple OfCouple = one_among rules id i

      twice_is : (before : List Parts) (records : List Record) → has_id (all_withdrawn rules kind before) id.1 ≡ has_id (withdrawn kind records) id.1
          → Leads Shows (then_some (has_id (withdrawn kind records) id.1) (record_fault DUPLICATE_ENTRY id.1)) (found_among rules DUPLICATE_ENTRY (all_withdrawn rules kind before) (id ∷ []))
      twice_is before records e = by (an_id rules id.1) (has_id (withdrawn kind records) id.1) (has_id (all_withdrawn rules kind before) id.1) i e
        where
          by : (a b c : Bool) → a ≡ true → c ≡ b → Leads Shows (then_some b (record_fault DUPLICATE_ENTRY id.1)) (map (fault_of DUPLICATE_ENTRY) (cond (a && c) (id ∷ []) []))
          by true true true h e = (refl, λ k. refl)
          by true true false h e = cc
          by true false true h e = cc
          by true false false h e = tt
          by false b c h e = cc

  -- a record of each kind by its fields
  programs : (fields : List Placed) → Reads rules (program_parts fields) (program_record rules (contents fields))
  programs [] = (refl, λ k. refl)
  programs (x ∷ []) = (refl, λ k. refl)
  programs (id ∷ quota ∷ list) = by (nat_lt (length (id ∷ quota ∷ list)) 2) (an_id rules id.1 && list_all (an_id rules) (contents list)) (quota_of quota.1) (at_least_two (length list)) refl refl
    where
      by : (few ok : Bool) (o : Option ℕ) → few ≡ false → (an_id rules id.1 && list_all (an_id rules) (contents list)) ≡ ok → quota_of quota.1 ≡ o
          → Reads rules (record (program_of id quota list) { faults = miscounted few })
          (if ok then ok_or (option_map (λ n. ProgramRecord id.1 n (contents list)) o) (record_fault BAD_QUOTA id.1) else Err (record_fault_alone BAD_ID))
      by true ok o f h q = cc
      by false true (Some n) f h q = let p = and_parts (an_id rules id.1) (list_all (an_id rules) (contents list)) h in program_read id quota n list p.0 p.1 q
      by false true None f h q =
          let p = and_parts (an_id rules id.1) (list_all (an_id rules) (contents list)) h in
          own_leads rules (program_of id quota list) true (Some (record_fault BAD_QUOTA id.1)) refl (bad-is (program_of id quota list) ∙ all_true (list_all (an_id rules) (id.1 ∷ [])) (list_all (an_id rules) (contents list)) true (rw p.0 refl) p.1 refl)
          (subst (λ (o : Option ℕ). Leads Shows (then_some (is_none o) (record_fault BAD_QUOTA id.1)) (quota_faults rules (program_of id quota list))) q (quota_lead id quota list p.0))
      by false false o f h q = own_bad rules (program_of id quota list) refl (bad-is (program_of id quota list) ∙ not_all (an_id rules id.1) (list_all (an_id rules) (contents list)) h)

  applicants : (fields : List Placed) → Reads rules (applicant_parts fields) (applicant_record rules (contents fields))
  applicants [] = (refl, λ k. refl)
  applicants (id ∷ list) = by (nat_lt (length (id ∷ list)) 1) (an_id rules id.1 && list_all (an_id rules) (contents list)) (at_least_one (length list)) refl
    where
      by : (few ok : Bool) → few ≡ false → (an_id rules id.1 && list_all (an_id rules) (contents list)) ≡ ok
          → Reads rules (record (applicant_of id list) { faults = miscounted few }) (if ok then Ok (ApplicantRecord id.1 (contents list)) else Err (record_fault_alone BAD_ID))
      by true ok f h = cc
      by false true f h = let p = and_parts (an_id rules id.1) (list_all (an_id rules) (contents list)) h in applicant_read id list p.0 p.1
      by false false f h = own_bad rules (applicant_of id list) refl (bad-is (applicant_of id list) ∙ not_all (an_id rules id.1) (list_all (an_id rules) (contents list)) h)

  couples : (fields : List Placed) → Reads rules (couple_parts fields) (couple_record rules (contents fields))
  couples [] = (refl, λ k. refl)
  couples (id ∷ []) = (refl, λ k. refl)
  couples (id ∷ a ∷ []) = (refl, λ k. refl)
  couples (id ∷ a ∷ b ∷ fields) =
      subst (λ (o : Option (List (Bytes × Bytes))). Reads rules (couple_parts (id ∷ a ∷ b ∷ fields)) (couple_by_pairs rules id.1 a.1 b.1 o)) (sym (two_by_two-is fields))
      (by (nat_lt (length (id ∷ a ∷ b ∷ fields)) 3) (is_odd fields) (at_least_three (length fields)))
    where
      pairs : List PlacedPair
      pairs = by_twos fields

      are_all : Bool
      are_all = (an_id rules id.1 && (an_id rules a.1 && (an_id rules b.1 && true))) && list_all (is_pair rules) (map bare pairs)

      tested : (ok : Bool) → are_all ≡ ok
          → Reads rules (couple_of id a b pairs) (if ok then Ok (CoupleRecord id.1 a.1 b.1 (map pair_of (map bare pairs))) else Err (record_fault_alone BAD_ID))
      tested true h =
          let p = and_parts (an_id rules id.1 && (an_id rules a.1 && (an_id rules b.1 && true))) (list_all (is_pair rules) (map bare pairs)) h in
          let q = and_parts (an_id rules id.1) (an_id rules a.1 && (an_id rules b.1 && true)) p.0 in
          let r = and_parts (an_id rules a.1) (an_id rules b.1 && true) q.1 in
          let s = and_parts (an_id rules b.1) true r.1 in
          couple_read id a b pairs q.0 r.0 s.0 p.1
      tested false h =
          own_bad rules (couple_of id a b pairs) refl
          (bad-is (couple_of id a b pairs) ∙ not_all_pairs (an_id rules id.1 && (an_id rules a.1 && (an_id rules b.1 && true))) (list_all (is_pair rules) (map bare pairs)) h)

      by : (few odd : Bool) → few ≡ false
          → Reads rules (record (couple_of id a b pairs) { faults = miscounted (few || odd) }) (couple_by_pairs rules id.1 a.1 b.1 (if odd then None else Some (map bare pairs)))
      by true odd f = cc
      by false true f = (refl, λ k. refl)
      by false false f = tested are_all refl

  withdrawals_of : (kind : Kind) (fields : List Placed) → Reads rules (withdrawal_parts kind fields) (withdraw_by_kind rules (Some kind) (contents fields))
  withdrawals_of kind [] = (refl, λ k. refl)
  withdrawals_of kind (id ∷ []) = by (an_id rules id.1) refl
    where
      by : (ok : Bool) → an_id rules id.1 ≡ ok → Reads rules (withdrawal_of kind id) (if ok && true then Ok (WithdrawRecord kind id.1) else Err (record_fault_alone BAD_ID))
      by true h = withdrawal_read kind id h
      by false h = own_bad rules (withdrawal_of kind id) refl (bad-is (withdrawal_of kind id) ∙ not_all (an_id rules id.1) true (rw h refl))
  withdrawals_of kind (id ∷ x ∷ fields) = by (length (id ∷ x ∷ fields) == 1) (not_one (length fields))
    where
      by : (one : Bool) → one ≡ false → Leads Shows (Some (record_fault_alone FIELD_COUNT)) (own_faults rules (record (withdrawal_of kind id) { faults = miscounted (not one) }))
      by true h = cc
      by false h = (refl, λ k. refl)

  withdrawals : (fields : List Placed) → Reads rules (withdraw_parts fields) (withdraw_record rules (contents fields))
  withdrawals [] = (refl, λ k. refl)
  withdrawals (word ∷ fields) = by (kind_of word.1)
    where
      by : (kind : Option Kind) → Reads rules (withdrawal_by_kind kind fields) (withdraw_by_kind rules kind (contents fields))
      by None = (refl, λ k. refl)
      by (Some kind) = withdrawals_of kind fields

  of_kind : (kind : Option Kind) (fields : List Placed) → Reads rules (parts_by_kind kind fields) (record_by_kind rules kind (contents fields))
  of_kind (Some OfProgram) fields = programs fields
  of_kind (Some OfApplicant) fields = applicants fields
  of_kind (Some OfCouple) fields = couples fields
  of_kind None fields = (refl, λ k. refl)

  pub reads : (fields : List Bytes) → Reads rules (parts_of rules fields) (record_of rules fields)
  reads [] = (refl, λ k. refl)
  reads (word ∷ fields) =
      subst (λ (xs : List Bytes). Reads rules (parts_of rules (word ∷ fields)) (record_of rules (word ∷ xs))) (contents-placed 2 fields)
      (by (rules.withdrawals && bytes_eq word (codes "withdraw")))
    where
      placed : List Placed
      placed = placed_from 2 fields

      by : (b : Bool) → Reads rules (if b then withdraw_parts placed else parts_by_kind (kind_of word) placed)
          (if b then withdraw_record rules (contents placed) else record_by_kind rules (kind_of word) (contents placed))
      by true = withdrawals placed
      by false = of_kind (kind_of word) placed
