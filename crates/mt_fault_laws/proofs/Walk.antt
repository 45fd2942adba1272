-- A walk along the records of a file beside the first pass of a match: before its first fault no record has one of the first pass,
-- and parts register what records do. So its fault comes first of these, and without one the second pass meets the others in order.
use Rattle.std.proofs.Common.{◌≡◌, ℕ, ◌+◌, Bool, true, false, ◌||◌, ◌&&◌, nat_lt, nat_le, List, [], ◌∷◌, ◌++◌, map, length, length-append, Option, Some, None, Result, Ok, Err, refl, ap, sym, ◌∙◌, subst, arith}
use Rattle.std.specs.Prelude.{option_map, option_to_list, find, flat_map, if◌then◌else◌}
use Rattle.std.specs.Bool.{then_some}
use Rattle.std.specs.List.{list_all}
use Rattle.std.proofs.lemmas.Bool.{and_parts, or_parts}
use Rattle.std.proofs.lemmas.Bool.Decides.{nat_tests}
use Rattle.std.proofs.lemmas.List.{append-nil, append_assoc}
use Rattle.std.proofs.lemmas.List.Sums.{sum_by_push}
use Rattle.std.proofs.lemmas.Grind.{flat_map-append}
use Rattle.mt_terms.specs.declared.codes.TheConstants.{DUPLICATE_ID, DUPLICATE_ENTRY, TOO_MANY}
use Rattle.mt_terms.specs.Registration.Ids.{Bytes}
use Rattle.mt_terms.specs.Registration.Faults.{Fault, RecordFault, record_fault, fault_at}
use Rattle.mt_terms.specs.Registration.Records.{Rules, Record, Kind, OfProgram, OfCouple, record_of}
use Rattle.mt_terms.specs.Registration.Rows.{id_of, own_id, ids_of, withdrawn_id, withdrawn, applicants_of, applicant_ids, entries_of, entry_count}
use Rattle.mt_terms.specs.Registration.Passes.{Numbered, contents, first_of, and_then, unless, at_record, registered_before, says_twice, are_too_many, first_conflict, first_pass, unknown_id}
use Rattle.mt_record_laws.proofs.GrowthFacts.{applicant_ids-more, ids_of-more, withdrawn-more, entry_count-more}
use Rattle.mt_record_laws.proofs.FirstPassFacts.{contents_push}
use Rattle.mt_fault_terms.specs.Faults.{FieldFault, FileFault}
use Rattle.mt_fault_terms.specs.Parts.{Parts, parts_of, own_ids, applicants_among, withdrawn_ids, entries_among, all_own_ids, all_applicants, all_withdrawn, all_entries}
use Rattle.mt_fault_terms.specs.OfRecord.{id_among, own_faults, registered_faults, repeat_faults, passes, limit_faults, unknown_faults, first_faults}
use Rattle.mt_fault_terms.specs.OfFile.{all_parts, faults_after}
use Rattle.mt_fault_laws.specs.Accepted.{is_of_first_pass, IsNamed}
use Rattle.mt_fault_laws.proofs.Leading.{Leads, Shows, leads_nil, leads_next, leads_last, leads_front, leads_at, any_of_four, three_joined, four_joined}
use Rattle.mt_fault_laws.proofs.Reading.{Agree, IsRead, Reads}
use Rattle.mt_fault_laws.proofs.Records.{reads}
use Rattle.mt_fault_laws.proofs.Codes.{is_first, limit_fault, first_are_first, find_past}

-- a fault is found, and it is the one that a match names
abbrev pub FindsNamed : Option FileFault → Fault → Type 0
FindsNamed found named = (fault : FileFault) × (found ≡ Some fault) × IsNamed named fault

-- the first of a record's faults is the first of all that the first pass finds
front_is_first : (n : ℕ) (c : RecordFault) (firsts others : List FieldFault) (rest : List FileFault) → Leads Shows (Some c) firsts → list_all is_first firsts ≡ true
    → FindsNamed (find is_of_first_pass (map (λ (fault : FieldFault). (n, fault)) (firsts ++ others) ++ rest)) (fault_at n c)
front_is_first n c [] others rest h k = absurd h
front_is_first n c (fault ∷ firsts) others rest h k =
    let p : (is_first fault ≡ true) × (list_all is_first firsts ≡ true) = and_parts (is_first fault) _ k in
    ((n, fault), rw p.0 refl, record { row = refl; code = h.0; id = h.1 })

-- the fault of the second pass at these records
abbrev pub second_fault : List Record → List (Numbered Record) → Option Fault
second_fault all records = first_of (map (λ r. option_map (fault_at r.0) (unknown_id all r.1)) records)

-- what is so if the first pass takes all records
pub record IsPassed (rules : Rules) (ps : List Parts) (before : List (Numbered Record)) (rows : List (Numbered (List Bytes))) (given : List (Numbered Record)) : Type 0 where
  pub more : List (Numbered Record)
  pub all : given ≡ before ++ more
  pub agree : Agree rules (ps ++ all_parts rules rows) (contents given)
  pub later : (every : List Parts) (records : List Record) → Agree rules every records → Leads IsNamed (second_fault records more) (faults_after rules every ps rows)
  pub none_first : (every : List Parts) → find is_of_first_pass (faults_after rules every ps rows) ≡ None

abbrev pub Outcome : Rules → List Parts → List (Numbered Record) → List (Numbered (List Bytes)) → Result (List (Numbered Record)) Fault → Type 0
Outcome rules ps before rows (Ok given) = IsPassed rules ps before rows given
Outcome rules ps before rows (Err named) = (every : List Parts) → FindsNamed (find is_of_first_pass (faults_after rules every ps rows)) named

-- by the rules of a version
module _ (rules : Rules) where
  pub agree_nil : Agree rules [] []
  agree_nil = record { own = λ kind. refl; applicants = refl; withdrawn_too = λ kind. refl; entries = refl }

  flat_map-push : {X Y : Type 0} (f : X → List Y) (xs : List X) (x : X) → flat_map f (xs ++ x ∷ []) ≡ flat_map f xs ++ f x
  flat_map-push f xs x = flat_map-append f xs (x ∷ []) ∙ ap (λ ys. flat_map f xs ++ ys) (append-nil (f x))

  joined : {X : Type 0} (xs xs' ys ys' : List X) → xs ≡ xs' → ys ≡ ys' → xs ++ ys ≡ xs' ++ ys'
  joined xs xs' ys ys' e f = ap (λ zs. zs ++ ys) e ∙ ap (λ zs. xs' ++ zs) f

  added : (m m' n n' : ℕ) → m ≡ m' → n ≡ n' → m + n ≡ m' + n'
  added m m' n n' e f = ap (λ k. k + n) e ∙ ap (λ k. m' + k) f

  -- a record more
  agree_more : (ps : List Parts) (rs : List Record) (p : Parts) (r : Record) → Agree rules ps rs → IsRead rules p r → Agree rules (ps ++ p ∷ []) (rs ++ r ∷ [])
  agree_more ps rs p r a i = record {
    own = λ kind.
        flat_map-push (own_ids rules kind) ps p ∙ joined (all_own_ids rules kind ps) (ids_of kind rs) (own_ids rules kind p) (option_to_list (own_id kind r)) (a.own kind) (i.own kind)
        ∙ sym (ids_of-more rs r kind);
    applicants =
        flat_map-push (applicants_among rules) ps p ∙ joined (all_applicants rules ps) (applicant_ids rs) (applicants_among rules p) (applicants_of r) a.applicants i.applicants
        ∙ sym (applicant_ids-more rs r);
    withdrawn_too = λ kind.
        flat_map-push (withdrawn_ids rules kind) ps p
        ∙ joined (all_withdrawn rules kind ps) (withdrawn kind rs) (withdrawn_ids rules kind p) (option_to_list (withdrawn_id kind r)) (a.withdrawn_too kind) (i.withdrawn_too kind)
        ∙ sym (withdrawn-more rs r kind);
    entries =
        sum_by_push entries_among ps p ∙ added (all_entries ps) (entry_count rs) (entries_among p) (entries_of r) a.entries i.entries
        ∙ sym (entry_count-more rs r);
  }

  -- a limit that is passed with a record, if it isn't before
  one_limit : (limit was more total : ℕ) → total ≡ was + more → nat_lt limit was ≡ false → passes limit was more ≡ nat_lt limit total
  one_limit limit was more total e h = ap (λ (b : Bool). b && nat_lt limit (was + more)) (at_most limit was h) ∙ ap (nat_lt limit) (sym e)
    where
      at_most : (limit was : ℕ) → nat_lt limit was ≡ false → nat_le was limit ≡ true
      at_most limit was k = grind (arith, nat_tests)

  here_leads : (b c : Bool) (id own : Bytes) → id ≡ own → b ≡ c
      → Leads Shows (then_some c (record_fault TOO_MANY own)) (if b then record { code = TOO_MANY; field = 0; id = id } ∷ [] else [])
  here_leads true true id own e h = (refl, λ k. e)
  here_leads true false id own e h = cc
  here_leads false true id own e h = cc
  here_leads false false id own e h = tt

  module _ (ps : List Parts) (rs : List Record) (a : Agree rules ps rs) (few : are_too_many rules.limits rs ≡ false) (p : Parts) (r : Record) (i : IsRead rules p r) where
    -- a limit that is passed with the record, as a match names it
    abbrev limit_option : ℕ → ℕ → Option RecordFault
    limit_option limit total = then_some (nat_lt limit total) (record_fault TOO_MANY (id_of r))

    limit_leads : (limit was more total counted : ℕ) → was ≡ counted → total ≡ was + more → nat_lt limit counted ≡ false → Leads Shows (limit_option limit total) (limit_fault rules p limit was more)
    limit_leads limit was more total counted w e h =
        here_leads (passes limit was more) (nat_lt limit total) (id_among rules p.names) (id_of r) i.id (one_limit limit was more total e (ap (nat_lt limit) w ∙ h))

    more_own : (kind : Kind) → length (ids_of kind (rs ++ r ∷ [])) ≡ length (all_own_ids rules kind ps) + length (all_own_ids rules kind (p ∷ []))
    more_own kind =
        ap length (ids_of-more rs r kind) ∙ length-append (ids_of kind rs) (option_to_list (own_id kind r))
        ∙ added (length (ids_of kind rs)) (length (all_own_ids rules kind ps)) (length (option_to_list (own_id kind r))) (length (all_own_ids rules kind (p ∷ [])))
        (ap length (sym (a.own kind))) (ap length (sym (append-nil (own_ids rules kind p) ∙ i.own kind)))

    more_applicants : length (applicant_ids (rs ++ r ∷ [])) ≡ length (all_applicants rules ps) + length (applicants_among rules p)
    more_applicants =
        ap length (applicant_ids-more rs r) ∙ length-append (applicant_ids rs) (applicants_of r)
        ∙ added (length (applicant_ids rs)) (length (all_applicants rules ps)) (length (applicants_of r)) (length (applicants_among rules p))
        (ap length (sym a.applicants)) (ap length (sym i.applicants))

    more_entries : entry_count (rs ++ r ∷ []) ≡ all_entries ps + entries_among p
    more_entries = entry_count-more rs r ∙ added (entry_count rs) (all_entries ps) (entries_of r) (entries_among p) (sym a.entries) (sym i.entries)

    limits_lead : Leads Shows (then_some (are_too_many rules.limits (rs ++ r ∷ [])) (record_fault TOO_MANY (id_of r))) (limit_faults rules ps p)
    limits_lead =
        let applicants : Bool = nat_lt rules.limits.applicants (length (applicant_ids rs)) in
        let programs : Bool = nat_lt rules.limits.programs (length (ids_of OfProgram rs)) in
        let couples : Bool = nat_lt rules.limits.couples (length (ids_of OfCouple rs)) in
        let entries : Bool = nat_lt rules.limits.entries (entry_count rs) in
        let e : ((applicants || programs || couples) ≡ false) × (entries ≡ false) = or_parts (applicants || programs || couples) entries few in
        let f : ((applicants || programs) ≡ false) × (couples ≡ false) = or_parts (applicants || programs) couples e.0 in
        let g : (applicants ≡ false) × (programs ≡ false) = or_parts applicants programs f.0 in
        let o1 : Option RecordFault = limit_option rules.limits.applicants (length (applicant_ids (rs ++ r ∷ []))) in
        let o2 : Option RecordFault = limit_option rules.limits.programs (length (ids_of OfProgram (rs ++ r ∷ []))) in
        let o3 : Option RecordFault = limit_option rules.limits.couples (length (ids_of OfCouple (rs ++ r ∷ []))) in
        let o4 : Option RecordFault = limit_option rules.limits.entries (entry_count (rs ++ r ∷ [])) in
        let x1 : List FieldFault = limit_fault rules p rules.limits.applicants (length (all_applicants rules ps)) (length (applicants_among rules p)) in
        let x2 : List FieldFault = limit_fault rules p rules.limits.programs (length (all_own_ids rules OfProgram ps)) (length (all_own_ids rules OfProgram (p ∷ []))) in
        let x3 : List FieldFault = limit_fault rules p rules.limits.couples (length (all_own_ids rules OfCouple ps)) (length (all_own_ids rules OfCouple (p ∷ []))) in
        let x4 : List FieldFault = limit_fault rules p rules.limits.entries (all_entries ps) (entries_among p) in
        let l1 : Leads Shows o1 x1 = limit_leads rules.limits.applicants _ _ _ (length (applicant_ids rs)) (ap length a.applicants) more_applicants g.0 in
        let l2 : Leads Shows o2 x2 = limit_leads rules.limits.programs _ _ _ (length (ids_of OfProgram rs)) (ap length (a.own OfProgram)) (more_own OfProgram) g.1 in
        let l3 : Leads Shows o3 x3 = limit_leads rules.limits.couples _ _ _ (length (ids_of OfCouple rs)) (ap length (a.own OfCouple)) (more_own OfCouple) f.1 in
        let l4 : Leads Shows o4 x4 = limit_leads rules.limits.entries _ _ _ (entry_count rs) a.entries more_entries e.1 in
        let first : Leads Shows (first_of (o1 ∷ o2 ∷ o3 ∷ o4 ∷ [])) (x1 ++ (x2 ++ (x3 ++ x4))) =
        leads_next Shows o1 (o2 ∷ o3 ∷ o4 ∷ []) x1 (x2 ++ (x3 ++ x4)) l1
        (leads_next Shows o2 (o3 ∷ o4 ∷ []) x2 (x3 ++ x4) l2 (leads_next Shows o3 (o4 ∷ []) x3 x4 l3 (leads_last Shows o4 x4 l4))) in
        let joined_leads : Leads Shows (first_of (o1 ∷ o2 ∷ o3 ∷ o4 ∷ [])) (x1 ++ x2 ++ x3 ++ x4) =
        subst (λ (xs : List FieldFault). Leads Shows (first_of (o1 ∷ o2 ∷ o3 ∷ o4 ∷ [])) xs) (sym (four_joined x1 x2 x3 x4)) first in
        subst (λ (q : Option RecordFault). Leads Shows q (x1 ++ x2 ++ x3 ++ x4))
        (sym (any_of_four (nat_lt rules.limits.applicants (length (applicant_ids (rs ++ r ∷ [])))) (nat_lt rules.limits.programs (length (ids_of OfProgram (rs ++ r ∷ []))))
        (nat_lt rules.limits.couples (length (ids_of OfCouple (rs ++ r ∷ [])))) (nat_lt rules.limits.entries (entry_count (rs ++ r ∷ []))) (record_fault TOO_MANY (id_of r))))
        joined_leads

    -- what a record that is read has beside those before it begins with its first conflict
    conflict_leads : Leads Shows (first_conflict rules rs r) (first_faults rules ps p)
    conflict_leads =
        let o1 : Option RecordFault = option_map (record_fault DUPLICATE_ID) (registered_before rs r) in
        let o2 : Option RecordFault = then_some (says_twice rs r) (record_fault DUPLICATE_ENTRY (id_of r)) in
        let o3 : Option RecordFault = then_some (are_too_many rules.limits (rs ++ r ∷ [])) (record_fault TOO_MANY (id_of r)) in
        let registered : List FieldFault = registered_faults rules ps p in
        let repeats : List FieldFault = repeat_faults rules ps p in
        let limits : List FieldFault = limit_faults rules ps p in
        let clean : first_faults rules ps p ≡ registered ++ (repeats ++ limits) =
        ap (λ (own : List FieldFault). own ++ registered ++ repeats ++ limits) i.clean ∙ three_joined registered repeats limits in
        subst (λ (faults : List FieldFault). Leads Shows (first_of (o1 ∷ o2 ∷ o3 ∷ [])) faults) (sym clean)
        (leads_next Shows o1 (o2 ∷ o3 ∷ []) registered (repeats ++ limits) (i.registered ps rs a)
        (leads_next Shows o2 (o3 ∷ []) repeats limits (i.repeated ps rs a) (leads_last Shows o3 limits limits_lead)))

  -- a record without a fault of the first pass, before others
  module _ (ps : List Parts) (before : List (Numbered Record)) (n : ℕ) (fields : List Bytes) (rows : List (Numbered (List Bytes))) (r : Record)
      (i : IsRead rules (parts_of rules fields) r) (none : first_faults rules ps (parts_of rules fields) ≡ []) where
    abbrev pushed : List (Numbered Record)
    pushed = before ++ (n, r) ∷ []

    abbrev more_parts : List Parts
    more_parts = ps ++ parts_of rules fields ∷ []

    next_faults : (every : List Parts) → faults_after rules every ps ((n, fields) ∷ rows)
        ≡ map (λ (fault : FieldFault). (n, fault)) (unknown_faults rules every (parts_of rules fields)) ++ faults_after rules every more_parts rows
    next_faults every = ap (λ (fs : List FieldFault). map (λ (fault : FieldFault). (n, fault)) (fs ++ unknown_faults rules every (parts_of rules fields)) ++ faults_after rules every more_parts rows) none

    past : (every : List Parts) → find is_of_first_pass (faults_after rules every ps ((n, fields) ∷ rows)) ≡ find is_of_first_pass (faults_after rules every more_parts rows)
    past every = ap (find is_of_first_pass) (next_faults every) ∙ find_past rules every (parts_of rules fields) n (faults_after rules every more_parts rows)

    passed_on : (o : Result (List (Numbered Record)) Fault) → Outcome rules more_parts pushed rows o → Outcome rules ps before ((n, fields) ∷ rows) o
    passed_on (Err named) h = λ every. let f = h every in (f.0, past every ∙ f.1, f.2)
    passed_on (Ok given) h = record {
      more = (n, r) ∷ h.more;
      all = h.all ∙ append_assoc before ((n, r) ∷ []) h.more;
      agree = subst (λ (xs : List Parts). Agree rules xs (contents given)) (append_assoc ps (parts_of rules fields ∷ []) (all_parts rules rows)) h.agree;
      later = λ every records a.
          subst (λ (fs : List FileFault). Leads IsNamed (second_fault records ((n, r) ∷ h.more)) fs) (sym (next_faults every))
          (leads_next IsNamed (option_map (fault_at n) (unknown_id records r)) (map (λ (q : Numbered Record). option_map (fault_at q.0) (unknown_id records q.1)) h.more) (map (λ (fault : FieldFault). (n, fault)) (unknown_faults rules every (parts_of rules fields))) (faults_after rules every more_parts rows)
          (leads_at n (unknown_id records r) (unknown_faults rules every (parts_of rules fields)) (i.unknown every records a)) (h.later every records a));
      none_first = λ every. past every ∙ h.none_first every;
    }

  -- no conflict, and so not too many
  not_too_many : (o p : Option RecordFault) (b : Bool) (c : RecordFault) → first_of (o ∷ p ∷ then_some b c ∷ []) ≡ None → b ≡ false
  not_too_many (Some x) p b c h = cc
  not_too_many None (Some x) b c h = cc
  not_too_many None None true c h = cc
  not_too_many None None false c h = refl

  pub walk : (rows : List (Numbered (List Bytes))) (ps : List Parts) (before : List (Numbered Record)) → Agree rules ps (contents before) → are_too_many rules.limits (contents before) ≡ false
      → Outcome rules ps before rows (first_pass rules before rows)
  walk [] ps before a few = record {
    more = [];
    all = sym (append-nil before);
    agree = rw (append-nil ps) a;
    later = λ every records g. tt;
    none_first = λ every. refl;
  }
  walk (row ∷ rows) ps before a few = by (record_of rules row.1) (reads rules row.1) (λ r b f. walk rows (ps ++ parts ∷ []) (before ++ (row.0, r) ∷ []) b f)
    where
      parts : Parts
      parts = parts_of rules row.1

      firsts : List FieldFault
      firsts = first_faults rules ps parts

      -- the first of its own faults, or of its conflicts
      ends : (c : RecordFault) → Leads Shows (Some c) firsts → Outcome rules ps before (row ∷ rows) (Err (fault_at row.0 c))
      ends c h = λ every. front_is_first row.0 c firsts (unknown_faults rules every parts) (faults_after rules every (ps ++ parts ∷ []) rows) h (first_are_first rules ps row.1)

      own_leads : (c : RecordFault) → Leads Shows (Some c) (own_faults rules parts) → Leads Shows (Some c) firsts
      own_leads c h =
          let own : List FieldFault = own_faults rules parts in
          let registered : List FieldFault = registered_faults rules ps parts in
          let repeats : List FieldFault = repeat_faults rules ps parts in
          leads_front Shows c (own ++ registered ++ repeats) (limit_faults rules ps parts) (leads_front Shows c (own ++ registered) repeats (leads_front Shows c own registered h))

      goes_on : (r : Record) → IsRead rules parts r → (o : Option RecordFault) → first_conflict rules (contents before) r ≡ o → Leads Shows o firsts
          → (Agree rules (ps ++ parts ∷ []) (contents (before ++ (row.0, r) ∷ [])) → are_too_many rules.limits (contents (before ++ (row.0, r) ∷ [])) ≡ false
          → Outcome rules (ps ++ parts ∷ []) (before ++ (row.0, r) ∷ []) rows (first_pass rules (before ++ (row.0, r) ∷ []) rows))
          → Outcome rules ps before (row ∷ rows) (and_then (at_record row.0 (unless o r)) (λ q. first_pass rules (before ++ (row.0, q) ∷ []) rows))
      goes_on r i (Some c) e h ih = ends c h
      goes_on r i None e h ih =
          let pushed : contents (before ++ (row.0, r) ∷ []) ≡ contents before ++ r ∷ [] = contents_push before row.0 r in
          passed_on ps before row.0 row.1 rows r i (leads_nil Shows firsts h) (first_pass rules (before ++ (row.0, r) ∷ []) rows)
          (ih (subst (λ (rs : List Record). Agree rules (ps ++ parts ∷ []) rs) (sym pushed) (agree_more ps (contents before) parts r a i))
          (ap (are_too_many rules.limits) pushed ∙ not_too_many (option_map (record_fault DUPLICATE_ID) (registered_before (contents before) r)) (then_some (says_twice (contents before) r) (record_fault DUPLICATE_ENTRY (id_of r)))
          (are_too_many rules.limits (contents before ++ r ∷ [])) (record_fault TOO_MANY (id_of r)) e))

      by : (o : Result Record RecordFault) → Reads rules parts o
          → ((r : Record) → Agree rules (ps ++ parts ∷ []) (contents (before ++ (row.0, r) ∷ [])) → are_too_many rules.limits (contents (before ++ (row.0, r) ∷ [])) ≡ false
          → Outcome rules (ps ++ parts ∷ []) (before ++ (row.0, r) ∷ []) rows (first_pass rules (before ++ (row.0, r) ∷ []) rows))
          → Outcome rules ps before (row ∷ rows) (and_then (at_record row.0 (and_then o (λ r. unless (first_conflict rules (contents before) r) r))) (λ r. first_pass rules (before ++ (row.0, r) ∷ []) rows))
      by (Err c) h ih = ends c (own_leads c h)
      by (Ok r) h ih = goes_on r h (first_conflict rules (contents before) r) refl (conflict_leads ps (contents before) a few parts r h) (ih r)
