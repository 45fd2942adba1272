-- What is among the faults of a record is among all, at its number. An element of a list that passes a test is kept by its filter,
-- and an entry that stands twice is found where it stands.
use Rattle.std.proofs.Common.{◌≡◌, ℕ, ◌+◌, Bool, true, false, not, ◌&&◌, List, [], ◌∷◌, ◌++◌, map, filter, Some, Result, Ok, Err, All, Contains, refl, cond, ap, sym, ◌∙◌, subst}
use Rattle.std.specs.Prelude.{flat_map}
use Rattle.std.proofs.lemmas.List.{append_assoc, append-nil, map-append}
use Rattle.std.proofs.lemmas.List.Elements.{All-nil, All-cons, All-weaker, All-contains, Contains-append_left, Contains-append_right, Contains-push}
use Rattle.mt_terms.specs.declared.codes.TheConstants.{DUPLICATE_ENTRY, UNKNOWN_APPLICANT, UNKNOWN_PROGRAM, NOT_REGISTERED}
use Rattle.mt_terms.specs.Registration.Ids.{Bytes, has_id}
use Rattle.mt_terms.specs.Registration.Faults.{RecordFault}
use Rattle.mt_terms.specs.Registration.Passes.{Numbered, contents}
use Rattle.mt_terms.specs.Registration.Records.{Rules, Record, OfProgram, OfApplicant, OfCouple, record_of}
use Rattle.mt_fault_terms.specs.Faults.{Placed, FieldFault, fault_of}
use Rattle.mt_fault_terms.specs.Parts.{Form, Registers, Withdraws, Unknown, Parts, parts_of, all_own_ids, all_applicants, all_withdrawn}
use Rattle.mt_fault_terms.specs.OfRecord.{is_id_field, own_faults, found_among, missing_among, registered_faults, repeats_after, pair_repeats_after, repeat_faults, limit_faults, unknown_faults, first_faults, record_faults}
use Rattle.mt_fault_terms.specs.OfFile.{all_parts, faults_after, faults_under}
use Rattle.mt_fault_laws.specs.Complete.{Rows, UnreadRecordsHaveFaults, HaveFaults, UnknownEntriesHaveFaults, RepeatedEntriesHaveFaults}
use Rattle.mt_fault_laws.proofs.Leading.{Leads, Shows}
use Rattle.mt_fault_laws.proofs.Reading.{both, Reads}
use Rattle.mt_fault_laws.proofs.Records.{reads}

-- an element at the front, and behind another
here : {X : Type 0} (x : X) (xs : List X) → Contains (x ∷ xs) x
here x xs = Contains-append_left (x ∷ []) xs x (Contains-push [] x)

later : {X : Type 0} (y : X) (xs : List X) (x : X) → Contains xs x → Contains (y ∷ xs) x
later y xs x h = Contains-append_right (y ∷ []) xs x h

-- a changed list has the changed elements
all_map : {X Y : Type 0} (f : X → Y) (xs : List X) → All (λ x. Contains (map f xs) (f x)) xs
all_map f [] = All-nil (λ x. Contains (map f []) (f x))
all_map f (y ∷ ys) =
    All-cons (λ x. Contains (f y ∷ map f ys) (f x)) y ys (here (f y) (map f ys))
    (All-weaker (λ x. Contains (map f ys) (f x)) (λ x. Contains (f y ∷ map f ys) (f x)) (λ x h. later (f y) (map f ys) (f x) h) ys (all_map f ys))

mapped : {X Y : Type 0} (f : X → Y) (xs : List X) (x : X) → Contains xs x → Contains (map f xs) (f x)
mapped f xs x h = All-contains (λ z. Contains (map f xs) (f z)) xs x (all_map f xs) h

-- a filtered list has the elements that pass
all_kept : {X : Type 0} (test : X → Bool) (xs : List X) → All (λ x. test x ≡ true → Contains (filter test xs) x) xs
all_kept test [] = All-nil (λ x. test x ≡ true → Contains (filter test []) x)
all_kept {X = X} test (y ∷ ys) =
    All-cons (λ x. test x ≡ true → Contains (filter test (y ∷ ys)) x) y ys (first (test y))
    (All-weaker (λ x. test x ≡ true → Contains (filter test ys) x) (λ x. test x ≡ true → Contains (filter test (y ∷ ys)) x) (λ x h t. behind (test y) x (h t)) ys (all_kept test ys))
  where
    first : (b : Bool) → b ≡ true → Contains (cond b (y ∷ filter test ys) (filter test ys)) y
    first true h = here y (filter test ys)
    first false h = cc

    behind : (b : Bool) (x : X) → Contains (filter test ys) x → Contains (cond b (y ∷ filter test ys) (filter test ys)) x
    behind true x h = later y (filter test ys) x h
    behind false x h = h

kept : {X : Type 0} (test : X → Bool) (xs : List X) (x : X) → Contains xs x → test x ≡ true → Contains (filter test xs) x
kept test xs x h t = All-contains (λ z. test z ≡ true → Contains (filter test xs) z) xs x (all_kept test xs) h t

module _ (rules : Rules) where
  -- a fault of a record is among those of the file
  at_record : (all : List Parts) (earlier before : Rows) (n : ℕ) (fields : List Bytes) (after : Rows) (fault : FieldFault)
      → Contains (record_faults rules all (all_parts rules (earlier ++ before)) (parts_of rules fields)) fault
      → Contains (faults_after rules all (all_parts rules earlier) (before ++ (n, fields) ∷ after)) (n, fault)
  at_record all earlier [] n fields after fault h =
      Contains-append_left (map (λ (f : FieldFault). (n, f)) (record_faults rules all (all_parts rules earlier) (parts_of rules fields))) _ (n, fault)
      (mapped (λ (f : FieldFault). (n, f)) (record_faults rules all (all_parts rules earlier) (parts_of rules fields)) fault
      (subst (λ (rs : Rows). Contains (record_faults rules all (all_parts rules rs) (parts_of rules fields)) fault) (append-nil earlier) h))
  at_record all earlier (row ∷ before) n fields after fault h =
      Contains-append_right (map (λ (f : FieldFault). (row.0, f)) (record_faults rules all (all_parts rules earlier) (parts_of rules row.1))) _ (n, fault)
      (subst (λ (ps : List Parts). Contains (faults_after rules all ps (before ++ (n, fields) ∷ after)) (n, fault)) (map-append (λ (r : Numbered (List Bytes)). parts_of rules r.1) earlier (row ∷ []))
      (at_record all (earlier ++ row ∷ []) before n fields after fault
      (subst (λ (rs : Rows). Contains (record_faults rules all (all_parts rules rs) (parts_of rules fields)) fault) (sym (append_assoc earlier (row ∷ []) before)) h)))

  module _ (before : Rows) (n : ℕ) (fields : List Bytes) (after : Rows) where
    abbrev rows : Rows
    rows = before ++ (n, fields) ∷ after

    abbrev parts : Parts
    parts = parts_of rules fields

    abbrev earlier_parts : List Parts
    earlier_parts = all_parts rules before

    among_all : (fault : FieldFault) → Contains (record_faults rules (all_parts rules rows) earlier_parts parts) fault → Contains (faults_under rules rows) (n, fault)
    among_all fault h = at_record (all_parts rules rows) [] before n fields after fault h

    of_first : (fault : FieldFault) → Contains (first_faults rules earlier_parts parts) fault → Contains (faults_under rules rows) (n, fault)
    of_first fault h = among_all fault (Contains-append_left (first_faults rules earlier_parts parts) (unknown_faults rules (all_parts rules rows) parts) fault h)

    of_unknown : (fault : FieldFault) → Contains (unknown_faults rules (all_parts rules rows) parts) fault → Contains (faults_under rules rows) (n, fault)
    of_unknown fault h = among_all fault (Contains-append_right (first_faults rules earlier_parts parts) (unknown_faults rules (all_parts rules rows) parts) fault h)

    abbrev own : List FieldFault
    own = own_faults rules parts

    abbrev registered : List FieldFault
    registered = registered_faults rules earlier_parts parts

    abbrev repeats : List FieldFault
    repeats = repeat_faults rules earlier_parts parts

    of_own : (fault : FieldFault) → Contains own fault → Contains (first_faults rules earlier_parts parts) fault
    of_own fault h =
        Contains-append_left (own ++ registered ++ repeats) (limit_faults rules earlier_parts parts) fault
        (Contains-append_left (own ++ registered) repeats fault (Contains-append_left own registered fault h))

    -- a record that cannot be read
    unread : (named : RecordFault) (o : Result Record RecordFault) → o ≡ Err named → Reads rules parts o
        → (fault : FieldFault) × (fault.code ≡ named.0) × Contains (faults_under rules rows) (n, fault)
    unread named (Ok r) e h = cc
    unread named (Err c) e h =
        let same : c ≡ named = cc in
        let led : Leads Shows (Some named) (own_faults rules parts) = subst (λ (d : RecordFault). Leads Shows (Some d) (own_faults rules parts)) same h in
        by (own_faults rules parts) refl led
      where
        by : (faults : List FieldFault) → own_faults rules parts ≡ faults → Leads Shows (Some named) faults
            → (fault : FieldFault) × (fault.code ≡ named.0) × Contains (faults_under rules rows) (n, fault)
        by [] s k = absurd k
        by (fault ∷ faults) s k =
            (fault, k.0, of_first fault (of_own fault (subst (λ (fs : List FieldFault). Contains fs fault) (sym s) (here fault faults))))

    -- an entry that no record registers
    missing : (code : ℕ) (ids : List Bytes) (xs : List Placed) (field : Placed) → is_id_field rules field ≡ true → has_id ids field.1 ≡ false → Contains xs field
        → Contains (missing_among rules code ids xs) (fault_of code field)
    missing code ids xs field i e h =
        mapped (fault_of code) (filter (λ (x : Placed). is_id_field rules x && not (has_id ids x.1)) xs) field
        (kept (λ (x : Placed). is_id_field rules x && not (has_id ids x.1)) xs field h (rw (i, e) refl))

    by_form : (form : Form) (fault : FieldFault) → parts.form ≡ form → Contains (unknown_faults rules (all_parts rules rows) (record parts { form = form })) fault
        → Contains (faults_under rules rows) (n, fault)
    by_form form fault e h =
        of_unknown fault (subst (λ (f : Form). Contains (unknown_faults rules (all_parts rules rows) (record parts { form = f })) fault) (sym e) h)

    unknown_entries : (field : Placed) → is_id_field rules field ≡ true → HaveFaults rules (all_parts rules rows) parts field (λ fault. Contains (faults_under rules rows) (n, fault))
    unknown_entries field i = record {
      of_program = λ e h m. by_form (Registers OfProgram) (fault_of UNKNOWN_APPLICANT field) e (missing UNKNOWN_APPLICANT (all_applicants rules (all_parts rules rows)) parts.list field i m h);
      of_applicant = λ e h m. by_form (Registers OfApplicant) (fault_of UNKNOWN_PROGRAM field) e (missing UNKNOWN_PROGRAM (all_own_ids rules OfProgram (all_parts rules rows)) parts.list field i m h);
      of_couple = λ e h m.
          by_form (Registers OfCouple) (fault_of UNKNOWN_PROGRAM field) e (missing UNKNOWN_PROGRAM (all_own_ids rules OfProgram (all_parts rules rows)) (flat_map both parts.pairs) field i m h);
      of_withdrawal = λ kind e h m. by_form (Withdraws kind) (fault_of NOT_REGISTERED field) e (missing NOT_REGISTERED (all_own_ids rules kind (all_parts rules rows)) parts.names field i m h);
    }

    -- an entry that stands twice
    repeated : (met : List Bytes) (earlier : List Placed) (field : Placed) (others : List Placed) → is_id_field rules field ≡ true → has_id (met ++ contents earlier) field.1 ≡ true
        → Contains (repeats_after rules met (earlier ++ field ∷ others)) (fault_of DUPLICATE_ENTRY field)
    repeated met [] field others i h =
        Contains-append_left (found_among rules DUPLICATE_ENTRY met (field ∷ [])) _ (fault_of DUPLICATE_ENTRY field)
        (mapped (fault_of DUPLICATE_ENTRY) (filter (λ (x : Placed). is_id_field rules x && has_id met x.1) (field ∷ [])) field
        (kept (λ (x : Placed). is_id_field rules x && has_id met x.1) (field ∷ []) field (here field []) (rw (i, ap (λ (xs : List Bytes). has_id xs field.1) (sym (append-nil met)) ∙ h) refl)))
    repeated met (x ∷ earlier) field others i h =
        Contains-append_right (found_among rules DUPLICATE_ENTRY met (x ∷ [])) _ (fault_of DUPLICATE_ENTRY field)
        (repeated (met ++ x.1 ∷ []) earlier field others i (ap (λ (xs : List Bytes). has_id xs field.1) (append_assoc met (x.1 ∷ []) (contents earlier)) ∙ h))

    in_lists : (others : List FieldFault) (fault : FieldFault) → Contains (repeats_after rules [] parts.list) fault
        → Contains (repeats_after rules [] parts.list ++ pair_repeats_after rules [] parts.pairs ++ others) fault
    in_lists others fault h =
        Contains-append_left (repeats_after rules [] parts.list ++ pair_repeats_after rules [] parts.pairs) others fault
        (Contains-append_left (repeats_after rules [] parts.list) (pair_repeats_after rules [] parts.pairs) fault h)

    in_list : (form : Form) (fault : FieldFault) → Contains (repeats_after rules [] parts.list) fault → Contains (repeat_faults rules earlier_parts (record parts { form = form })) fault
    in_list (Registers kind) fault h = in_lists [] fault h
    in_list (Withdraws kind) fault h = in_lists (found_among rules DUPLICATE_ENTRY (all_withdrawn rules kind earlier_parts) parts.names) fault h
    in_list Unknown fault h = in_lists [] fault h

    of_repeats : (fault : FieldFault) → Contains (repeats_after rules [] parts.list) fault → Contains (faults_under rules rows) (n, fault)
    of_repeats fault h =
        of_first fault
        (Contains-append_left (own ++ registered ++ repeats) (limit_faults rules earlier_parts parts) fault
        (Contains-append_right (own ++ registered) repeats fault (in_list parts.form fault h)))

pub unread_records_have_faults_lem : UnreadRecordsHaveFaults
unread_records_have_faults_lem rules before n fields after named e = unread rules before n fields after named (record_of rules fields) e (reads rules fields)

pub unknown_entries_have_faults_lem : UnknownEntriesHaveFaults
unknown_entries_have_faults_lem rules before n fields after field i = unknown_entries rules before n fields after field i

pub repeated_entries_have_faults_lem : RepeatedEntriesHaveFaults
repeated_entries_have_faults_lem rules before n fields after earlier field others e i h =
    of_repeats rules before n fields after (fault_of DUPLICATE_ENTRY field)
    (subst (λ (xs : List Placed). Contains (repeats_after rules [] xs) (fault_of DUPLICATE_ENTRY field)) (sym e) (repeated rules before n fields after [] earlier field others i h))
