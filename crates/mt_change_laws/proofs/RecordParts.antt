-- The records of an accepted file before a row, of the row, and after it. Rows without a field are passed over, and the
-- first other row names the version.
use Rattle.std.proofs.Common.{◌≡◌, Bool, true, false, List, [], ◌∷◌, ◌++◌, Option, Some, None, Ok, Err, refl, sym, ap, ◌∙◌, if◌then◌else◌, option_map, option_and_then}
use Rattle.std.specs.Option.{option_map_or}
use Rattle.std.specs.Result.{result_ok}
use Rattle.mt_terms.specs.Market.{Registered}
use Rattle.mt_terms.specs.Registration.{market_of, market_of_numbered, market_under}
use Rattle.mt_terms.specs.Registration.Ids.{Bytes}
use Rattle.mt_terms.specs.Registration.Numbering.{registered}
use Rattle.mt_terms.specs.Registration.Passes.{Numbered, contents, numbered_from}
use Rattle.mt_terms.specs.Registration.Records.{Record, Rules, rules_of}
use Rattle.mt_draft_laws.specs.Faultless.{draft, drafts, faultless_market, is_faultless}
use Rattle.mt_file_laws.proofs.FaultlessFacts.{passes_agree}
use Rattle.mt_drafts.specs.Drafts.{with_fields}
use Rattle.mt_drafts.proofs.DraftFacts.{with_fields-append}
use Rattle.mt_roster.proofs.ReadFacts.{contents-with_fields}

-- the row that names the version, and the market of the rows after it
record Versioned (rows : List (List Bytes)) (r : Registered) : Type 0 where
  rules : Rules
  version : List Bytes
  rest : List (List Bytes)
  rows_are : rows ≡ version ∷ rest
  is_version : rules_of version ≡ Some rules
  accepted : faultless_market rules rest ≡ Some r

versioned : (ns : List (Numbered (List Bytes))) (r : Registered) → market_of_numbered ns ≡ Ok r → Versioned (contents ns) r
versioned [] r h = cc
versioned (row ∷ ns) r h = by (rules_of row.1) refl h
  where
    by : (o : Option Rules) → rules_of row.1 ≡ o → option_map_or (λ rules. market_under rules ns) o (Err (record { code = 12; row = row.0; id = [] })) ≡ Ok r → Versioned (contents (row ∷ ns)) r
    by None is k = cc
    by (Some rules) is k =
        record {
          rules = rules;
          version = row.1;
          rest = contents ns;
          rows_are = refl;
          is_version = is;
          accepted = sym (passes_agree rules ns) ∙ ap result_ok k;
        }

-- the records of rows, before one of them, of that one, and after it
record DraftParts (rules : Rules) (front : List (List Bytes)) (row : List Bytes) (back : List (List Bytes)) (rs : List Record) : Type 0 where
  before : List Record
  here : Record
  after : List Record
  before_is : drafts rules front ≡ Some before
  here_is : draft rules row ≡ Some here
  after_is : drafts rules back ≡ Some after
  all : before ++ here ∷ after ≡ rs

draft_parts : (rules : Rules) (front : List (List Bytes)) (row : List Bytes) (back : List (List Bytes)) (rs : List Record)
    → drafts rules (front ++ row ∷ back) ≡ Some rs → DraftParts rules front row back rs
draft_parts rules [] row back rs h = by (draft rules row) (drafts rules back) refl refl h
  where
    by : (o : Option Record) (p : Option (List Record)) → draft rules row ≡ o → drafts rules back ≡ p → option_and_then (λ r. option_map (λ rs. r ∷ rs) p) o ≡ Some rs
        → DraftParts rules [] row back rs
    by None p is are k = cc
    by (Some r) None is are k = cc
    by (Some r) (Some later) is are k = record { before = []; here = r; after = later; before_is = refl; here_is = is; after_is = are; all = cc }
draft_parts rules (x ∷ front) row back rs h = by (draft rules x) (drafts rules (front ++ row ∷ back)) refl refl h (draft_parts rules front row back)
  where
    by : (o : Option Record) (p : Option (List Record)) → draft rules x ≡ o → drafts rules (front ++ row ∷ back) ≡ p → option_and_then (λ r. option_map (λ rs. r ∷ rs) p) o ≡ Some rs
        → ((rest : List Record) → drafts rules (front ++ row ∷ back) ≡ Some rest → DraftParts rules front row back rest)
        → DraftParts rules (x ∷ front) row back rs
    by None p is are k more = cc
    by (Some r) None is are k more = cc
    by (Some r) (Some rest) is are k more =
        let parts = more rest are in
        let all : r ∷ rest ≡ rs = cc in
        record {
          before = r ∷ parts.before;
          here = parts.here;
          after = parts.after;
          before_is = rw (is, parts.before_is) refl;
          here_is = parts.here_is;
          after_is = parts.after_is;
          all = ap (λ (more_records : List Record). r ∷ more_records) parts.all ∙ all;
        }

-- the parts of an accepted file, around a row that names no version
pub record Parts (before : List (List Bytes)) (row : List Bytes) (after : List (List Bytes)) (r : Registered) : Type 0 where
  pub rules : Rules
  pub version : List Bytes
  pub front : List (List Bytes)
  pub head : with_fields before ≡ version ∷ front
  pub is_version : rules_of version ≡ Some rules
  pub earlier : List Record
  pub here : Record
  pub later : List Record
  pub earlier_is : drafts rules front ≡ Some earlier
  pub here_is : draft rules row ≡ Some here
  pub later_is : drafts rules (with_fields after) ≡ Some later
  pub market_is : registered (earlier ++ here ∷ later) ≡ r

pub parts_of : (before : List (List Bytes)) (word : Bytes) (fields : List Bytes) (after : List (List Bytes)) (r : Registered)
    → rules_of (word ∷ fields) ≡ None → market_of (before ++ (word ∷ fields) ∷ after) ≡ Ok r → Parts before (word ∷ fields) after r
parts_of before word fields after r none h =
    let found = versioned (numbered_from 1 (before ++ (word ∷ fields) ∷ after)) r h in
    let rows_are : with_fields before ++ (word ∷ fields) ∷ with_fields after ≡ found.version ∷ found.rest =
    sym (with_fields-append before ((word ∷ fields) ∷ after)) ∙ sym (contents-with_fields 1 (before ++ (word ∷ fields) ∷ after)) ∙ found.rows_are in
    by found.rules found.version found.rest (with_fields before) refl rows_are found.is_version found.accepted
  where
    by_records : (rules : Rules) (version : List Bytes) (front : List (List Bytes)) → with_fields before ≡ version ∷ front → rules_of version ≡ Some rules
        → (o : Option (List Record)) → drafts rules (front ++ (word ∷ fields) ∷ with_fields after) ≡ o
        → option_and_then (λ rs. if is_faultless rules rs then Some (registered rs) else None) o ≡ Some r
        → Parts before (word ∷ fields) after r
    by_records rules version front head is_version None is k = cc
    by_records rules version front head is_version (Some rs) is k = tested (is_faultless rules rs) k
      where
        tested : (b : Bool) → (if b then Some (registered rs) else None) ≡ Some r → Parts before (word ∷ fields) after r
        tested false k = cc
        tested true k =
            let parts = draft_parts rules front (word ∷ fields) (with_fields after) rs is in
            let same : registered rs ≡ r = cc in
            record {
              rules = rules;
              version = version;
              front = front;
              head = head;
              is_version = is_version;
              earlier = parts.before;
              here = parts.here;
              later = parts.after;
              earlier_is = parts.before_is;
              here_is = parts.here_is;
              later_is = parts.after_is;
              market_is = ap registered parts.all ∙ same;
            }

    by : (rules : Rules) (version : List Bytes) (rest : List (List Bytes)) (start : List (List Bytes)) → with_fields before ≡ start
        → start ++ (word ∷ fields) ∷ with_fields after ≡ version ∷ rest → rules_of version ≡ Some rules → faultless_market rules rest ≡ Some r
        → Parts before (word ∷ fields) after r
    by rules version rest [] head are is_version accepted =
        let same : word ∷ fields ≡ version = cc in
        let some : rules_of (word ∷ fields) ≡ Some rules = ap rules_of same ∙ is_version in
        cc
    by rules version rest (first ∷ front) head are is_version accepted =
        let same : first ≡ version = cc in
        let others : front ++ (word ∷ fields) ∷ with_fields after ≡ rest = cc in
        let begins : with_fields before ≡ version ∷ front = head ∙ ap (λ (f : List Bytes). f ∷ front) same in
        by_records rules version front begins is_version (drafts rules (front ++ (word ∷ fields) ∷ with_fields after)) refl
        (ap (λ (rows : List (List Bytes)). faultless_market rules rows) others ∙ accepted)
