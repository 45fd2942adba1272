-- The two passes take exactly the rows whose records have no fault among them.
use Rattle.std.proofs.Common.{◌≡◌, ℕ, Bool, true, false, List, [], ◌∷◌, ◌++◌, Option, Some, None, Result, Ok, Err, refl, ap, sym, ◌∙◌, subst}
use Rattle.std.specs.Prelude.{option_map, option_and_then, is_none, if◌then◌else◌}
use Rattle.std.specs.Bool.{then_some}
use Rattle.std.specs.List.{list_all}
use Rattle.std.specs.Result.{result_ok}
use Rattle.std.proofs.lemmas.Bool.{and_parts, and_from}
use Rattle.std.proofs.lemmas.List.{append-nil, append_assoc}
use Rattle.mt_terms.specs.declared.codes.TheConstants.{DUPLICATE_ID}
use Rattle.mt_terms.specs.Market.{Registered}
use Rattle.mt_terms.specs.Registration.{market_under}
use Rattle.mt_terms.specs.Registration.Ids.{Bytes}
use Rattle.mt_terms.specs.Registration.Faults.{RecordFault, Fault, record_fault}
use Rattle.mt_terms.specs.Registration.Records.{Rules, Record, record_of}
use Rattle.mt_terms.specs.Registration.Passes.{Numbered, contents, first_of, and_then, unless, at_record, registered_before, says_twice, are_too_many, first_conflict, next_record, first_pass, second_pass, unknown_id}
use Rattle.mt_terms.specs.Registration.Numbering.{registered}
use Rattle.mt_draft_laws.specs.Faultless.{draft, drafts, is_faultless, faultless_market}
use Rattle.mt_file_laws.specs.Registration.{PassesAgree}
use Rattle.mt_record_laws.proofs.FirstPassFacts.{kept_parts, contents_push}
use Rattle.mt_draft_laws.proofs.DraftFacts.{registers_ids, lists_ids, is_draft}
use Rattle.mt_draft_laws.proofs.ApartFacts.{lists_once, AreApart, none_apart, CanFollow, apart_more, can_follow, apart_front}
use Rattle.mt_draft_laws.proofs.KnownFacts.{is_known, allows_pairs, second-none, AreFaultless, faultless_parts, faultless_join, all_lists_ids, lists_allowed}

-- the records of rows, by the record of the first of them
record HasFirst (rules : Rules) (row : List Bytes) (rows : List (List Bytes)) (rs : List Record) : Type 0 where
  first : Record
  rest : List Record
  drafted : draft rules row ≡ Some first
  others : drafts rules rows ≡ Some rest
  all : first ∷ rest ≡ rs

-- the records of rows, if the first pass gives these
record PassGives (rules : Rules) (before : List Record) (rows : List (List Bytes)) (given : List Record) : Type 0 where
  records : List Record
  drafted : drafts rules rows ≡ Some records
  all : given ≡ before ++ records
  once : list_all lists_once records ≡ true
  allowed : list_all (allows_pairs rules.half_pairs) records ≡ true
  apart : AreApart rules.limits given

-- no conflict among a record and those before it
conflict_none : (o : Option Bytes) (s t : Bool) (c d : RecordFault) → o ≡ None → s ≡ false → t ≡ false → first_of (option_map (record_fault DUPLICATE_ID) o ∷ then_some s c ∷ then_some t d ∷ []) ≡ None
conflict_none (Some x) s t c d n h k = cc
conflict_none None true t c d n h k = cc
conflict_none None false true c d n h k = cc
conflict_none None false false c d n h k = refl

module _ (rules : Rules) where
  first_of_drafts : (row : List Bytes) (rows : List (List Bytes)) (rs : List Record) → drafts rules (row ∷ rows) ≡ Some rs → HasFirst rules row rows rs
  first_of_drafts row rows rs h = by (draft rules row) (drafts rules rows) refl refl h
    where
      by : (o : Option Record) (p : Option (List Record)) → draft rules row ≡ o → drafts rules rows ≡ p → option_and_then (λ r. option_map (λ xs. r ∷ xs) p) o ≡ Some rs → HasFirst rules row rows rs
      by None p d e k = cc
      by (Some r) None d e k = cc
      by (Some r) (Some xs) d e k = record { first = r; rest = xs; drafted = d; others = e; all = cc }

  -- what they register are ids
  drafts_register : (rows : List (List Bytes)) (rs : List Record) → drafts rules rows ≡ Some rs → list_all (registers_ids rules) rs ≡ true
  drafts_register [] rs h = let e : [] ≡ rs = cc in subst (λ (xs : List Record). list_all (registers_ids rules) xs ≡ true) e refl
  drafts_register (row ∷ rows) rs h =
      let d : HasFirst rules row rows rs = first_of_drafts row rows rs h in
      subst (λ (xs : List Record). list_all (registers_ids rules) xs ≡ true) d.all
      (and_from _ _ ((is_draft rules row).registers d.first d.drafted) (drafts_register rows d.rest d.others))

  module _ (before : List (Numbered Record)) (n : ℕ) (row : List Bytes) where
    -- a row is read that has a record, which can follow
    row_reads : (r : Record) → record_of rules row ≡ Ok r → CanFollow rules.limits (contents before) r
        → (rest : List (Numbered (List Bytes))) → first_pass rules before ((n, row) ∷ rest) ≡ first_pass rules (before ++ (n, r) ∷ []) rest
    row_reads r e follows rest = ap (λ (o : Result Record RecordFault). and_then (at_record n o) (λ q. first_pass rules (before ++ (n, q) ∷ []) rest)) next_is
      where
        next_is : next_record rules (contents before) row ≡ Ok r
        next_is =
            ap (λ (o : Result Record RecordFault). and_then o (λ q. unless (first_conflict rules (contents before) q) q)) e
            ∙ ap (λ (o : Option RecordFault). unless o r) (conflict_none _ _ _ _ _ follows.new follows.once follows.few)

    -- and no other
    next_follows : (r : Record) → next_record rules (contents before) row ≡ Ok r → (record_of rules row ≡ Ok r) × CanFollow rules.limits (contents before) r
    next_follows r h = by (record_of rules row) refl h
      where
        by : (o : Result Record RecordFault) → record_of rules row ≡ o → and_then o (λ q. unless (first_conflict rules (contents before) q) q) ≡ Ok r → (record_of rules row ≡ Ok r) × CanFollow rules.limits (contents before) r
        by (Err e) i k = cc
        by (Ok q) i k =
            let p : (q ≡ r) × (registered_before (contents before) q ≡ None) × (says_twice (contents before) q ≡ false) × (are_too_many rules.limits (contents before ++ q ∷ []) ≡ false) = kept_parts _ _ _ _ _ q r k in
            (i ∙ ap Ok p.0, subst (λ (z : Record). CanFollow rules.limits (contents before) z) p.0 (record { new = p.1; once = p.2; few = p.3 }))

  -- the first pass goes through records that are apart, whose lists have ids alone and none twice
  passes : (before : List (Numbered Record)) (rows : List (Numbered (List Bytes))) (rs : List Record)
      → drafts rules (contents rows) ≡ Some rs → list_all (lists_ids rules) rs ≡ true → list_all lists_once rs ≡ true → AreApart rules.limits (contents before ++ rs)
      → (ns : List (Numbered Record)) × (first_pass rules before rows ≡ Ok ns) × (contents ns ≡ contents before ++ rs)
  passes before [] rs h ids once apart = let e : [] ≡ rs = cc in (before, refl, sym (append-nil (contents before)) ∙ ap (λ (xs : List Record). contents before ++ xs) e)
  passes before (row ∷ rows) rs h ids once apart =
      let d : HasFirst rules row.1 (contents rows) rs = first_of_drafts row.1 (contents rows) rs h in
      let i : (lists_ids rules d.first ≡ true) × (list_all (lists_ids rules) d.rest ≡ true) = and_parts (lists_ids rules d.first) _ (ap (list_all (lists_ids rules)) d.all ∙ ids) in
      let o : (lists_once d.first ≡ true) × (list_all lists_once d.rest ≡ true) = and_parts (lists_once d.first) _ (ap (list_all lists_once) d.all ∙ once) in
      let pushed : contents (before ++ (row.0, d.first) ∷ []) ≡ contents before ++ d.first ∷ [] = contents_push before row.0 d.first in
      let whole : (contents before ++ d.first ∷ []) ++ d.rest ≡ contents before ++ rs = append_assoc (contents before) (d.first ∷ []) d.rest ∙ ap (λ (xs : List Record). contents before ++ xs) d.all in
      let a : AreApart rules.limits ((contents before ++ d.first ∷ []) ++ d.rest) = subst (AreApart rules.limits) (sym whole) apart in
      let follows : CanFollow rules.limits (contents before) d.first = can_follow rules.limits (contents before) d.first (apart_front rules.limits (contents before ++ d.first ∷ []) d.rest a) o.0 in
      let more : contents (before ++ (row.0, d.first) ∷ []) ++ d.rest ≡ (contents before ++ d.first ∷ []) ++ d.rest = ap (λ (xs : List Record). xs ++ d.rest) pushed in
      let ih = passes (before ++ (row.0, d.first) ∷ []) rows d.rest d.others i.1 o.1 (subst (AreApart rules.limits) (sym more) a) in
      (ih.0, row_reads before row.0 row.1 d.first ((is_draft rules row.1).reads d.first d.drafted i.0) follows rows ∙ ih.1, ih.2 ∙ more ∙ whole)

  -- and through no others
  passed : (before : List (Numbered Record)) (rows : List (Numbered (List Bytes))) (ns : List (Numbered Record))
      → AreApart rules.limits (contents before) → first_pass rules before rows ≡ Ok ns → PassGives rules (contents before) (contents rows) (contents ns)
  passed before [] ns apart h =
      let e : before ≡ ns = cc in
      record {
        records = [];
        drafted = refl;
        all = ap contents (sym e) ∙ sym (append-nil (contents before));
        once = refl;
        allowed = refl;
        apart = subst (λ (xs : List (Numbered Record)). AreApart rules.limits (contents xs)) e apart;
      }
  passed before (row ∷ rows) ns apart h =
      by (λ r a. passed (before ++ (row.0, r) ∷ []) rows ns a) (next_record rules (contents before) row.1) (next_follows before row.0 row.1) h
    where
      by : ((r : Record) → AreApart rules.limits (contents (before ++ (row.0, r) ∷ [])) → first_pass rules (before ++ (row.0, r) ∷ []) rows ≡ Ok ns → PassGives rules (contents (before ++ (row.0, r) ∷ [])) (contents rows) (contents ns))
          → (o : Result Record RecordFault) → ((r : Record) → o ≡ Ok r → (record_of rules row.1 ≡ Ok r) × CanFollow rules.limits (contents before) r)
          → and_then (at_record row.0 o) (λ r. first_pass rules (before ++ (row.0, r) ∷ []) rows) ≡ Ok ns → PassGives rules (contents before) (contents (row ∷ rows)) (contents ns)
      by ih (Err e) f k = cc
      by ih (Ok r) f k =
          let p : (record_of rules row.1 ≡ Ok r) × CanFollow rules.limits (contents before) r = f r refl in
          let pushed : contents (before ++ (row.0, r) ∷ []) ≡ contents before ++ r ∷ [] = contents_push before row.0 r in
          let a : AreApart rules.limits (contents before ++ r ∷ []) × (lists_once r ≡ true) = apart_more rules.limits (contents before) r apart p.1 in
          let g : PassGives rules (contents (before ++ (row.0, r) ∷ [])) (contents rows) (contents ns) = ih r (subst (AreApart rules.limits) (sym pushed) a.0) k in
          let d : draft rules row.1 ≡ Some r = (is_draft rules row.1).drafts r p.0 in
          record {
            records = r ∷ g.records;
            drafted = rw (d, g.drafted) refl;
            all = g.all ∙ ap (λ (xs : List Record). xs ++ g.records) pushed ∙ append_assoc (contents before) (r ∷ []) g.records;
            once = and_from _ _ a.1 g.once;
            allowed = and_from _ _ (lists_allowed rules r ((is_draft rules row.1).lists r p.0)) g.allowed;
            apart = g.apart;
          }

  -- the second pass
  known_none : (ns : List (Numbered Record)) → is_none (second_pass ns) ≡ list_all (is_known (contents ns)) (contents ns)
  known_none ns = second-none (unknown_id (contents ns)) ns

  no_fault : (o : Option Fault) → is_none o ≡ true → o ≡ None
  no_fault None h = refl
  no_fault (Some f) h = cc

  -- the market of rows without a fault
  pub accepts : (rows : List (Numbered (List Bytes))) (m : Registered) → faultless_market rules (contents rows) ≡ Some m → market_under rules rows ≡ Ok m
  accepts rows m h = by (drafts rules (contents rows)) refl h
    where
      tested : (rs : List Record) (b : Bool) → drafts rules (contents rows) ≡ Some rs → is_faultless rules rs ≡ b → (if b then Some (registered rs) else None) ≡ Some m → market_under rules rows ≡ Ok m
      tested rs false d e k = cc
      tested rs true d e k =
          let are : AreFaultless rules rs = faultless_parts rules rs e in
          let ids : list_all (lists_ids rules) rs ≡ true = all_lists_ids rules rs (drafts_register (contents rows) rs d) rs are.known are.allowed in
          let p = passes [] rows rs d ids are.once are.apart in
          let known : list_all (is_known (contents p.0)) (contents p.0) ≡ true = ap (λ (xs : List Record). list_all (is_known xs) xs) p.2 ∙ are.known in
          let none : second_pass p.0 ≡ None = no_fault (second_pass p.0) (known_none p.0 ∙ known) in
          ap (λ (o : Result (List (Numbered Record)) Fault). and_then o (λ records. unless (second_pass records) (registered (contents records)))) p.1
          ∙ ap (λ (o : Option Fault). unless o (registered (contents p.0))) none
          ∙ ap (λ (xs : List Record). Ok (registered xs)) p.2
          ∙ cc

      by : (o : Option (List Record)) → drafts rules (contents rows) ≡ o → option_and_then (λ rs. if is_faultless rules rs then Some (registered rs) else None) o ≡ Some m → market_under rules rows ≡ Ok m
      by None d k = cc
      by (Some rs) d k = tested rs (is_faultless rules rs) d refl k

  -- and of no others
  pub accepted : (rows : List (Numbered (List Bytes))) (m : Registered) → market_under rules rows ≡ Ok m → faultless_market rules (contents rows) ≡ Some m
  accepted rows m h = by (first_pass rules [] rows) (λ ns. passed [] rows ns (none_apart rules.limits)) h
    where
      second : (ns : List (Numbered Record)) (o : Option Fault) → second_pass ns ≡ o → PassGives rules [] (contents rows) (contents ns) → unless o (registered (contents ns)) ≡ Ok m → faultless_market rules (contents rows) ≡ Some m
      second ns (Some f) s g k = cc
      second ns None s g k =
          let known : list_all (is_known (contents ns)) (contents ns) ≡ true = sym (known_none ns) ∙ ap is_none s in
          let once : list_all lists_once (contents ns) ≡ true = ap (list_all lists_once) g.all ∙ g.once in
          let allowed : list_all (allows_pairs rules.half_pairs) (contents ns) ≡ true = ap (list_all (allows_pairs rules.half_pairs)) g.all ∙ g.allowed in
          let faultless : is_faultless rules (contents ns) ≡ true = faultless_join rules (contents ns) (record { apart = g.apart; known = known; once = once; allowed = allowed }) in
          let drafted : drafts rules (contents rows) ≡ Some (contents ns) = g.drafted ∙ ap Some (sym g.all) in
          let m_is : registered (contents ns) ≡ m = cc in
          rw (drafted, faultless) (ap Some m_is)

      by : (o : Result (List (Numbered Record)) Fault) → ((ns : List (Numbered Record)) → o ≡ Ok ns → PassGives rules [] (contents rows) (contents ns))
          → and_then o (λ records. unless (second_pass records) (registered (contents records))) ≡ Ok m → faultless_market rules (contents rows) ≡ Some m
      by (Err e) f k = cc
      by (Ok ns) f k = second ns (second_pass ns) refl (f ns refl) k

-- a result and an option that have the same values
same_values : {X E : Type 0} (o : Result X E) (p : Option X) → ((x : X) → o ≡ Ok x → p ≡ Some x) → ((x : X) → p ≡ Some x → o ≡ Ok x) → result_ok o ≡ p
same_values (Ok x) p f g = sym (f x refl)
same_values (Err e) None f g = refl
same_values (Err e) (Some x) f g = let h : Err e ≡ Ok x = g x refl in absurd cc

-- the market of the two passes is that of the rows without a fault
pub passes_agree : PassesAgree
passes_agree rules rows = same_values (market_under rules rows) (faultless_market rules (contents rows)) (accepted rules rows) (accepts rules rows)
