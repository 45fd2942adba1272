-- The markets of two files that differ in one record: the other records are the same, so the markets are those of records
-- that differ in that one.
use Rattle.std.proofs.Common.{◌≡◌, ℕ, Bool, true, false, ◌&&◌, List, [], ◌∷◌, ◌++◌, ◌⊎◌, Option, Some, None, Ok, refl, sym, ap, ◌∙◌, if◌then◌else◌}
use Rattle.std.specs.Prelude.{codes}
use Rattle.mt_terms.specs.Market.{Registered}
use Rattle.mt_terms.specs.Registration.{market_of}
use Rattle.mt_terms.specs.Registration.Ids.{Bytes, is_id, quota_of}
use Rattle.mt_terms.specs.Registration.Numbering.{registered}
use Rattle.mt_terms.specs.Registration.Records.{ApplicantRecord, ProgramRecord, Record, Rules, rules_of}
use Rattle.mt_draft_laws.specs.Faultless.{draft, drafts}
use Rattle.mt_drafts.specs.Drafts.{with_fields}
use Rattle.mt_change_laws.specs.Changes.{ListChanged, QuotaChanged}
use Rattle.mt_change_laws.specs.Laws.{OneListChanges, OneQuotaChanges}
use Rattle.mt_change_laws.proofs.RecordChanges.{list_changed, quota_changed}
use Rattle.mt_change_laws.proofs.RecordParts.{Parts, parts_of}

-- the records of the two rows
no_version : (id : Bytes) (list : List Bytes) → rules_of (codes "applicant" ∷ id ∷ list) ≡ None
no_version id [] = refl
no_version id (x ∷ list) = refl

applicant_drafted : (rules : Rules) (id : Bytes) (list : List Bytes) (here : Record) → draft rules (codes "applicant" ∷ id ∷ list) ≡ Some here → here ≡ ApplicantRecord id list
applicant_drafted rules id list here h = by rules.withdrawals (is_id rules.limits.id_bytes id) _ h
  where
    by : (w b : Bool) (withdrawal : Option Record) → (if w && false then withdrawal else if b then Some (ApplicantRecord id list) else None) ≡ Some here → here ≡ ApplicantRecord id list
    by true true withdrawal k = cc
    by true false withdrawal k = cc
    by false true withdrawal k = cc
    by false false withdrawal k = cc

program_drafted : (rules : Rules) (id field : Bytes) (quota : ℕ) (list : List Bytes) (here : Record) → quota_of field ≡ Some quota
    → draft rules (codes "program" ∷ id ∷ field ∷ list) ≡ Some here → here ≡ ProgramRecord id quota list
program_drafted rules id field quota list here is h = by rules.withdrawals (is_id rules.limits.id_bytes id) _ (rw is at h)
  where
    by : (w b : Bool) (withdrawal : Option Record) → (if w && false then withdrawal else if b then Some (ProgramRecord id quota list) else None) ≡ Some here → here ≡ ProgramRecord id quota list
    by true true withdrawal k = cc
    by true false withdrawal k = cc
    by false true withdrawal k = cc
    by false false withdrawal k = cc

-- the other records of the two files are the same
same_others : (before : List (List Bytes)) (row other : List Bytes) (after : List (List Bytes)) (r s : Registered) (p : Parts before row after r) (q : Parts before other after s)
    → (p.earlier ≡ q.earlier) × (p.later ≡ q.later)
same_others before row other after r s p q =
    let starts : p.version ∷ p.front ≡ q.version ∷ q.front = sym p.head ∙ q.head in
    let version : p.version ≡ q.version = cc in
    let front : p.front ≡ q.front = cc in
    let both_rules : Some p.rules ≡ Some q.rules = sym p.is_version ∙ ap rules_of version ∙ q.is_version in
    let rules : p.rules ≡ q.rules = cc in
    let earlier : Some p.earlier ≡ Some q.earlier = sym p.earlier_is ∙ same_drafts p.rules q.rules p.front q.front rules front ∙ q.earlier_is in
    let later : Some p.later ≡ Some q.later = sym p.later_is ∙ same_drafts p.rules q.rules (with_fields after) (with_fields after) rules refl ∙ q.later_is in
    (cc, cc)
  where
    same_drafts : (rules others : Rules) (xs ys : List (List Bytes)) → rules ≡ others → xs ≡ ys → drafts rules xs ≡ drafts others ys
    same_drafts rules others xs ys e f = rw (e, f) refl

around : (earlier later more rest : List Record) (here there : Record) → earlier ≡ more → later ≡ rest → here ≡ there → earlier ++ here ∷ later ≡ more ++ there ∷ rest
around earlier later more rest here there e f g = rw (e, f, g) refl

-- so the markets of two files that differ in one record are those of records that do
module _ (before after : List (List Bytes)) (r s : Registered) where
  pub lists_of_files : (id : Bytes) (list other : List Bytes) → market_of (before ++ (codes "applicant" ∷ id ∷ list) ∷ after) ≡ Ok r → market_of (before ++ (codes "applicant" ∷ id ∷ other) ∷ after) ≡ Ok s
      → (s.names ≡ r.names) × ((s.market ≡ r.market) ⊎ ListChanged r s id other)
  lists_of_files id list other one two =
      let p = parts_of before (codes "applicant") (id ∷ list) after r (no_version id list) one in
      let q = parts_of before (codes "applicant") (id ∷ other) after s (no_version id other) two in
      let same = same_others before (codes "applicant" ∷ id ∷ list) (codes "applicant" ∷ id ∷ other) after r s p q in
      list_changed id list other p.earlier p.later r s
      (ap registered (around p.earlier p.later p.earlier p.later (ApplicantRecord id list) p.here refl refl (sym (applicant_drafted p.rules id list p.here p.here_is))) ∙ p.market_is)
      (ap registered (around p.earlier p.later q.earlier q.later (ApplicantRecord id other) q.here same.0 same.1 (sym (applicant_drafted q.rules id other q.here q.here_is))) ∙ q.market_is)

  pub quotas_of_files : (id field other_field : Bytes) (quota other : ℕ) (list : List Bytes) → quota_of field ≡ Some quota → quota_of other_field ≡ Some other
      → market_of (before ++ (codes "program" ∷ id ∷ field ∷ list) ∷ after) ≡ Ok r → market_of (before ++ (codes "program" ∷ id ∷ other_field ∷ list) ∷ after) ≡ Ok s
      → (s.names ≡ r.names) × ((s.market ≡ r.market) ⊎ QuotaChanged r s quota other)
  quotas_of_files id field other_field quota other list is other_is one two =
      let p = parts_of before (codes "program") (id ∷ field ∷ list) after r refl one in
      let q = parts_of before (codes "program") (id ∷ other_field ∷ list) after s refl two in
      let same = same_others before (codes "program" ∷ id ∷ field ∷ list) (codes "program" ∷ id ∷ other_field ∷ list) after r s p q in
      quota_changed id quota other list p.earlier p.later r s
      (ap registered (around p.earlier p.later p.earlier p.later (ProgramRecord id quota list) p.here refl refl (sym (program_drafted p.rules id field quota list p.here is p.here_is))) ∙ p.market_is)
      (ap registered (around p.earlier p.later q.earlier q.later (ProgramRecord id other list) q.here same.0 same.1 (sym (program_drafted q.rules id other_field other list q.here other_is q.here_is))) ∙ q.market_is)

pub one_list_changes_lem : OneListChanges
one_list_changes_lem before after r s id list other one two = lists_of_files before after r s id list other one two

pub one_quota_changes_lem : OneQuotaChanges
one_quota_changes_lem before after r s id field other_field quota other list is other_is one two =
    quotas_of_files before after r s id field other_field quota other list is other_is one two
