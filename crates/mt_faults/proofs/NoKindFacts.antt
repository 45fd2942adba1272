-- A record of no kind has one fault, registers nothing and withdraws nothing.
-- Its parts are those of an unknown kind, and the lists of these are empty.
use Rattle.std.proofs.Common.{◌≡◌, ℕ, ◌+◌, Bool, true, false, not, ◌&&◌, nat_le, nat_lt, Option, Some, None, Result, Ok, Err, List, [], ◌∷◌, ◌++◌, length, min, leb-true, ltb-true, refl, ap, sym, ◌∙◌, subst, arith, codes, if◌then◌else◌}
use Rattle.std.specs.Prelude.{OnOk, bytes_eq, is_none}
use Rattle.std.proofs.lemmas.List.{append-nil}
use Rattle.mt_terms.specs.declared.codes.TheConstants.{UNKNOWN_KIND}
use Rattle.mt_terms.specs.Registration.Ids.{Bytes}
use Rattle.mt_terms.specs.Registration.Records.{Rules, Kind, OfProgram, OfCouple, kind_of}
use Rattle.mt_ids.specs.Kinds.{ids_in}
use Rattle.mt_fault_terms.specs.Faults.{fault_alone, placed_from}
use Rattle.mt_fault_terms.specs.OfRecord.{passes, record_faults}
use Rattle.mt_fault_terms.specs.Parts.{Parts, parts_by_kind, parts_of, unknown_parts, withdraw_parts, own_ids, withdrawn_ids, all_own_ids, all_applicants, all_withdrawn, all_entries}
use Rattle.mt_fault_sink.specs.Telling.{at_record}
use Rattle.mt_faults.specs.declared.before.Before.{Before}
use Rattle.mt_faults.specs.declared.finder.Finder.{Finder}
use Rattle.mt_faults.specs.declared.registry.Registry.{Registry}
use Rattle.mt_faults.specs.NoKind.{is_of_no_kind}
use Rattle.mt_faults.specs.Registered.{AddsAll, IsPassed, added, most, row_parts}
use Rattle.mt_faults.specs.Standing.{IsBefore, Stands, row_faults}
use Rattle.mt_faults.proofs.SearchFacts.{faults_some, row_some}
use Rattle.mt_faults.proofs.StandingFacts.{adds_none, applicants-more, by_kind, entries-more, own_ids-more, withdrawn-more}

pub parts_no_kind : (rules : Rules) (fields : List Bytes) → is_of_no_kind rules fields ≡ true → parts_of rules fields ≡ unknown_parts 1
parts_no_kind rules [] h = refl
parts_no_kind rules (word ∷ fields) h = by (rules.withdrawals && bytes_eq word (codes "withdraw")) (kind_of word) h
  where
    by : (b : Bool) (kind : Option Kind) → (not b && is_none kind) ≡ true
        → (if b then withdraw_parts (placed_from 2 fields) else parts_by_kind kind (placed_from 2 fields)) ≡ unknown_parts 1
    by true kind k = cc
    by false None k = refl
    by false (Some kind) k = cc

-- no limit is passed with nothing
not_passed : (limit before : ℕ) → passes limit before 0 ≡ false
not_passed limit before = not_both (nat_le before limit) (nat_lt limit (before + 0)) (λ within beyond. omega (arith, leb-true before limit within, ltb-true limit (before + 0) beyond))
  where
    not_both : (b c : Bool) → (b ≡ true → c ≡ true → ⊥) → (b && c) ≡ false
    not_both false c h = refl
    not_both true false h = refl
    not_both true true h = absurd (h refl refl)

pub faults_no_kind : (rules : Rules) (all before : List Parts) → record_faults rules all before (unknown_parts 1) ≡ fault_alone UNKNOWN_KIND 1 ∷ []
faults_no_kind rules all before =
    rw (
      not_passed rules.limits.applicants (length (all_applicants rules before)),
      not_passed rules.limits.programs (length (all_own_ids rules OfProgram before)),
      not_passed rules.limits.couples (length (all_own_ids rules OfCouple before)),
      not_passed rules.limits.entries (all_entries before),
    ) refl

-- it is passed over with no change
own_none : (rules : Rules) (kind : Kind) → own_ids rules kind (unknown_parts 1) ≡ []
own_none rules = by_kind (λ (kind : Kind). own_ids rules kind (unknown_parts 1) ≡ []) refl refl refl

withdrawn_none : (rules : Rules) (kind : Kind) → withdrawn_ids rules kind (unknown_parts 1) ≡ []
withdrawn_none rules = by_kind (λ (kind : Kind). withdrawn_ids rules kind (unknown_parts 1) ≡ []) refl refl refl

-- a record of some kind has a field
pub some_of_kind : (rules : Rules) (row : List Bytes) → is_of_no_kind rules row ≡ false → length row ≡ 0 → ⊥
some_of_kind rules [] h none = cc
some_of_kind rules (word ∷ fields) h none = omega (arith, none)

pub adds_no_kind : (rules : Rules) (registry : Registry) (row : List Bytes) → is_of_no_kind rules row ≡ true → AddsAll rules registry registry (row_parts rules row)
adds_no_kind rules registry [] h = adds_none rules registry [] refl
adds_no_kind rules registry (word ∷ fields) h = subst (λ (p : Parts). AddsAll rules registry registry (p ∷ [])) (sym (parts_no_kind rules (word ∷ fields) h)) (record {
  registered = λ kind. sym (ap (λ ids. added (ids_in registry.registered kind) (ids ++ [])) (own_none rules kind));
  applicants = refl;
})

module _ (rules : Rules) (before : List Parts) where
  own_same : (kind : Kind) → all_own_ids rules kind (before ++ unknown_parts 1 ∷ []) ≡ all_own_ids rules kind before
  own_same kind = own_ids-more rules before (unknown_parts 1) kind ∙ ap (λ ids. all_own_ids rules kind before ++ ids) (own_none rules kind) ∙ append-nil (all_own_ids rules kind before)

  applicants_same : all_applicants rules (before ++ unknown_parts 1 ∷ []) ≡ all_applicants rules before
  applicants_same = applicants-more rules before (unknown_parts 1) ∙ append-nil (all_applicants rules before)

  withdrawn_same : (kind : Kind) → all_withdrawn rules kind (before ++ unknown_parts 1 ∷ []) ≡ all_withdrawn rules kind before
  withdrawn_same kind = withdrawn-more rules before (unknown_parts 1) kind ∙ ap (λ ids. all_withdrawn rules kind before ++ ids) (withdrawn_none rules kind) ∙ append-nil (all_withdrawn rules kind before)

  entries_same : all_entries (before ++ unknown_parts 1 ∷ []) ≡ all_entries before
  entries_same = entries-more rules before (unknown_parts 1) ∙ omega arith

  pub before_no_kind : (b : Before) → IsBefore rules before b → IsBefore rules (before ++ unknown_parts 1 ∷ []) b
  before_no_kind b is = record {
    programs = subst (λ (ids : List Bytes). IsPassed ids b.programs) (sym (own_same OfProgram)) is.programs;
    couples = subst (λ (ids : List Bytes). IsPassed ids b.couples) (sym (own_same OfCouple)) is.couples;
    applicants = subst (λ (ids : List Bytes). IsPassed ids b.applicants) (sym applicants_same) is.applicants;
    entries = is.entries ∙ ap (λ n. min n most) (sym entries_same);
    withdrawn = λ kind. is.withdrawn kind ∙ ap (added []) (sym (withdrawn_same kind));
  }

-- what follows from nothing else holds under a success
pub on_ok_always : {X E P : Type 0} (result : Result X E) → P → OnOk result P
on_ok_always (Ok x) p = p
on_ok_always (Err e) p = tt

module _ (rules : Rules) (row : List Bytes) (some : length row ≡ 0 → ⊥) (h : is_of_no_kind rules row ≡ true) where
  pub row_no_kind : row_parts rules row ≡ unknown_parts 1 ∷ []
  row_no_kind = row_some rules row some ∙ ap (λ p. p ∷ []) (parts_no_kind rules row h)

  pub told_no_kind : (all before : List Parts) (n : ℕ) → at_record n (fault_alone UNKNOWN_KIND 1 ∷ []) ≡ row_faults rules all before n row
  told_no_kind all before n = sym (faults_some rules all before n row some ∙ ap (λ p. at_record n (record_faults rules all before p)) (parts_no_kind rules row h) ∙ ap (at_record n) (faults_no_kind rules all before))

  pub stands_no_kind : (f : Finder) (all before rest : List Parts) → f.rules ≡ rules → all ≡ before ++ row_parts rules row ++ rest → Stands f all before → Stands f all (before ++ row_parts rules row)
  stands_no_kind f all before rest r e s = record {
    rest = rest;
    first = e;
    registry = s.registry;
    before_is = subst (λ (ps : List Parts). IsBefore f.rules (before ++ ps) f.before) (sym row_no_kind) (before_no_kind f.rules before f.before s.before_is);
  }
