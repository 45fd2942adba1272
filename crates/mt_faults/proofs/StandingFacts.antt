-- What is found of a record by tables, as the definitions say it of the records before it and of all.
-- The records before are the first of all, so their ids are the first of the tables.
use Rattle.std.proofs.Common.{◌≡◌, ℕ, ◌+◌, List, [], ◌∷◌, ◌++◌, length, take, min, refl, ap, ap₂, sym, ◌∙◌, subst, take_all, arith}
use Rattle.std.proofs.lemmas.List.{append_assoc, append-nil}
use Rattle.std.proofs.lemmas.List.Sums.{sum_by-append}
use Rattle.std.proofs.lemmas.Grind.{flat_map-append}
use Rattle.mt_terms.specs.Registration.Ids.{Bytes, has_id}
use Rattle.mt_terms.specs.Registration.Passes.{numbered_from}
use Rattle.mt_terms.specs.Registration.Records.{Rules, Kind, OfProgram, OfApplicant, OfCouple}
use Rattle.mt_ids.specs.Kinds.{ids_in}
use Rattle.mt_fault_terms.specs.OfFile.{all_parts}
use Rattle.mt_fault_terms.specs.Parts.{Parts, own_ids, applicants_among, withdrawn_ids, entries_among, all_own_ids, all_applicants, all_withdrawn, all_entries, parts_of}
use Rattle.mt_faults.specs.declared.before.Before.{Before}
use Rattle.mt_faults.specs.declared.before.Passed.{Passed}
use Rattle.mt_faults.specs.declared.finder.Finder.{Finder}
use Rattle.mt_faults.specs.declared.registry.Registry.{Registry}
use Rattle.mt_faults.specs.Registered.{added, most, AddsAll, AddsParts, IsPassed, PassesIds}
use Rattle.mt_faults.specs.Standing.{IsBefore, Stands}
use Rattle.mt_faults.proofs.AddedFacts.{has_added, has_before, added-append}

-- with one record more
module _ (rules : Rules) (before : List Parts) (p : Parts) where
  pub own_ids-more : (kind : Kind) → all_own_ids rules kind (before ++ p ∷ []) ≡ all_own_ids rules kind before ++ own_ids rules kind p
  own_ids-more kind = flat_map-append (own_ids rules kind) before (p ∷ []) ∙ ap (λ ids. all_own_ids rules kind before ++ ids) (append-nil (own_ids rules kind p))

  pub applicants-more : all_applicants rules (before ++ p ∷ []) ≡ all_applicants rules before ++ applicants_among rules p
  applicants-more = flat_map-append (applicants_among rules) before (p ∷ []) ∙ ap (λ ids. all_applicants rules before ++ ids) (append-nil (applicants_among rules p))

  pub withdrawn-more : (kind : Kind) → all_withdrawn rules kind (before ++ p ∷ []) ≡ all_withdrawn rules kind before ++ withdrawn_ids rules kind p
  withdrawn-more kind = flat_map-append (withdrawn_ids rules kind) before (p ∷ []) ∙ ap (λ ids. all_withdrawn rules kind before ++ ids) (append-nil (withdrawn_ids rules kind p))

  pub entries-more : all_entries (before ++ p ∷ []) ≡ all_entries before + entries_among p
  entries-more = sum_by-append entries_among before (p ∷ []) ∙ omega arith

-- among all records, what stands before one
module _ (f : Finder) (all before : List Parts) (s : Stands f all before) where
  pub own_before : (kind : Kind) → ids_in f.registry.registered kind ≡ added [] (all_own_ids f.rules kind before ++ all_own_ids f.rules kind s.rest)
  own_before kind = s.registry.registered kind ∙ ap (added []) (ap (all_own_ids f.rules kind) s.first ∙ flat_map-append (own_ids f.rules kind) before s.rest)

  pub applicants_before : f.registry.applicants ≡ added [] (all_applicants f.rules before ++ all_applicants f.rules s.rest)
  applicants_before = s.registry.applicants ∙ ap (added []) (ap (all_applicants f.rules) s.first ∙ flat_map-append (applicants_among f.rules) before s.rest)

  pub is_program_before : (id : Bytes) → has_id (take f.before.programs.seen f.registry.registered.programs) id ≡ has_id (all_own_ids f.rules OfProgram before) id
  is_program_before id = has_before f.registry.registered.programs (all_own_ids f.rules OfProgram before) (all_own_ids f.rules OfProgram s.rest) f.before.programs id (own_before OfProgram) s.before_is.programs

  pub is_couple_before : (id : Bytes) → has_id (take f.before.couples.seen f.registry.registered.couples) id ≡ has_id (all_own_ids f.rules OfCouple before) id
  is_couple_before id = has_before f.registry.registered.couples (all_own_ids f.rules OfCouple before) (all_own_ids f.rules OfCouple s.rest) f.before.couples id (own_before OfCouple) s.before_is.couples

  pub is_applicant_before : (id : Bytes) → has_id (take f.before.applicants.seen f.registry.applicants) id ≡ has_id (all_applicants f.rules before) id
  is_applicant_before id = has_before f.registry.applicants (all_applicants f.rules before) (all_applicants f.rules s.rest) f.before.applicants id applicants_before s.before_is.applicants

  pub is_withdrawn_before : (kind : Kind) (seen : ℕ) → seen ≡ length (ids_in f.before.withdrawn kind) → (id : Bytes) → has_id (take seen (ids_in f.before.withdrawn kind)) id ≡ has_id (all_withdrawn f.rules kind before) id
  is_withdrawn_before kind seen h id =
      ap (λ xs. has_id xs id) (take_all seen (ids_in f.before.withdrawn kind) (omega (arith, h)) ∙ s.before_is.withdrawn kind) ∙ has_added (all_withdrawn f.rules kind before) id

  pub is_registered : (kind : Kind) (id : Bytes) → has_id (ids_in f.registry.registered kind) id ≡ has_id (all_own_ids f.rules kind all) id
  is_registered kind id = ap (λ xs. has_id xs id) (s.registry.registered kind) ∙ has_added (all_own_ids f.rules kind all) id

  pub is_applicant : (id : Bytes) → has_id f.registry.applicants id ≡ has_id (all_applicants f.rules all) id
  is_applicant id = ap (λ xs. has_id xs id) s.registry.applicants ∙ has_added (all_applicants f.rules all) id

-- records are the same whatever their numbers
pub renumbered : (rules : Rules) (m n : ℕ) (rows : List (List Bytes)) → all_parts rules (numbered_from m rows) ≡ all_parts rules (numbered_from n rows)
renumbered rules m n [] = refl
renumbered rules m n ([] ∷ rows) = renumbered rules (m + 1) (n + 1) rows
renumbered rules m n ((word ∷ fields) ∷ rows) = ap (λ ps. parts_of rules (word ∷ fields) ∷ ps) (renumbered rules (m + 1) (n + 1) rows)

-- what holds of each kind
pub by_kind : (P : Kind → Type 0) → P OfProgram → P OfApplicant → P OfCouple → (kind : Kind) → P kind
by_kind P p a c OfProgram = p
by_kind P p a c OfApplicant = a
by_kind P p a c OfCouple = c

-- a record is passed over: its ids of a kind, its applicants, and what it withdraws
module _ (rules : Rules) (before rest : List Parts) (p : Parts) where
  pub passed_own : (kind : Kind) (table : List Bytes) (old new : Passed) (ids : List Bytes) → ids ≡ own_ids rules kind p → table ≡ added [] (all_own_ids rules kind (before ++ p ∷ rest)) → PassesIds table old new ids
      → IsPassed (all_own_ids rules kind before) old → IsPassed (all_own_ids rules kind (before ++ p ∷ [])) new
  passed_own kind table old new ids named t passes o =
      let whole : table ≡ added [] ((all_own_ids rules kind before ++ ids) ++ all_own_ids rules kind rest) =
      t ∙ ap (added []) (flat_map-append (own_ids rules kind) before (p ∷ rest) ∙ sym (append_assoc (all_own_ids rules kind before) (own_ids rules kind p) (all_own_ids rules kind rest)) ∙ ap (λ xs. (all_own_ids rules kind before ++ xs) ++ all_own_ids rules kind rest) (sym named)) in
      subst (λ (xs : List Bytes). IsPassed xs new) (ap (λ xs. all_own_ids rules kind before ++ xs) named ∙ sym (own_ids-more rules before p kind))
      (passes (all_own_ids rules kind before) (all_own_ids rules kind rest) whole o)

  pub passed_applicants : (table : List Bytes) (old new : Passed) (ids : List Bytes) → ids ≡ applicants_among rules p → table ≡ added [] (all_applicants rules (before ++ p ∷ rest)) → PassesIds table old new ids
      → IsPassed (all_applicants rules before) old → IsPassed (all_applicants rules (before ++ p ∷ [])) new
  passed_applicants table old new ids named t passes o =
      let whole : table ≡ added [] ((all_applicants rules before ++ ids) ++ all_applicants rules rest) =
      t ∙ ap (added []) (flat_map-append (applicants_among rules) before (p ∷ rest) ∙ sym (append_assoc (all_applicants rules before) (applicants_among rules p) (all_applicants rules rest)) ∙ ap (λ xs. (all_applicants rules before ++ xs) ++ all_applicants rules rest) (sym named)) in
      subst (λ (xs : List Bytes). IsPassed xs new) (ap (λ xs. all_applicants rules before ++ xs) named ∙ sym (applicants-more rules before p))
      (passes (all_applicants rules before) (all_applicants rules rest) whole o)

  pub passed_withdrawn : (kind : Kind) (old new ids : List Bytes) → ids ≡ withdrawn_ids rules kind p → new ≡ added old ids → old ≡ added [] (all_withdrawn rules kind before) → new ≡ added [] (all_withdrawn rules kind (before ++ p ∷ []))
  passed_withdrawn kind old new ids named n o =
      n ∙ ap₂ added o named ∙ sym (added-append [] (all_withdrawn rules kind before) (withdrawn_ids rules kind p)) ∙ ap (added []) (sym (withdrawn-more rules before p kind))

  pub passed_entries : (old more new : ℕ) → old ≡ min (all_entries before) most → more ≡ min (entries_among p) most → new ≡ min (old + more) most → new ≡ min (all_entries (before ++ p ∷ [])) most
  passed_entries old more new o m n = omega (arith, o, m, n, entries-more rules before p)

-- a registry with what a record registers
pub adds_parts : (rules : Rules) (old new : Registry) (p : Parts) → new.registered.programs ≡ added old.registered.programs (own_ids rules OfProgram p) → new.registered.applicants ≡ added old.registered.applicants (own_ids rules OfApplicant p)
    → new.registered.couples ≡ added old.registered.couples (own_ids rules OfCouple p) → new.applicants ≡ added old.applicants (applicants_among rules p) → AddsParts rules old new p
adds_parts rules old new p programs singles couples applicants = record {
  registered = by_kind (λ (kind : Kind). ids_in new.registered kind ≡ added (ids_in old.registered kind) (own_ids rules kind p)) programs singles couples;
  applicants = applicants;
}

-- the same of a row's record
pub adds_one : (rules : Rules) (old new : Registry) (p : Parts) (records : List Parts) → records ≡ p ∷ [] → AddsParts rules old new p → AddsAll rules old new records
adds_one rules old new p records e a = subst (λ (ps : List Parts). AddsAll rules old new ps) (sym e) (record {
  registered = λ kind. a.registered kind ∙ ap (added (ids_in old.registered kind)) (sym (append-nil (own_ids rules kind p)));
  applicants = a.applicants ∙ ap (added old.applicants) (sym (append-nil (applicants_among rules p)));
})

pub adds_none : (rules : Rules) (old : Registry) (records : List Parts) → records ≡ [] → AddsAll rules old old records
adds_none rules old records e = subst (λ (ps : List Parts). AddsAll rules old old ps) (sym e) (record { registered = λ kind. refl; applicants = refl })

-- with what a row registers, the tables are what they were to be
module _ (rules : Rules) (old new : Registry) (here rest : List Parts) (a : AddsAll rules old new here) where
  pub adds_own : (kind : Kind) → added (ids_in new.registered kind) (all_own_ids rules kind rest) ≡ added (ids_in old.registered kind) (all_own_ids rules kind (here ++ rest))
  adds_own kind =
      ap (λ table. added table (all_own_ids rules kind rest)) (a.registered kind) ∙ sym (added-append (ids_in old.registered kind) (all_own_ids rules kind here) (all_own_ids rules kind rest))
      ∙ ap (added (ids_in old.registered kind)) (sym (flat_map-append (own_ids rules kind) here rest))

  pub adds_applicants : added new.applicants (all_applicants rules rest) ≡ added old.applicants (all_applicants rules (here ++ rest))
  adds_applicants =
      ap (λ table. added table (all_applicants rules rest)) a.applicants ∙ sym (added-append old.applicants (all_applicants rules here) (all_applicants rules rest))
      ∙ ap (added old.applicants) (sym (flat_map-append (applicants_among rules) here rest))

-- what stands before the next record
pub is_before_more : (rules : Rules) (before : List Parts) (new : Before) (programs : IsPassed (all_own_ids rules OfProgram before) new.programs) (couples : IsPassed (all_own_ids rules OfCouple before) new.couples)
    (applicants : IsPassed (all_applicants rules before) new.applicants) (entries : new.entries ≡ min (all_entries before) most) (w_programs : new.withdrawn.programs ≡ added [] (all_withdrawn rules OfProgram before))
    (w_singles : new.withdrawn.applicants ≡ added [] (all_withdrawn rules OfApplicant before)) (w_couples : new.withdrawn.couples ≡ added [] (all_withdrawn rules OfCouple before)) → IsBefore rules before new
is_before_more rules before new programs couples applicants entries w_programs w_singles w_couples = record {
  programs = programs;
  couples = couples;
  applicants = applicants;
  entries = entries;
  withdrawn = by_kind (λ (kind : Kind). ids_in new.withdrawn kind ≡ added [] (all_withdrawn rules kind before)) w_programs w_singles w_couples;
}
