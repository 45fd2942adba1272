-- Registers with one record more.
use Rattle.std.proofs.Common.{subst, ◌≡◌, ◌+◌, Bool, true, false, ◌||◌, ◌||◌, List, [], ◌∷◌, ◌++◌, map, refl, ap, sym, ◌∙◌, None}
use Rattle.std.specs.Prelude.{option_to_list, bytes_eq}
use Rattle.std.proofs.lemmas.List.{map-append}
use Rattle.mt_record_laws.proofs.GrowthFacts.{ids_of-more, applicant_ids-more, withdrawn-more, entry_count-more}
use Rattle.mt_terms.specs.Registration.Ids.{Bytes, has_id}
use Rattle.mt_terms.specs.Registration.Records.{Record, OfApplicant, ProgramRecord, ApplicantRecord, CoupleRecord, WithdrawRecord}
use Rattle.mt_terms.specs.Registration.Rows.{own_id, ids_of, withdrawn, withdrawn_id, applicants_of, applicant_ids, entries_of, entry_count}
use Rattle.mt_terms.specs.Registration.Passes.{registered_before, contents}
use Rattle.mt_passes.specs.declared.register.Numbered as declared
use Rattle.mt_records.specs.Records.{record_seen}
use Rattle.mt_passes.specs.declared.register.Register.{Register}
use Rattle.mt_ids.specs.Kinds.{ids_in}
use Rattle.mt_passes.specs.Registers.{numbered_seen, contents_seen, AreFew, IsRegister, AddsRecord}
use Rattle.std.proofs.lemmas.Bool.{false_from_ne_true, or_right}
use Rattle.mt_record_laws.proofs.FirstPassFacts.{not_found}

-- a single is an applicant
singles_within : (rs : List Record) (x : Bytes) → has_id (ids_of OfApplicant rs) x ≡ true → has_id (applicant_ids rs) x ≡ true
singles_within [] x h = cc
singles_within (ProgramRecord id quota list ∷ rs) x h = singles_within rs x h
singles_within (ApplicantRecord id list ∷ rs) x h = by (bytes_eq x id) h (singles_within rs x)
  where
    by : (b : Bool) → (b || has_id (ids_of OfApplicant rs) x) ≡ true → (has_id (ids_of OfApplicant rs) x ≡ true → has_id (applicant_ids rs) x ≡ true) → (b || has_id (applicant_ids rs) x) ≡ true
    by true k ih = refl
    by false k ih = ih k
singles_within (CoupleRecord id a b pairs ∷ rs) x h = or_right (bytes_eq x a) _ (or_right (bytes_eq x b) _ (singles_within rs x h))
singles_within (WithdrawRecord kind id ∷ rs) x h = singles_within rs x h

pub new_single : (rs : List Record) (id : Bytes) (list : List Bytes) → registered_before rs (ApplicantRecord id list) ≡ None → has_id (ids_of OfApplicant rs) id ≡ false
new_single rs id list h =
    let n : has_id (applicant_ids rs) id ≡ false = not_found _ id h in
    false_from_ne_true _ (λ k. let m : has_id (applicant_ids rs) id ≡ true = singles_within rs id k in cc)

-- a register's tables and its records with one record more
pub is_register_more : (old tables new : Register) (r : Record) → IsRegister old → AddsRecord old tables r
    → contents_seen new ≡ contents_seen old ++ r ∷ [] → new.registered ≡ tables.registered → new.applicants ≡ tables.applicants → new.withdrawn ≡ tables.withdrawn
    → new.entries ≡ tables.entries + entries_of r → AreFew (contents_seen old ++ r ∷ []) → IsRegister new
is_register_more old tables new r is adds contents regs apps wds ents few = record {
  registered = λ kind. ap (λ k. ids_in k kind) regs ∙ adds.registered kind ∙ ap (λ ids. ids ++ option_to_list (own_id kind r)) (is.registered kind) ∙ sym (ids_of-more (contents_seen old) r kind) ∙ ap (ids_of kind) (sym contents);
  applicants = apps ∙ adds.applicants ∙ ap (λ ids. ids ++ applicants_of r) is.applicants ∙ sym (applicant_ids-more (contents_seen old) r) ∙ ap applicant_ids (sym contents);
  withdrawn = λ kind. ap (λ k. ids_in k kind) wds ∙ adds.withdrawn kind ∙ ap (λ ids. ids ++ option_to_list (withdrawn_id kind r)) (is.withdrawn kind) ∙ sym (withdrawn-more (contents_seen old) r kind) ∙ ap (withdrawn kind) (sym contents);
  entries = ents ∙ ap (λ n. n + entries_of r) (adds.entries ∙ is.entries) ∙ sym (entry_count-more (contents_seen old) r) ∙ ap entry_count (sym contents);
  few = subst AreFew (sym contents) few;
}

pub contents_more : (old tables : Register) (items : List declared.Numbered) (n : declared.Numbered) → tables.records ≡ old.records → items ≡ tables.records.items ++ n ∷ []
    → contents (map numbered_seen items) ≡ contents_seen old ++ record_seen n.record ∷ []
contents_more old tables items n same more =
    let all : items ≡ old.records.items ++ n ∷ [] = rw same at more in
    rw (all, map-append, map-append) refl
