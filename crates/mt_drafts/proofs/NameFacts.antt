-- The ids of records with one more.
use Rattle.std.proofs.Common.{◌≡◌, List, [], ◌∷◌, ◌++◌, ap, sym, ◌∙◌}
use Rattle.std.specs.Prelude.{option_to_list}
use Rattle.std.proofs.lemmas.List.{append-nil}
use Rattle.std.proofs.lemmas.Grind.{flat_map-append}
use Rattle.std.proofs.lemmas.List.Elements.{filter_map-append}
use Rattle.mt_terms.specs.Registration.Records.{Record, OfProgram, OfCouple}
use Rattle.mt_terms.specs.Registration.Rows.{own_id, applicants_of}
use Rattle.mt_drafts.specs.declared.names.NameLists.{NameLists}
use Rattle.mt_drafts.specs.Names.{singles_of, single_flags, AreNames, AddsAllNames, AddsNames}
use Rattle.mt_record_laws.proofs.GrowthFacts.{ids_of-more, applicant_ids-more}

single_flags-more : (rs : List Record) (r : Record) → single_flags (rs ++ r ∷ []) ≡ single_flags rs ++ singles_of r
single_flags-more rs r = flat_map-append singles_of rs (r ∷ []) ∙ ap (λ flags. single_flags rs ++ flags) (append-nil (singles_of r))

pub names_more : (old new : NameLists) (rs : List Record) (r : Record) → AreNames rs old → AddsNames old new r → AreNames (rs ++ r ∷ []) new
names_more old new rs r are adds = record {
  programs = adds.programs ∙ ap (λ ids. ids ++ option_to_list (own_id OfProgram r)) are.programs ∙ sym (ids_of-more rs r OfProgram);
  applicants = adds.applicants ∙ ap (λ ids. ids ++ applicants_of r) are.applicants ∙ sym (applicant_ids-more rs r);
  couples = adds.couples ∙ ap (λ ids. ids ++ option_to_list (own_id OfCouple r)) are.couples ∙ sym (ids_of-more rs r OfCouple);
  singles = adds.singles ∙ ap (λ flags. flags ++ singles_of r) are.singles ∙ sym (single_flags-more rs r);
}

-- The ids of records, with those of others after them.
pub names_of_all : (old new others : NameLists) (rs more : List Record) → AreNames rs old → AreNames more others → AddsAllNames old new others → AreNames (rs ++ more) new
names_of_all old new others rs more are these adds = record {
  programs = adds.programs ∙ both are.programs these.programs ∙ sym (filter_map-append (own_id OfProgram) rs more);
  applicants = adds.applicants ∙ both are.applicants these.applicants ∙ sym (flat_map-append applicants_of rs more);
  couples = adds.couples ∙ both are.couples these.couples ∙ sym (filter_map-append (own_id OfCouple) rs more);
  singles = adds.singles ∙ both are.singles these.singles ∙ sym (flat_map-append singles_of rs more);
}
  where
    both : {X : Type 0} {a b x y : List X} → a ≡ b → x ≡ y → a ++ x ≡ b ++ y
    both {b = b} {x = x} p q = ap (λ xs. xs ++ x) p ∙ ap (λ xs. b ++ xs) q
