-- A couple's record without a look at its list, by its names and the fields of that.
use Rattle.std.proofs.Common.{◌≡◌, ◌%◌, Bool, true, false, List, [], ◌∷◌, length, map, Option, Some, None, refl, ap, sym, ◌∙◌, if◌then◌else◌}
use Rattle.std.specs.Prelude.{option_map}
use Rattle.mt_terms.specs.Registration.Ids.{Bytes}
use Rattle.mt_terms.specs.Registration.Records.{Rules, Record, CoupleRecord, IdPair, are_ids, two_by_two, pair_of}
use Rattle.mt_terms.specs.Lists.{by_twos}
use Rattle.mt_draft_laws.specs.Faultless.{couple_draft}
use Rattle.mt_records.proofs.FieldFacts.{two_by_two-by_twos}

module _ (rules : Rules) (all : List Bytes) (id a b : Bytes) (list : List Bytes) (is : all ≡ id ∷ a ∷ b ∷ list) where
  -- the record by the fields of the list two by two
  abbrev by_list : Option (List (Bytes × Bytes)) → Option Record
  by_list o = if are_ids rules (id ∷ a ∷ b ∷ []) then option_map (λ pairs. CoupleRecord id a b (map pair_of pairs)) o else None

  draft_is : (o : Option (List (Bytes × Bytes))) → two_by_two list ≡ o → couple_draft rules all ≡ by_list o
  draft_is o h = ap (couple_draft rules) is ∙ ap by_list h

  -- an odd number of them, or an even one
  pub odd_list : length list % 2 ≡ 1 → None ≡ couple_draft rules all
  odd_list odd = sym (draft_is None ((two_by_two-by_twos list).1 odd) ∙ by (are_ids rules (id ∷ a ∷ b ∷ [])))
    where
      by : (t : Bool) → (if t then option_map (λ pairs. CoupleRecord id a b (map pair_of pairs)) None else None) ≡ None
      by true = refl
      by false = refl

  pub even_list : length list % 2 ≡ 0 → are_ids rules (id ∷ a ∷ b ∷ []) ≡ true → (members : Bytes × Bytes) (pairs : List IdPair) → members ≡ (a, b) → pairs ≡ map pair_of (by_twos list)
      → Some (CoupleRecord id members.0 members.1 pairs) ≡ couple_draft rules all
  even_list even names members pairs both are =
      ap (λ (ps : List IdPair). Some (CoupleRecord id members.0 members.1 ps)) are ∙ ap (λ (m : Bytes × Bytes). Some (CoupleRecord id m.0 m.1 (map pair_of (by_twos list)))) both
      ∙ sym (draft_is (Some (by_twos list)) ((two_by_two-by_twos list).0 even) ∙ rw names refl)
