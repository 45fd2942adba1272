-- What records register, withdraw and count to, with one record more.
use Rattle.std.proofs.Common.{◌≡◌, ◌+◌, List, [], ◌∷◌, ◌++◌, refl, ap, ◌∙◌, Option, Some, None, arith}
use Rattle.std.specs.Prelude.{option_to_list, filter_map}
use Rattle.std.specs.List.{cons_option}
use Rattle.std.proofs.lemmas.List.{append-nil}
use Rattle.std.proofs.lemmas.List.Sums.{sum_by-append}
use Rattle.std.proofs.lemmas.List.Elements.{filter_map-append}
use Rattle.std.proofs.lemmas.Grind.{flat_map-append}
use Rattle.mt_terms.specs.Registration.Records.{Record, Kind}
use Rattle.mt_terms.specs.Registration.Rows.{own_id, ids_of, withdrawn, withdrawn_id, applicants_of, applicant_ids, entries_of, entry_count}

filter_map-more : {X Y : Type 0} (f : X → Option Y) (xs : List X) (x : X) → filter_map f (xs ++ x ∷ []) ≡ filter_map f xs ++ option_to_list (f x)
filter_map-more {Y = Y} f xs x = filter_map-append f xs (x ∷ []) ∙ by (f x)
  where
    by : (o : Option Y) → filter_map f xs ++ cons_option o [] ≡ filter_map f xs ++ option_to_list o
    by None = refl
    by (Some y) = refl

module _ (before : List Record) (r : Record) where
  pub applicant_ids-more : applicant_ids (before ++ r ∷ []) ≡ applicant_ids before ++ applicants_of r
  applicant_ids-more = flat_map-append applicants_of before (r ∷ []) ∙ ap (λ ids. applicant_ids before ++ ids) (append-nil (applicants_of r))

  pub ids_of-more : (kind : Kind) → ids_of kind (before ++ r ∷ []) ≡ ids_of kind before ++ option_to_list (own_id kind r)
  ids_of-more kind = filter_map-more (own_id kind) before r

  pub withdrawn-more : (kind : Kind) → withdrawn kind (before ++ r ∷ []) ≡ withdrawn kind before ++ option_to_list (withdrawn_id kind r)
  withdrawn-more kind = filter_map-more (withdrawn_id kind) before r

  pub entry_count-more : entry_count (before ++ r ∷ []) ≡ entry_count before + entries_of r
  entry_count-more = sum_by-append entries_of before (r ∷ []) ∙ omega arith
