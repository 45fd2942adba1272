-- No byte of an id is one of markup. Each of the five bytes is tried against the test of an id's bytes.
use Rattle.std.proofs.Common.{◌≡◌, ℕ, ◌<◌, Bool, true, false, ◌==◌, not, ◌&&◌, List, [], ◌∷◌, length, get_or, nat_le, nat_lt, refl, sym, ap, ◌∙◌, arith, inl, inr}
use Rattle.std.specs.Prelude.{codes}
use Rattle.std.specs.List.{list_all, list_any}
use Rattle.std.proofs.lemmas.Bool.{and_parts, both_ways, cases_Bool, true≢false}
use Rattle.std.proofs.lemmas.Bool.Decides.{nat_tests}
use Rattle.std.proofs.lemmas.List.Folds.{list_all_at}
use Rattle.mt_terms.specs.Lists.{has}
use Rattle.mt_terms.specs.Registration.Ids.{Bytes, is_dash, is_id, is_id_byte}
use Rattle.mt_statistics_page.specs.Laws.{IdsAreNoMarkup}

-- a byte that no id has is none of an id's bytes
other_byte : (mark byte : ℕ) → is_id_byte byte ≡ true → is_id_byte mark ≡ false → (mark == byte) ≡ false
other_byte mark byte of_id none = by (mark == byte) refl
  where
    by : (b : Bool) → (mark == byte) ≡ b → b ≡ false
    by true same = let e : byte ≡ mark = grind (arith, nat_tests) in absurd (true≢false (sym of_id ∙ ap is_id_byte e ∙ none))
    by false same = refl

no_markup : (bytes : List ℕ) → list_all is_id_byte bytes ≡ true → list_any (has (codes "<>&'\"")) bytes ≡ false
no_markup [] h = refl
no_markup (byte ∷ bytes) h =
    let parts = and_parts (is_id_byte byte) (list_all is_id_byte bytes) h in
    rw (other_byte 60 byte parts.0 refl, other_byte 62 byte parts.0 refl, other_byte 38 byte parts.0 refl, other_byte 39 byte parts.0 refl, other_byte 34 byte parts.0 refl)
    (no_markup bytes parts.1)

bytes_of_id : (id : Bytes) → is_id 64 id ≡ true → list_all is_id_byte id ≡ true
bytes_of_id id h =
    let all = and_parts (nat_lt 0 (length id) && nat_le (length id) 64 && list_all is_id_byte id) (not (is_dash id)) h in
    (and_parts (nat_lt 0 (length id) && nat_le (length id) 64) (list_all is_id_byte id) all.0).1

no_markup_at : (ids : List Bytes) (p : ℕ) → p < length ids → list_all (is_id 64) ids ≡ true → list_any (has (codes "<>&'\"")) (get_or ids p []) ≡ false
no_markup_at ids p within all = elim (cases_Bool (is_id 64 (get_or ids p []))) [
  | inl one ↦ no_markup (get_or ids p []) (bytes_of_id (get_or ids p []) one)
  | inr other ↦ absurd (both_ways (list_all (is_id 64) ids) (list_all_at (is_id 64) ids p [] within other) all)
]

pub ids_are_no_markup_lem : IdsAreNoMarkup
ids_are_no_markup_lem r formed p within =
    let names = formed.program_names in
    no_markup_at r.names.programs p (omega (arith, names.one_each)) names.are_ids
