-- A refusal line is one record: none of its fields has a comma or a line feed.
use Rattle.std.proofs.Common.{◌≡◌, ℕ, zero, suc, ◌+◌, ◌<◌, ◌≤◌, ◌/◌, ◌%◌, ◌==◌, nat_lt, nat_le, Bool, true, false, not, ◌&&◌, List, [], ◌∷◌, ◌++◌, length, refl, sym, ap, ◌∙◌, cond, arith}
use Rattle.std.specs.Prelude.{codes, decimal}
use Rattle.std.specs.Fmt.{digits, digit_glyph, digits_onto}
use Rattle.std.specs.List.{join_with_byte, list_all, list_any, slice_split}
use Rattle.std.proofs.lemmas.Bool.{and_parts, and_from, not-true, eqb-true, true≢false}
use Rattle.std.proofs.lemmas.Bool.Decides.{nat_tests}
use Rattle.std.proofs.lemmas.List.Folds.{list_all-append}
use Rattle.std.proofs.lemmas.List.Splits.{slice_split_none, slice_split_at}
use Rattle.std.proofs.lemmas.List.Sums.{AllPass-from_list_all}
use Rattle.mt_file_laws.specs.Text.{RefusalIsOneRecord}
use Rattle.mt_terms.specs.Text.{is_applicant_line, id_text, is_none_or_id, name_among, refusals}
use Rattle.mt_terms.specs.Registration.Ids.{Bytes, is_dash, is_id_byte}

-- The bytes in question are not 48 or more, where the digits begin, and stand in no id.
module _ (c : ℕ) (small : c < 48) (no_id : is_id_byte c ≡ false) where
  abbrev lacks : List ℕ → Bool
  lacks bytes = list_all (λ byte. not (byte == c)) bytes

  abbrev lacking : List (List ℕ) → Bool
  lacking fields = list_all lacks fields

  differs_from_large : (byte : ℕ) → 48 ≤ byte → not (byte == c) ≡ true
  differs_from_large byte l = grind (arith, nat_tests)

  glyph : (d : ℕ) → not (digit_glyph false d == c) ≡ true
  glyph d = by (nat_lt d 10)
    where
      by : (b : Bool) → not (cond b (48 + d) (87 + d) == c) ≡ true
      by true = differs_from_large (48 + d) (omega arith)
      by false = differs_from_large (87 + d) (omega arith)

  either : (b : Bool) (xs ys : List ℕ) → lacks xs ≡ true → lacks ys ≡ true → lacks (cond b xs ys) ≡ true
  either true xs ys h k = h
  either false xs ys h k = k

  digits_lack : (k n : ℕ) (acc : List ℕ) → lacks acc ≡ true → lacks (digits_onto k 10 false n acc) ≡ true
  digits_lack zero n acc h = h
  digits_lack (suc k) n acc h =
      let more : List ℕ = digit_glyph false (n % 10) ∷ acc in
      let onto : lacks more ≡ true = and_from _ (lacks acc) (glyph (n % 10)) h in
      either (n / 10 == 0) more (digits_onto k 10 false (n / 10) more) onto (digits_lack k (n / 10) more onto)

  decimal_lacks : (n : ℕ) → lacks (decimal n) ≡ true
  unfolding digits
  decimal_lacks n = digits_lack 64 n [] refl

  name_lacks : (names : List (ℕ × List ℕ)) (code : ℕ) → list_all (λ r. lacks r.1) names ≡ true → lacks (name_among names code) ≡ true
  name_lacks [] code h = refl
  name_lacks (r ∷ rs) code h =
      let parts : (lacks r.1 ≡ true) × (list_all (λ q. lacks q.1) rs ≡ true) = and_parts (lacks r.1) _ h in
      either (r.0 == code) r.1 (name_among rs code) parts.0 (name_lacks rs code parts.1)

  id_byte_differs : (byte : ℕ) → is_id_byte byte ≡ true → not (byte == c) ≡ true
  id_byte_differs byte h = by (byte == c) refl
    where
      by : (b : Bool) → (byte == c) ≡ b → not b ≡ true
      by true e = absurd (true≢false (sym h ∙ ap is_id_byte (eqb-true byte c e) ∙ no_id))
      by false e = refl

  id_bytes_lack : (bytes : List ℕ) → list_all is_id_byte bytes ≡ true → lacks bytes ≡ true
  id_bytes_lack [] h = refl
  id_bytes_lack (byte ∷ bytes) h =
      let parts : (is_id_byte byte ≡ true) × (list_all is_id_byte bytes ≡ true) = and_parts (is_id_byte byte) _ h in
      and_from (not (byte == c)) (lacks bytes) (id_byte_differs byte parts.0) (id_bytes_lack bytes parts.1)

  id_lacks : (id : Bytes) → lacks (codes "-") ≡ true → is_none_or_id id ≡ true → lacks (id_text id) ≡ true
  id_lacks [] dash h = dash
  id_lacks (byte ∷ bytes) dash h = id_bytes_lack (byte ∷ bytes) (third (nat_lt 0 (length (byte ∷ bytes))) (nat_le (length (byte ∷ bytes)) 64) (list_all is_id_byte (byte ∷ bytes)) (not (is_dash (byte ∷ bytes))) h)
    where
      third : (p q r s : Bool) → (p && q && r && s) ≡ true → r ≡ true
      third true true true s k = refl
      third true true false s k = k
      third true false r s k = cc
      third false q r s k = cc

  -- if another byte joins fields without this one, the whole has none
  join_lacks : (d : ℕ) → (d == c) ≡ false → (fields : List (List ℕ)) → lacking fields ≡ true → lacks (join_with_byte d fields) ≡ true
  join_lacks d other [] h = refl
  join_lacks d other (f ∷ []) h = (and_parts (lacks f) true h).0
  join_lacks d other (f ∷ g ∷ fs) h =
      let parts : (lacks f ≡ true) × (lacking (g ∷ fs) ≡ true) = and_parts (lacks f) _ h in
      list_all-append (λ byte. not (byte == c)) f (d ∷ join_with_byte d (g ∷ fs))
      ∙ and_from (lacks f) _ parts.0 (and_from (not (d == c)) _ (ap not other) (join_lacks d other (g ∷ fs) parts.1))

  cut_nowhere : (bytes : List ℕ) → lacks bytes ≡ true → slice_split (λ byte. byte == c) bytes ≡ bytes ∷ []
  cut_nowhere bytes h = slice_split_none (λ byte. byte == c) bytes (λ k d l. not-true _ (AllPass-from_list_all (λ byte. not (byte == c)) bytes h k d l))

  cut_at_it : (bytes rest : List ℕ) → lacks bytes ≡ true → (c == c) ≡ true → slice_split (λ byte. byte == c) (bytes ++ c ∷ rest) ≡ bytes ∷ slice_split (λ byte. byte == c) rest
  cut_at_it bytes rest h is =
      slice_split_at (λ byte. byte == c) bytes c rest (λ k d l. not-true _ (AllPass-from_list_all (λ byte. not (byte == c)) bytes h k d l)) is

  -- fields that this byte joins are cut at it
  cut_joined : (f : List ℕ) (fields : List (List ℕ)) → (c == c) ≡ true → lacking (f ∷ fields) ≡ true
      → slice_split (λ byte. byte == c) (join_with_byte c (f ∷ fields)) ≡ f ∷ fields
  cut_joined f [] is h = cut_nowhere f (and_parts (lacks f) true h).0
  cut_joined f (g ∷ fields) is h =
      let parts : (lacks f ≡ true) × (lacking (g ∷ fields) ≡ true) = and_parts (lacks f) _ h in
      cut_at_it f (join_with_byte c (g ∷ fields)) parts.0 is ∙ ap (λ fs. f ∷ fs) (cut_joined g fields is parts.1)

  -- the last four fields of a refusal line, after these
  fields_lack : (code row : ℕ) (id : Bytes) → list_all (λ r. lacks r.1) refusals ≡ true → lacks (codes "-") ≡ true → is_none_or_id id ≡ true
      → lacking (decimal code ∷ name_among refusals code ∷ decimal row ∷ id_text id ∷ []) ≡ true
  fields_lack code row id names dash h =
      and_from (lacks (decimal code)) _ (decimal_lacks code)
      (and_from (lacks (name_among refusals code)) _ (name_lacks refusals code names)
      (and_from (lacks (decimal row)) _ (decimal_lacks row) (and_from (lacks (id_text id)) true (id_lacks id dash h) refl)))

pub refusal_is_one_record_lem : RefusalIsOneRecord
refusal_is_one_record_lem code row id h = record {
  line = whole;
  one_line = one_line;
  its_fields = cut_joined 44 (omega arith) refl (codes "match") (codes "1" ∷ codes "refused" ∷ last_four) refl (fields_lack 44 (omega arith) refl code row id refl refl h);
  no_applicant = ap (list_any is_applicant_line) one_line;
}
  where
    last_four : List (List ℕ)
    last_four = decimal code ∷ name_among refusals code ∷ decimal row ∷ id_text id ∷ []

    whole : List ℕ
    whole = join_with_byte 44 (codes "match" ∷ codes "1" ∷ codes "refused" ∷ last_four)

    one_line : slice_split (λ byte. byte == 10) (whole ++ 10 ∷ []) ≡ whole ∷ [] ∷ []
    one_line = cut_at_it 10 (omega arith) refl whole []
        (join_lacks 10 (omega arith) refl 44 refl (codes "match" ∷ codes "1" ∷ codes "refused" ∷ last_four) (fields_lack 10 (omega arith) refl code row id refl refl h)) refl
