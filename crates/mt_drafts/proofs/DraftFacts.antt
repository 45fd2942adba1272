-- The records of rows, by those of the rows so far.
use Rattle.std.proofs.Common.{◌≡◌, true, false, List, [], ◌∷◌, ◌++◌, length, Option, Some, None, refl, ap, sym, ◌∙◌, subst}
use Rattle.std.specs.Prelude.{option_map, option_and_then, if◌then◌else◌}
use Rattle.std.proofs.lemmas.List.{append_assoc}
use Rattle.mt_terms.specs.Market.{Registered}
use Rattle.mt_terms.specs.Registration.Ids.{Bytes}
use Rattle.mt_terms.specs.Registration.Records.{Rules, Record}
use Rattle.mt_terms.specs.Registration.Passes.{are_too_many}
use Rattle.mt_terms.specs.Registration.Numbering.{registered}
use Rattle.mt_draft_laws.specs.Faultless.{draft, drafts, is_faultless}
use Rattle.mt_record_laws.proofs.IdFacts.{not_true}
use Rattle.mt_draft_laws.proofs.ApartFacts.{AreApart, apart_front}
use Rattle.mt_draft_laws.proofs.KnownFacts.{faultless_parts}
use Rattle.mt_drafts.specs.Drafts.{with_fields, HaveFault}

-- too many of the first records are too many of all
too_many : (rules : Rules) (front rest : List Record) → are_too_many rules.limits front ≡ true → is_faultless rules (front ++ rest) ≡ false
too_many rules front rest many =
    not_true _
    (λ faultless.
    let apart : AreApart rules.limits front = apart_front rules.limits front rest (faultless_parts rules (front ++ rest) faultless).apart in
    cc (many, apart.few))

module _ (rules : Rules) where
  -- the records of all rows are these, and those of the rows that are left
  abbrev pub GoesOn : List (List Bytes) → List Record → List (List Bytes) → Type 0
  GoesOn all front left = drafts rules (with_fields all) ≡ option_map (λ rs. front ++ rs) (drafts rules (with_fields left))

  -- one record more, of a row that has a field
  one_more : (all : List (List Bytes)) (front : List Record) (row : List Bytes) (rest : List (List Bytes)) (r : Record) → (length row ≡ 0 → ⊥) → draft rules row ≡ Some r
      → GoesOn all front (row ∷ rest) → GoesOn all (front ++ r ∷ []) rest
  one_more all front [] rest r some d on = absurd (some refl)
  one_more all front (word ∷ fields) rest r some d on =
      on ∙ ap (λ o. option_map (λ rs. front ++ rs) (option_and_then (λ q. option_map (λ rs. q ∷ rs) (drafts rules (with_fields rest))) o)) d
      ∙ moved (drafts rules (with_fields rest))
    where
      moved : (o : Option (List Record)) → option_map (λ rs. front ++ rs) (option_map (λ rs. r ∷ rs) o) ≡ option_map (λ rs. (front ++ r ∷ []) ++ rs) o
      moved None = refl
      moved (Some rs) = ap Some (sym (append_assoc front (r ∷ []) rs))

  pub goes_on : (all : List (List Bytes)) (front new : List Record) (left rest : List (List Bytes)) (row fields : List Bytes) (r : Record)
      → left ≡ row ∷ rest → (length row ≡ 0 → ⊥) → fields ≡ row → draft rules fields ≡ Some r → new ≡ front ++ r ∷ [] → GoesOn all front left → GoesOn all new rest
  goes_on all front new left rest row fields r next some same d more on =
      subst (λ (rs : List Record). GoesOn all rs rest) (sym more)
      (one_more all front row rest r some (ap (draft rules) (sym same) ∙ d) (subst (λ (rows : List (List Bytes)). GoesOn all front rows) next on))

  -- all rows have a fault if the first of them have too many records
  abbrev market : List Record → Option Registered
  market rs = if is_faultless rules rs then Some (registered rs) else None

  pub too_many_drafts : (all : List (List Bytes)) (front : List Record) (left : List (List Bytes)) → are_too_many rules.limits front ≡ true
      → GoesOn all front left → HaveFault rules all
  too_many_drafts all front left many on = ap (option_and_then market) on ∙ by (drafts rules (with_fields left))
    where
      by : (o : Option (List Record)) → option_and_then market (option_map (λ rs. front ++ rs) o) ≡ None
      by None = refl
      by (Some rest) = rw (too_many rules front rest many) refl

-- the rows that have a field, of rows and others after them
pub with_fields-append : (rows more : List (List Bytes)) → with_fields (rows ++ more) ≡ with_fields rows ++ with_fields more
with_fields-append [] more = refl
with_fields-append ([] ∷ rows) more = with_fields-append rows more
with_fields-append ((word ∷ fields) ∷ rows) more = ap (λ (all : List (List Bytes)). (word ∷ fields) ∷ all) (with_fields-append rows more)

-- and their records
drafts-append : (rules : Rules) (rows more : List (List Bytes)) (rs : List Record) → drafts rules more ≡ Some rs
    → drafts rules (rows ++ more) ≡ option_map (λ qs. qs ++ rs) (drafts rules rows)
drafts-append rules [] more rs are = are
drafts-append rules (row ∷ rows) more rs are =
    ap (λ o. option_and_then (λ r. option_map (λ qs. r ∷ qs) o) (draft rules row)) (drafts-append rules rows more rs are)
    ∙ moved (draft rules row) (drafts rules rows)
  where
    moved : (o : Option Record) (all : Option (List Record))
        → option_and_then (λ r. option_map (λ qs. r ∷ qs) (option_map (λ qs. qs ++ rs) all)) o ≡ option_map (λ qs. qs ++ rs) (option_and_then (λ r. option_map (λ qs. r ∷ qs) all) o)
    moved None all = refl
    moved (Some r) None = refl
    moved (Some r) (Some qs) = refl

pub drafts_of_all : (rules : Rules) (rows more : List (List Bytes)) (qs rs : List Record) → drafts rules (with_fields rows) ≡ Some qs → drafts rules (with_fields more) ≡ Some rs
    → drafts rules (with_fields (rows ++ more)) ≡ Some (qs ++ rs)
drafts_of_all rules rows more qs rs these those =
    ap (drafts rules) (with_fields-append rows more) ∙ drafts-append rules (with_fields rows) (with_fields more) rs those ∙ ap (option_map (λ ps. ps ++ rs)) these
