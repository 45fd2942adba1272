-- Whether an element stands twice in a list, by the elements before each.
use Rattle.std.proofs.Common.{◌≡◌, Bool, true, false, not, ◌&&◌, ◌||◌, List, [], ◌∷◌, ◌++◌, Some, None, Option, Bor, refl, ap, sym, ◌∙◌, subst, inl, inr, ◌⊎◌, if◌then◌else◌}
use Rattle.std.specs.Prelude.{bytes_eq}
use Rattle.std.specs.List.{list_any}
use Rattle.std.specs.Option.{option_copied, option_eq, unwrap_or}
use Rattle.std.proofs.lemmas.Bool.{and_parts, false_from_ne_true, or_right, or_parts}
use Rattle.std.proofs.lemmas.List.{append_assoc}
use Rattle.std.proofs.lemmas.List.Folds.{list_any-append}
use Rattle.mt_terms.proofs.IdFacts.{same_id, is_same}
use Rattle.mt_terms.specs.Registration.Ids.{Bytes, all_differ}
use Rattle.mt_terms.specs.Registration.Records.{IdPair}
use Rattle.mt_terms.specs.Registration.Passes.{is_same_pair}

-- a test that says whether two elements are equal
abbrev pub Tests : {X : Type 0} → (X → X → Bool) → Type 0
Tests {X} same = (x y : X) → (same x y ≡ true → x ≡ y) × (x ≡ y → same x y ≡ true)

pub same_ids : Tests bytes_eq
same_ids x y = (same_id x y, is_same x y)

same_places : Tests (option_eq bytes_eq)
same_places None None = (λ h. refl, λ h. refl)
same_places None (Some y) = (λ h. cc, λ h. cc)
same_places (Some x) None = (λ h. cc, λ h. cc)
same_places (Some x) (Some y) = (λ h. ap Some (same_id x y h), λ h. is_same x y cc)

pub same_pairs : Tests is_same_pair
same_pairs p q = (
  λ h. let t : (option_eq bytes_eq p.0 q.0 ≡ true) × (option_eq bytes_eq p.1 q.1 ≡ true) = and_parts (option_eq bytes_eq p.0 q.0) _ h in
      let a : p.0 ≡ q.0 = (same_places p.0 q.0).0 t.0 in
      let b : p.1 ≡ q.1 = (same_places p.1 q.1).0 t.1 in
      λ j. (a j, b j),
  λ h. let a : option_eq bytes_eq p.0 q.0 ≡ true = (same_places p.0 q.0).1 (ap (λ (r : IdPair). r.0) h) in
      let b : option_eq bytes_eq p.1 q.1 ≡ true = (same_places p.1 q.1).1 (ap (λ (r : IdPair). r.1) h) in
      rw (a, b) refl,
)

-- an element that isn't among the others, and those differ too
differ_parts : {X : Type 0} (same : X → X → Bool) (x : X) (xs : List X) → all_differ same (x ∷ xs) ≡ true → (list_any (same x) xs ≡ false) × (all_differ same xs ≡ true)
differ_parts same x xs h = by (list_any (same x) xs) h
  where
    by : (b : Bool) → (not b && all_differ same xs) ≡ true → (b ≡ false) × (all_differ same xs ≡ true)
    by true k = cc
    by false k = (refl, k)

-- no element of those seen stands twice, and with those left they are the whole list
abbrev pub SeesEach : {X : Type 0} → (X → X → Bool) → List X → List X → List X → Type 0
SeesEach same seen left whole = (all_differ same seen ≡ true) × (seen ++ left ≡ whole)

module _ {X : Type 0} (same : X → X → Bool) (tests : Tests same) where
  pub symmetric : (x y : X) → same x y ≡ false → same y x ≡ false
  symmetric x y h = false_from_ne_true _ (λ k. let e : same x y ≡ true = (tests x y).1 (sym ((tests y x).0 k)) in cc)

  itself : (x : X) → same x x ≡ true
  itself x = (tests x x).1 refl

  differ_join : (x : X) (xs : List X) → list_any (same x) xs ≡ false → all_differ same xs ≡ true → all_differ same (x ∷ xs) ≡ true
  differ_join x xs h k = rw (h, k) refl

  -- an element that is new at the end
  differ_push : (xs : List X) (x : X) → list_any (same x) xs ≡ false → all_differ same xs ≡ true → all_differ same (xs ++ x ∷ []) ≡ true
  differ_push [] x h k = refl
  differ_push (y ∷ ys) x h k =
      let p : (list_any (same y) ys ≡ false) × (all_differ same ys ≡ true) = differ_parts same y ys k in
      let q : (same x y ≡ false) × (list_any (same x) ys ≡ false) = or_parts (same x y) (list_any (same x) ys) h in
      let n : same y x ≡ false = symmetric x y q.0 in
      let e : list_any (same y) (ys ++ x ∷ []) ≡ false = rw (list_any-append, p.0, n) refl in
      differ_join y (ys ++ x ∷ []) e (differ_push ys x q.1 p.1)

  -- one that is there already
  repeat_push : (xs rest : List X) (x : X) → list_any (same x) xs ≡ true → all_differ same (xs ++ x ∷ rest) ≡ false
  repeat_push [] rest x h = cc
  repeat_push (y ∷ ys) rest x h = by (same x y) refl h (repeat_push ys rest x)
    where
      either_false : (b c : Bool) → (b ≡ true) ⊎ (c ≡ false) → (not b && c) ≡ false
      either_false true c h = refl
      either_false false c (inl h) = cc
      either_false false c (inr h) = h

      by : (b : Bool) → same x y ≡ b → (b || list_any (same x) ys) ≡ true → (list_any (same x) ys ≡ true → all_differ same (ys ++ x ∷ rest) ≡ false) → (not (list_any (same y) (ys ++ x ∷ rest)) && all_differ same (ys ++ x ∷ rest)) ≡ false
      by true e k ih =
          let f : same y x ≡ true = (tests y x).1 (sym ((tests x y).0 e)) in
          let g : list_any (same y) (ys ++ x ∷ rest) ≡ true = rw (list_any-append, f) (or_right (list_any (same y) ys) true refl) in
          either_false _ _ (inl g)
      by false e k ih = either_false _ _ (inr (ih k))

  -- the next element is one of those that were seen, or it is new and seen from now on
  module _ (seen left whole : List X) (x : X) (sees : SeesEach same seen (x ∷ left) whole) (added : Bool) (said : added ≡ not (list_any (same x) seen)) where
    pub stands_twice : added ≡ false → all_differ same whole ≡ false
    stands_twice h = by (list_any (same x) seen) refl (sym h ∙ said)
      where
        by : (b : Bool) → list_any (same x) seen ≡ b → false ≡ not b → all_differ same whole ≡ false
        by true e k = ap (all_differ same) (sym sees.1) ∙ repeat_push seen left x e
        by false e k = cc

    pub sees_next : (new : List X) → new ≡ (if list_any (same x) seen then seen else seen ++ x ∷ []) → added ≡ true → SeesEach same new left whole
    sees_next new is h = by (list_any (same x) seen) refl (sym h ∙ said) is
      where
        by : (b : Bool) → list_any (same x) seen ≡ b → true ≡ not b → new ≡ (if b then seen else seen ++ x ∷ []) → SeesEach same new left whole
        by true e k is = cc
        by false e k is =
            subst (λ (xs : List X). SeesEach same xs left whole) (sym is) (differ_push seen x e sees.0, append_assoc seen (x ∷ []) left ∙ sees.1)

-- what is lent of an optional id, or another one
pub lent_or : (o : Option (Bor Bytes)) (d : Bor Bytes) → (unwrap_or o d).now ≡ unwrap_or (option_copied o) d.now
lent_or None d = refl
lent_or (Some x) d = refl
