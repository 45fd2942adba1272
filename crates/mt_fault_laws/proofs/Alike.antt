-- Lists that have something twice, by the elements after each, as a match tests them, and by the elements before each. What is
-- a pair has ids, or one id and a `-`.
use Rattle.std.proofs.Common.{◌≡◌, ℕ, Bool, true, false, not, ◌||◌, ◌&&◌, List, [], ◌∷◌, ◌++◌, map, length, nat_lt, nat_le, Option, Some, None, refl, ap, sym, ◌∙◌}
use Rattle.std.specs.Prelude.{bytes_eq}
use Rattle.std.specs.List.{list_any, list_all}
use Rattle.std.specs.Option.{option_eq}
use Rattle.std.proofs.lemmas.Bool.{or_parts, and_parts, not-true}
use Rattle.std.proofs.lemmas.List.Folds.{list_any-append}
use Rattle.mt_terms.specs.Registration.Ids.{Bytes, all_differ, is_id, is_id_byte, is_dash}
use Rattle.mt_terms.specs.Registration.Passes.{is_same_pair}
use Rattle.mt_terms.specs.Registration.Records.{Rules, IdPair, is_pair}
use Rattle.mt_terms.proofs.IdFacts.{bytes_eq_sym}

module _ {X : Type 0} (same : X → X → Bool) (symmetric : (x y : X) → same x y ≡ same y x) where
  -- an element that is not among those before it
  pub once_more : (xs : List X) (x : X) → list_any (same x) xs ≡ false → all_differ same xs ≡ true → all_differ same (xs ++ x ∷ []) ≡ true
  once_more [] x h k = refl
  once_more (y ∷ ys) x h k =
      let p : (same x y ≡ false) × (list_any (same x) ys ≡ false) = or_parts (same x y) (list_any (same x) ys) h in
      let q : (not (list_any (same y) ys) ≡ true) × (all_differ same ys ≡ true) = and_parts (not (list_any (same y) ys)) _ k in
      let n : list_any (same y) ys ≡ false = not-true (list_any (same y) ys) q.0 in
      let s : same y x ≡ false = symmetric y x ∙ p.0 in
      let e : list_any (same y) (ys ++ x ∷ []) ≡ false = rw (list_any-append, n, s) refl in
      rw (e, once_more ys x p.1 q.1) refl

  -- an element that is
  pub twice : (xs : List X) (x : X) (ys : List X) → list_any (same x) xs ≡ true → all_differ same (xs ++ x ∷ ys) ≡ false
  twice [] x ys h = cc
  twice (z ∷ zs) x ys h = by (same x z) (list_any (same x) zs) refl refl h (twice zs x ys)
    where
      there : list_any (same z) (zs ++ x ∷ ys) ≡ (list_any (same z) zs || (same z x || list_any (same z) ys))
      there = list_any-append (same z) zs (x ∷ ys)

      met : (l m d : Bool) → (not (l || (true || m)) && d) ≡ false
      met true m d = refl
      met false m d = refl

      later : (l : Bool) → (l && false) ≡ false
      later true = refl
      later false = refl

      by : (s r : Bool) → same x z ≡ s → list_any (same x) zs ≡ r → (s || r) ≡ true → (list_any (same x) zs ≡ true → all_differ same (zs ++ x ∷ ys) ≡ false)
          → (not (list_any (same z) (zs ++ x ∷ ys)) && all_differ same (zs ++ x ∷ ys)) ≡ false
      by true r e f k ih =
          ap (λ b. not b && all_differ same (zs ++ x ∷ ys)) (there ∙ ap (λ b. list_any (same z) zs || (b || list_any (same z) ys)) (symmetric z x ∙ e))
          ∙ met (list_any (same z) zs) (list_any (same z) ys) (all_differ same (zs ++ x ∷ ys))
      by false true e f k ih = ap (λ b. not (list_any (same z) (zs ++ x ∷ ys)) && b) (ih f) ∙ later (not (list_any (same z) (zs ++ x ∷ ys)))
      by false false e f k ih = cc

same_place : (o p : Option Bytes) → option_eq bytes_eq o p ≡ option_eq bytes_eq p o
same_place None None = refl
same_place None (Some y) = refl
same_place (Some x) None = refl
same_place (Some x) (Some y) = bytes_eq_sym x y

pub same_pair : (p q : IdPair) → is_same_pair p q ≡ is_same_pair q p
same_pair p q = ap (λ b. b && option_eq bytes_eq p.1 q.1) (same_place p.0 q.0) ∙ ap (λ b. option_eq bytes_eq q.0 p.0 && b) (same_place p.1 q.1)

-- an id is no `-`
pub no_dash : (most : ℕ) (field : Bytes) → is_id most field ≡ true → is_dash field ≡ false
no_dash most field h = not-true (is_dash field) (and_parts (nat_lt 0 (length field) && nat_le (length field) most && list_all is_id_byte field) (not (is_dash field)) h).1

-- a field of a pair is an id, or else a `-`
pub place_ids : (rules : Rules) (p : Bytes × Bytes) → is_pair rules p ≡ true
    → (is_id rules.limits.id_bytes p.0 ≡ not (is_dash p.0)) × (is_id rules.limits.id_bytes p.1 ≡ not (is_dash p.1))
place_ids rules p h =
    by (is_id rules.limits.id_bytes p.0) (is_id rules.limits.id_bytes p.1) rules.half_pairs (is_dash p.0) (is_dash p.1)
    (no_dash rules.limits.id_bytes p.0) (no_dash rules.limits.id_bytes p.1) h
  where
    by : (i j w d e : Bool) → (i ≡ true → d ≡ false) → (j ≡ true → e ≡ false) → ((i && j) || (w && ((i && e) || (d && j)))) ≡ true → (i ≡ not d) × (j ≡ not e)
    by true true w d e f g k = (ap not (sym (f refl)), ap not (sym (g refl)))
    by true false w d true f g k = (ap not (sym (f refl)), refl)
    by true false true true false f g k = let x : true ≡ false = f refl in cc
    by true false true false false f g k = cc
    by true false false d false f g k = cc
    by false true w true e f g k = (refl, ap not (sym (g refl)))
    by false true true false true f g k = let x : true ≡ false = g refl in cc
    by false true true false false f g k = cc
    by false true false false e f g k = cc
    by false false true true true f g k = cc
    by false false true true false f g k = cc
    by false false true false e f g k = cc
    by false false false d e f g k = cc
