-- Where a couple comes in an order, which agent an applicant has then, and which couples are on a list.
use Rattle.std.proofs.Common.{◌≡◌, ◌≢◌, ℕ, suc, ◌+◌, ◌-◌, ◌<◌, ◌≤◌, Bool, true, false, ◌||◌, ◌==◌, List, [], ◌∷◌, ◌++◌, map, replicate, take, length, get_or, set, drop, Option, Some, None, inl, inr, refl, ap, sym, ◌∙◌, arith, subst, eqb-true, eq-eqb, ne_eqb, if◌then◌else◌}
use Rattle.std.proofs.lemmas.Bool.{cases_Bool, cases_eq, or_right, both_ways}
use Rattle.std.proofs.lemmas.List.{drop_all, drop_more, get_or_default, get_or-replicate, get_or-set_same, get_or-set_other, length-replicate, length-set, same_lists, take_more}
use Rattle.mt_terms.specs.Lists.{has, below}
use Rattle.mt_terms.specs.Market.{Market, Partners, agent_of}
use Rattle.mt_terms.specs.WellFormed.{IsWellFormed}
use Rattle.mt_terms.specs.declared.numbers.Agent.{Agent}
use Rattle.mt_terms.specs.declared.numbers.Agent.TheVariants.{Single, Couple}
use Rattle.mt_terms.proofs.BelowFacts.{length-map_below, map_below_at}
use Rattle.mt_terms.proofs.ListFacts.{has_push, take_whole}
use Rattle.mt_order_laws.specs.Reordered.{reordered, IsOrderOfSome}
use Rattle.mt_order_laws.proofs.FormedFacts.{couple_within, no_single, single_in_order, couple_in_order}
use Rattle.mt_reordered.specs.Copied.{place_from, agent_by_place, renumbered, renumbered_agent}

-- a couple's place is one at which the order has it
pub place_is : (order : List ℕ) (k c j : ℕ) → place_from order k c ≡ Some j → (i : ℕ) × (i < length order) × (get_or order i 0 ≡ c) × (k + i ≡ j)
place_is [] k c j e = absurd (let none : ◌≡◌ {A = Option ℕ} None (Some j) = e in cc)
place_is (x ∷ xs) k c j e = elim (cases_Bool (x == c)) [
  | inl here ↦
      let some : ◌≡◌ {A = Option ℕ} (Some k) (Some j) = rw here at e in
      let is : k ≡ j = cc in
      (0, omega arith, eqb-true x c here, omega arith)
  | inr other ↦
      let w = place_is xs (k + 1) c j (rw other at e) in
      let sum : k + suc w.0 ≡ j = omega (arith, w.3) in
      (suc w.0, omega (arith, w.1), w.2, sum)
]

-- a couple without a place isn't in the order
pub no_place : (order : List ℕ) (k c : ℕ) → place_from order k c ≡ None → has order c ≡ false
no_place [] k c e = refl
no_place (x ∷ xs) k c e = elim (cases_Bool (x == c)) [
  | inl here ↦ absurd (let some : ◌≡◌ {A = Option ℕ} (Some k) None = rw here at e in cc)
  | inr other ↦ rw other (no_place xs (k + 1) c (rw other at e))
]

-- the couples' places by what is left of an order, with one place more
pub places_step : (order : List ℕ) (i n d e : ℕ) (before after : List (Option ℕ)) → i < length order → get_or order i d < n
    → before ≡ map (place_from (drop (i + 1) order) (i + 1)) (below n)
    → after ≡ set before (get_or order i e) (Some i)
    → after ≡ map (place_from (drop i order) i) (below n)
places_step order i n d e before after l small was is =
    let x = get_or order i d in
    let same : get_or order i e ≡ x = get_or_default order i e d l in
    let next : drop i order ≡ x ∷ drop (i + 1) order = drop_more order i d l in
    let old = place_from (drop (i + 1) order) (i + 1) in
    let new = place_from (x ∷ drop (i + 1) order) i in
    let size : length (map old (below n)) ≡ n = length-map_below old n in
    let long : length (set (map old (below n)) x (Some i)) ≡ n = length-set (map old (below n)) x (Some i) ∙ size in
    let at : (c : ℕ) (f : Option ℕ) → c < n → get_or (set (map old (below n)) x (Some i)) c f ≡ new c =
    λ c f low. elim (cases_eq x c) [
      | inl here ↦
          let yes : (x == c) ≡ true = eq-eqb x c here in
          let room : x < length (map old (below n)) = omega arith in
          rw yes (ap (λ j. get_or (set (map old (below n)) x (Some i)) j f) (sym here) ∙ get_or-set_same (map old (below n)) x (Some i) f room)
      | inr other ↦
          let no : (x == c) ≡ false = ne_eqb x c other in
          let apart : c ≢ x = λ e. other (sym e) in
          rw no (get_or-set_other (map old (below n)) x c (Some i) f apart ∙ map_below_at old n c f low)
    ] in
    is ∙ ap (λ j. set before j (Some i)) same ∙ ap (λ xs. set xs x (Some i)) was
    ∙ same_lists (set (map old (below n)) x (Some i)) (map new (below n)) (long ∙ sym (length-map_below new n))
    (λ c f low. let here : c < n = omega (arith, long) in at c f here ∙ sym (map_below_at new n c f here))
    ∙ ap (λ xs. map (place_from xs i) (below n)) (sym next)

-- a copy of no place is none
pub none_from : (C : Option ℕ → Type 0) → ((x : ℕ) → C (Some x) → ⊥) → (y : Option ℕ) → C y → y ≡ None
none_from C differs None e = refl
none_from C differs (Some x) e = absurd (differs x e)

-- no place is noted at first
pub places_first : (order : List ℕ) (n : ℕ) (items : List (Option ℕ)) → items ≡ replicate n None
    → items ≡ map (place_from (drop (length order) order) (length order)) (below n)
places_first order n items is =
    let none : drop (length order) order ≡ [] = drop_all (length order) order (omega arith) in
    let empty = place_from [] (length order) in
    is
    ∙ same_lists (replicate n None) (map empty (below n)) (length-replicate n None ∙ sym (length-map_below empty n))
    (λ k d l.
    let low : k < n = omega (arith, length-replicate {A = Option ℕ} n None) in
    get_or-replicate n k None d low ∙ sym (map_below_at empty n k d low))
    ∙ ap (λ xs. map (place_from xs (length order)) (below n)) (sym none)

-- one place more, in a loop that goes down and writes through a slice of all
pub places_down : (order : List ℕ) (place n x : ℕ) (items before after : List (Option ℕ)) (len : ℕ) → 0 < place → place ≤ length order → x < n
    → x ≡ get_or order (place - 1) x → items ≡ map (place_from (drop place order) place) (below n) → before ≡ items
    → after ≡ set before x (Some (place - 1)) → len ≡ length items
    → take len (after ++ drop (length after) items) ≡ map (place_from (drop (place - 1) order) (place - 1)) (below n)
places_down order place n x items before after len some within small at was same is size =
    let i : place - 1 < length order = omega arith in
    let back : place ≡ place - 1 + 1 = omega arith in
    let f = λ (k : ℕ). map (place_from (drop k order) k) (below n) in
    let long : length after ≡ length items = ap length is ∙ length-set before x (Some (place - 1)) ∙ ap length same in
    take_whole after items len long size
    ∙ places_step order (place - 1) n x x before after i (subst (λ j. j < n) at small) (same ∙ was ∙ ap f back)
    (is ∙ ap (λ j. set before j (Some (place - 1))) at)

-- no couple is on an empty list
pub flags_first : (n : ℕ) (items : List Bool) → items ≡ replicate n false → items ≡ map (has []) (below n)
flags_first n items is =
    is ∙ same_lists (replicate n false) (map (has []) (below n)) (length-replicate n false ∙ sym (length-map_below (has []) n))
    (λ k d l.
    let low : k < n = omega (arith, length-replicate n false) in
    get_or-replicate n k false d low ∙ sym (map_below_at (has []) n k d low))

or_none : (b : Bool) → (b || false) ≡ b
or_none true = refl
or_none false = refl

flag_set : (xs : List ℕ) (x n : ℕ) → set (map (has xs) (below n)) x true ≡ map (has (xs ++ x ∷ [])) (below n)
flag_set xs x n =
    let old = has xs in
    let new = has (xs ++ x ∷ []) in
    let size : length (map old (below n)) ≡ n = length-map_below old n in
    let long : length (set (map old (below n)) x true) ≡ n = length-set (map old (below n)) x true ∙ size in
    same_lists (set (map old (below n)) x true) (map new (below n)) (long ∙ sym (length-map_below new n))
    (λ c d low.
    let here : c < n = omega (arith, long) in
    elim (cases_eq x c) [
      | inl same ↦
          let room : x < length (map old (below n)) = omega arith in
          let yes : new c ≡ true = has_push xs x c ∙ or_right (has xs c) (x == c) (eq-eqb x c same) in
          ap (λ j. get_or (set (map old (below n)) x true) j d) (sym same) ∙ get_or-set_same (map old (below n)) x true d room
          ∙ sym yes ∙ sym (map_below_at new n c d here)
      | inr other ↦
          let apart : c ≢ x = λ e. other (sym e) in
          let no : (x == c) ≡ false = ne_eqb x c other in
          let stays : new c ≡ old c = has_push xs x c ∙ ap (λ (b : Bool). has xs c || b) no ∙ or_none (has xs c) in
          get_or-set_other (map old (below n)) x c true d apart ∙ map_below_at old n c d here ∙ sym stays ∙ sym (map_below_at new n c d here)
    ])

pub flags_more : (list : List ℕ) (i n x : ℕ) (items before after : List Bool) (len : ℕ) → i < length list → x ≡ get_or list i x
    → items ≡ map (has (take i list)) (below n) → before ≡ items → after ≡ set before x true → len ≡ length items
    → take len (after ++ drop (length after) items) ≡ map (has (take (i + 1) list)) (below n)
flags_more list i n x items before after len l at was same is size =
    let long : length after ≡ length items = ap length is ∙ length-set before x true ∙ ap length same in
    take_whole after items len long size ∙ is ∙ ap (λ xs. set xs x true) (same ∙ was) ∙ flag_set (take i list) x n
    ∙ ap (λ xs. map (has xs) (below n)) (ap (λ y. take i list ++ y ∷ []) at ∙ sym (take_more list i x l))

-- a flag says whether the couple is on the list
pub flag_is : (list : List ℕ) (n k : ℕ) (items : List Bool) (b : Bool) → items ≡ map (has list) (below n) → k < n → b ≡ get_or items k b → b ≡ has list k
flag_is list n k items b is l at = at ∙ ap (λ xs. get_or xs k b) is ∙ map_below_at (has list) n k b l

-- a couple that is set aside has no pairs
pub pairs_if : (b : Bool) (x : Partners) → (if b then [] else x.pairs) ≡ (if b then record x { pairs = [] } else x).pairs
pairs_if true x = refl
pairs_if false x = refl

-- The agent by the places is the one that the market in this order gives.
pub renumbered_is : (m : Market) → IsWellFormed m → (order : List ℕ) → IsOrderOfSome m order → (a : ℕ)
    → renumbered_agent m order a ≡ agent_of (reordered order m) a
renumbered_is m wf order o a = by_kind (agent_of m a) refl
  where
    by_place : (c : ℕ) → agent_of m a ≡ Couple c → (place : Option ℕ) → place_from order 0 c ≡ place → agent_by_place a place ≡ agent_of (reordered order m) a
    by_place c e (Some k) at =
        let w = place_is order 0 c k at in
        let is : w.0 ≡ k = omega (arith, w.3) in
        let there : agent_of m a ≡ Couple (get_or order w.0 0) = e ∙ ap Couple (sym w.2) in
        sym (couple_in_order m wf order o a w.0 w.1 there ∙ ap Couple is)
    by_place c e None at =
        sym (single_in_order m wf order o a (λ d on there.
        let both : Couple c ≡ Couple d = sym e ∙ there in
        let same : c ≡ d = cc in
        both_ways (has order d) (subst (λ j. has order j ≡ false) same (no_place order 0 c at)) on))

    by_kind : (g : Agent) → agent_of m a ≡ g → renumbered (map (place_from order 0) (below (length m.couples))) a g ≡ agent_of (reordered order m) a
    by_kind (Single b) e = sym (single_in_order m wf order o a (λ c on there. no_single b c (sym e ∙ there)))
    by_kind (Couple c) e =
        let l : c < length m.couples = (let w = couple_within m.couples 0 a c e in omega (arith, w.1)) in
        ap (agent_by_place a) (map_below_at (place_from order 0) (length m.couples) c None l)
        ∙ by_place c e (place_from order 0 c) refl
