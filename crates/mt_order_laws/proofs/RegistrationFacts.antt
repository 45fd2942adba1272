-- A market of a file stays one with some of its couples in an order, or with some of them set aside. Its lists don't
-- become longer: a sum over couples without repeats is at most the sum over all.
use Rattle.std.proofs.Common.{◌≡◌, ℕ, zero, suc, ◌+◌, ◌*◌, ◌<◌, ◌≤◌, Bool, true, false, not, ◌==◌, nat_lt, List, [], ◌∷◌, map, length, sum_by, inl, inr, refl, ap, sym, ◌∙◌, arith, subst, get_or, eq-eqb, ne_eqb, if◌then◌else◌, IsTrue}
use Rattle.std.specs.Prelude.{bytes_eq}
use Rattle.std.specs.List.{list_any, list_all}
use Rattle.std.proofs.lemmas.Bool.{cases_eq, cases_lt, and_parts, and_from, or_left, or_right, both_ways, false_from_ne_true, not-true, not_from_false}
use Rattle.std.proofs.lemmas.Bool.Decides.{nat_tests}
use Rattle.std.proofs.lemmas.List.{get_or_past, length-map}
use Rattle.std.proofs.lemmas.List.Sums.{sum_by-cons}
use Rattle.mt_terms.specs.Lists.{has, below, is_distinct, total_below}
use Rattle.mt_terms.specs.Market.{Market, Program, Pair, Partners, Registered, couple_of}
use Rattle.mt_terms.specs.Registration.Accepted.{is_pair_below, are_same_places, AreNames, list_entries, IsRegistration}
use Rattle.mt_terms.specs.Registration.Ids.{Bytes, is_id, has_id, all_differ}
use Rattle.mt_terms.specs.Text.{name_of}
use Rattle.mt_terms.specs.declared.limits.TheConstants.{LIMITS_2}
use Rattle.mt_terms.proofs.IdFacts.{same_id, is_same, differ_parts}
use Rattle.mt_terms.proofs.Totals.{total_below-mono, total_below-same, total_below-add, total_below-front, total_below-zero}
use Rattle.mt_terms.proofs.ListFacts.{passes_at}
use Rattle.mt_round_laws.proofs.RoundsLists.{found, all_pass, of_image, in_has}
use Rattle.mt_order_laws.specs.Reordered.{reordered, unless_aside, set_aside, IsOrderOfSome}
use Rattle.mt_order_laws.specs.Laws.{RegistrationInAnyOrder, RegistrationAside}
use Rattle.mt_order_laws.proofs.FormedFacts.{no_couple, couple_at, couple_aside, couples_aside, well_formed_reordered, well_formed_set_aside}

-- a sum over a list is the sum over its places
sum_by_places : {X : Type 0} (f : X → ℕ) (xs : List X) (d : X) → sum_by f xs ≡ total_below (λ k. f (get_or xs k d)) (length xs)
sum_by_places f [] d = refl
sum_by_places f (x ∷ xs) d =
    let rest = sum_by_places f xs d in
    let front = total_below-front (λ k. f (get_or (x ∷ xs) k d)) (length xs) in
    let more = sum_by-cons f x xs in
    omega arith

-- a sum that has one term
one_term : (h : ℕ → ℕ) (x n : ℕ) → total_below (λ a. if x == a then h a else 0) n ≡ (if nat_lt x n then h x else 0)
one_term h x zero = grind (arith, nat_tests)
one_term h x (suc n) = elim (cases_eq x n) [
  | inl here ↦
      let rest = one_term h x n in
      let is : (x == n) ≡ true = eq-eqb x n here in
      let now : nat_lt x (suc n) ≡ true = grind (arith, nat_tests) in
      let not_yet : nat_lt x n ≡ false = grind (arith, nat_tests) in
      let none : total_below (λ a. if x == a then h a else 0) n ≡ 0 = rw not_yet at rest in
      let same : h n ≡ h x = ap h (sym here) in
      rw (is, now) (omega arith)
  | inr other ↦
      let rest = one_term h x n in
      let is_not : (x == n) ≡ false = ne_eqb x n other in
      let alike : nat_lt x n ≡ nat_lt x (suc n) = grind (arith, nat_tests) in
      let last : total_below (λ a. if x == a then h a else 0) n ≡ (if nat_lt x (suc n) then h x else 0) =
      rest ∙ ap (λ (b : Bool). if b then h x else 0) alike in
      let same : 0 + total_below (λ a. if x == a then h a else 0) n ≡ total_below (λ a. if x == a then h a else 0) n = omega arith in
      rw is_not (same ∙ last)
]

-- a term of a list with one number more
one_more : (h : ℕ → ℕ) (x : ℕ) (xs : List ℕ) (a : ℕ) → has xs x ≡ false
    → (if has (x ∷ xs) a then h a else 0) ≡ (if x == a then h a else 0) + (if has xs a then h a else 0)
one_more h x xs a out = elim (cases_eq x a) [
  | inl same ↦
      let is : (x == a) ≡ true = eq-eqb x a same in
      let gone : has xs a ≡ false = subst (λ z. has xs z ≡ false) same out in
      rw (is, gone) (omega arith)
  | inr other ↦ (let is_not : (x == a) ≡ false = ne_eqb x a other in rw is_not (omega arith))
]

-- a sum over numbers below n without repeats goes over the numbers below n
sum_of_some : (h : ℕ → ℕ) (xs : List ℕ) (n : ℕ) → is_distinct xs ≡ true → ((a : ℕ) → has xs a ≡ true → a < n)
    → sum_by h xs ≡ total_below (λ a. if has xs a then h a else 0) n
sum_of_some h [] n d within = sym (total_below-zero n)
sum_of_some h (x ∷ xs) n d within =
    let parts = and_parts (not (has xs x)) (is_distinct xs) d in
    let out = not-true (has xs x) parts.0 in
    let low : x < n = within x (or_left (x == x) (has xs x) (eq-eqb x x refl)) in
    let rest = sum_of_some h xs n parts.1 (λ a on. within a (or_right (x == a) (has xs a) on)) in
    let sums = total_below-same (λ a. if has (x ∷ xs) a then h a else 0) (λ a. (if x == a then h a else 0) + (if has xs a then h a else 0)) n
    (λ a l. one_more h x xs a out) in
    let two = total_below-add (λ a. if x == a then h a else 0) (λ a. if has xs a then h a else 0) n in
    let here : nat_lt x n ≡ true = grind (arith, nat_tests) in
    let one : total_below (λ a. if x == a then h a else 0) n ≡ h x = rw here at (one_term h x n) in
    let more = sum_by-cons h x xs in
    omega arith

some_at_most_all : (h : ℕ → ℕ) (xs : List ℕ) (n : ℕ) → is_distinct xs ≡ true → ((a : ℕ) → has xs a ≡ true → a < n) → sum_by h xs ≤ total_below h n
some_at_most_all h xs n d within =
    let all = sum_of_some h xs n d within in
    let le = total_below-mono (λ a. if has xs a then h a else 0) h n (λ a l. at_most (has xs a) (h a)) in
    omega arith
  where
    at_most : (b : Bool) (k : ℕ) → (if b then k else 0) ≤ k
    at_most true k = omega arith
    at_most false k = omega arith

-- so there are at most n of them
few_of_some : (xs : List ℕ) (n : ℕ) → is_distinct xs ≡ true → ((a : ℕ) → has xs a ≡ true → a < n) → length xs ≤ n
few_of_some xs n d within =
    let le = some_at_most_all (λ a. 1) xs n d within in
    let ones = all_ones n in
    let many = length_is xs in
    omega arith
  where
    all_ones : (n : ℕ) → total_below (λ a. 1) n ≡ n
    all_ones zero = refl
    all_ones (suc n) = let rest = all_ones n in omega arith

    length_is : (xs : List ℕ) → sum_by (λ a. 1) xs ≡ length xs
    length_is [] = refl
    length_is (x ∷ xs) = let rest = length_is xs in let more = sum_by-cons (λ (a : ℕ). 1) x xs in omega arith

-- a sum over an image
sum_by_image : {X Y : Type 0} (f : Y → ℕ) (g : X → Y) (xs : List X) → sum_by f (map g xs) ≡ sum_by (λ x. f (g x)) xs
sum_by_image f g [] = refl
sum_by_image f g (x ∷ xs) =
    let rest = sum_by_image f g xs in
    let left = sum_by-cons f (g x) (map g xs) in
    let right = sum_by-cons (λ z. f (g z)) x xs in
    omega arith

-- how many pairs a couple lists
abbrev pairs_listed : Partners → ℕ
pairs_listed c = length c.pairs

-- an id at a place is on the list
id_at : (ids : List Bytes) (j : ℕ) (x : Bytes) → j < length ids → get_or ids j [] ≡ x → has_id ids x ≡ true
id_at [] j x l e = absurd (omega arith)
id_at (z ∷ zs) zero x l e = or_left (bytes_eq x z) (has_id zs x) (is_same x z (sym e))
id_at (z ∷ zs) (suc j) x l e = or_right (bytes_eq x z) (has_id zs x) (id_at zs j x (omega arith) e)

-- ids that all differ are at one place each
pub one_place : (ids : List Bytes) (i j : ℕ) → all_differ bytes_eq ids ≡ true → i < length ids → j < length ids → get_or ids i [] ≡ get_or ids j [] → i ≡ j
one_place [] i j d il jl e = absurd (omega arith)
one_place (z ∷ zs) zero zero d il jl e = refl
one_place (z ∷ zs) zero (suc j) d il jl e = absurd (both_ways (has_id zs z) (differ_parts z zs d).0 (id_at zs j z (omega arith) (sym e)))
one_place (z ∷ zs) (suc i) zero d il jl e = absurd (both_ways (has_id zs z) (differ_parts z zs d).0 (id_at zs i z (omega arith) e))
one_place (z ∷ zs) (suc i) (suc j) d il jl e = ap suc (one_place zs i j (differ_parts z zs d).1 (omega arith) (omega arith) e)

-- the ids of numbers without repeats differ
ids_differ : (ids : List Bytes) (xs : List ℕ) → all_differ bytes_eq ids ≡ true → is_distinct xs ≡ true → ((a : ℕ) → has xs a ≡ true → a < length ids)
    → all_differ bytes_eq (map (name_of ids) xs) ≡ true
ids_differ ids [] d once within = refl
ids_differ ids (x ∷ xs) d once within =
    let parts = and_parts (not (has xs x)) (is_distinct xs) once in
    let low : x < length ids = within x (or_left (x == x) (has xs x) (eq-eqb x x refl)) in
    let out : list_any (bytes_eq (name_of ids x)) (map (name_of ids) xs) ≡ false =
    false_from_ne_true (list_any (bytes_eq (name_of ids x)) (map (name_of ids) xs)) (λ on.
    let w = found (bytes_eq (name_of ids x)) (map (name_of ids) xs) on in
    let y = of_image (name_of ids) w.0 xs w.1 in
    let there = in_has y.0 xs y.1 in
    let same : x ≡ y.0 = one_place ids x y.0 d low (within y.0 (or_right (x == y.0) (has xs y.0) there)) (same_id (name_of ids x) w.0 w.2 ∙ sym y.2) in
    both_ways (has xs x) (not-true (has xs x) parts.0) (subst (λ z. has xs z ≡ true) (sym same) there)) in
    and_from (not (list_any (bytes_eq (name_of ids x)) (map (name_of ids) xs))) (all_differ bytes_eq (map (name_of ids) xs))
    (not_from_false _ out) (ids_differ ids xs d parts.1 (λ a on. within a (or_right (x == a) (has xs a) on)))

-- fewer pairs make fewer list entries
few_entries_of : (m : Market) (couples : List Partners) → sum_by pairs_listed couples ≤ sum_by pairs_listed m.couples
    → list_entries m ≤ LIMITS_2.entries → list_entries (record m { couples = couples }) ≤ LIMITS_2.entries
few_entries_of m couples le few =
    adds (sum_by (λ p. length (Program.ranking p)) m.programs + sum_by length m.lists) (sum_by pairs_listed couples) (sum_by pairs_listed m.couples)
    LIMITS_2.entries le few
  where
    adds : (a s t most : ℕ) → s ≤ t → a + 2 * t ≤ most → a + 2 * s ≤ most
    adds a s t most le few = omega arith

module _ (r : Registered) (order : List ℕ) (reg : IsRegistration r) (o : IsOrderOfSome r.market order) where
  -- what holds of each couple's pairs, and of none, holds in the order
  pairs_in_order : (P : List Pair → Type 0) → P [] → ((c : ℕ) → P (couple_of r.market c).pairs) → (i : ℕ) → P (couple_of (reordered order r.market) i).pairs
  pairs_in_order P none h i = elim (cases_lt i (length order)) [
    | inl l ↦ subst (λ (x : Partners). P x.pairs) (sym (couple_at r.market order i l)) (h (get_or order i 0))
    | inr past ↦
        let far : length (map (couple_of r.market) order) ≤ i = omega (arith, length-map order (couple_of r.market)) in
        subst (λ (x : Partners). P x.pairs) (sym (get_or_past (map (couple_of r.market) order) i no_couple far)) none
  ]

  few_names : (c : ℕ) → has order c ≡ true → c < length r.names.couples
  few_names c on = let l = o.within c on in let same = reg.couple_names.one_each in omega arith

  names_in_order : AreNames (length (map (couple_of r.market) order)) (map (name_of r.names.couples) order)
  names_in_order = record {
    one_each = length-map order (name_of r.names.couples) ∙ sym (length-map order (couple_of r.market));
    are_ids = all_pass (is_id LIMITS_2.id_bytes) (map (name_of r.names.couples) order) (λ x i.
        let c = of_image (name_of r.names.couples) x order i in
        subst (λ y. is_id LIMITS_2.id_bytes y ≡ true) c.2
        (passes_at (is_id LIMITS_2.id_bytes) r.names.couples c.0 [] reg.couple_names.are_ids (few_names c.0 (in_has c.0 order c.1))));
    differ = ids_differ r.names.couples order reg.couple_names.differ o.distinct few_names;
  }

  pairs_at_most : sum_by pairs_listed (map (couple_of r.market) order) ≤ sum_by pairs_listed r.market.couples
  pairs_at_most =
      let image = sum_by_image pairs_listed (couple_of r.market) order in
      let le = some_at_most_all (λ c. pairs_listed (couple_of r.market c)) order (length r.market.couples) o.distinct o.within in
      let all = sum_by_places pairs_listed r.market.couples no_couple in
      omega arith

  few_in_order : length (map (couple_of r.market) order) ≤ LIMITS_2.couples
  few_in_order =
      let same = length-map order (couple_of r.market) in
      let le = few_of_some order (length r.market.couples) o.distinct o.within in
      let few = reg.few_couples in
      omega arith

-- with some of its couples in an order
pub registration_in_any_order_lem : RegistrationInAnyOrder
registration_in_any_order_lem r order reg o = record {
  well_formed = well_formed_reordered r.market reg.well_formed order o;
  pairs_below = pairs_in_order r order reg o (λ ps. IsTrue (list_all (is_pair_below (length r.market.programs)) ps)) refl reg.pairs_below;
  pairs_differ = pairs_in_order r order reg o (λ ps. IsTrue (all_differ are_same_places ps)) refl reg.pairs_differ;
  program_names = reg.program_names;
  applicant_names = reg.applicant_names;
  couple_names = names_in_order r order reg o;
  few_programs = reg.few_programs;
  few_applicants = reg.few_applicants;
  few_couples = few_in_order r order reg o;
  few_entries = few_entries_of r.market (map (couple_of r.market) order) (pairs_at_most r order reg o) reg.few_entries;
  quotas = reg.quotas;
}

-- a couple lists no more pairs if it is set aside
fewer_pairs : (b : Bool) (x : Partners) → pairs_listed (if b then record x { pairs = [] } else x) ≤ pairs_listed x
fewer_pairs true x = omega arith
fewer_pairs false x = omega arith

pairs_kept : (P : List Pair → Type 0) (b : Bool) (x : Partners) → P [] → P x.pairs → P (Partners.pairs (if b then record x { pairs = [] } else x))
pairs_kept P true x none h = none
pairs_kept P false x none h = h

module _ (r : Registered) (aside : List ℕ) (reg : IsRegistration r) where
  pairs_aside : (P : List Pair → Type 0) → P [] → ((c : ℕ) → P (couple_of r.market c).pairs) → (c : ℕ) → P (couple_of (set_aside aside r.market) c).pairs
  pairs_aside P none h c = elim (cases_lt c (length r.market.couples)) [
    | inl l ↦
        subst (λ (x : Partners). P x.pairs) (sym (couple_aside r.market aside c l))
        (pairs_kept P (has aside c) (couple_of r.market c) none (h c))
    | inr past ↦
        let far : length (map (unless_aside aside r.market) (below (length r.market.couples))) ≤ c = omega (arith, couples_aside r.market aside) in
        subst (λ (x : Partners). P x.pairs)
        (sym (get_or_past (map (unless_aside aside r.market) (below (length r.market.couples))) c no_couple far)) none
  ]

  pairs_aside_at_most : sum_by pairs_listed (map (unless_aside aside r.market) (below (length r.market.couples))) ≤ sum_by pairs_listed r.market.couples
  pairs_aside_at_most =
      let left = sum_by_places pairs_listed (map (unless_aside aside r.market) (below (length r.market.couples))) no_couple in
      let many = ap (total_below (λ k. pairs_listed (couple_of (set_aside aside r.market) k))) (couples_aside r.market aside) in
      let le = total_below-mono (λ k. pairs_listed (couple_of (set_aside aside r.market) k)) (λ k. pairs_listed (couple_of r.market k)) (length r.market.couples) fewer in
      let right = sum_by_places pairs_listed r.market.couples no_couple in
      omega arith
    where
      fewer : (k : ℕ) → k < length r.market.couples → pairs_listed (couple_of (set_aside aside r.market) k) ≤ pairs_listed (couple_of r.market k)
      fewer k l = subst (λ (x : Partners). pairs_listed x ≤ pairs_listed (couple_of r.market k)) (sym (couple_aside r.market aside k l)) (fewer_pairs (has aside k) (couple_of r.market k))

-- with some of its couples set aside
pub registration_aside_lem : RegistrationAside
registration_aside_lem r aside reg = record {
  well_formed = well_formed_set_aside r.market reg.well_formed aside;
  pairs_below = pairs_aside r aside reg (λ ps. IsTrue (list_all (is_pair_below (length r.market.programs)) ps)) refl reg.pairs_below;
  pairs_differ = pairs_aside r aside reg (λ ps. IsTrue (all_differ are_same_places ps)) refl reg.pairs_differ;
  program_names = reg.program_names;
  applicant_names = reg.applicant_names;
  couple_names = record {
    one_each = reg.couple_names.one_each ∙ sym (couples_aside r.market aside);
    are_ids = reg.couple_names.are_ids;
    differ = reg.couple_names.differ;
  };
  few_programs = reg.few_programs;
  few_applicants = reg.few_applicants;
  few_couples = let same = couples_aside r.market aside in let few = reg.few_couples in omega arith;
  few_entries = few_entries_of r.market (map (unless_aside aside r.market) (below (length r.market.couples))) (pairs_aside_at_most r aside reg) reg.few_entries;
  quotas = reg.quotas;
}
