-- Fields with their numbers, and the parts that they are cut into.
-- A prefix of the numbered fields is what an iterator with a count has left. Drops and pairs are by cases of the list.
use Rattle.std.proofs.Common.{◌≡◌, ℕ, zero, suc, ◌+◌, ◌*◌, ◌/◌, ◌%◌, ◌≤◌, false, ◌||◌, ◌&&◌, nat_lt, codes, List, [], ◌∷◌, length, take, drop, min, Option, Some, None, refl, ap, sym, ◌∙◌, arith, nat_eq}
use Rattle.std.specs.Prelude.{MatchOption, bytes_eq, option_map, flat_map}
use Rattle.std.proofs.lemmas.List.{length-take-le, take_all}
use Rattle.std.proofs.Math.Seq.{take-nil}
use Rattle.mt_terms.specs.Registration.Ids.{Bytes}
use Rattle.mt_terms.specs.Registration.Records.{Kind, OfCouple, Rules, kind_of}
use Rattle.mt_terms.specs.Lists.{by_twos, head}
use Rattle.mt_fault_terms.specs.Faults.{FieldFault, Placed, placed_from}
use Rattle.mt_fault_terms.specs.Parts.{Form, Parts, PlacedPair, Registers, couple_parts, is_odd, miscounted, parts_by_kind, parts_of}
use Rattle.mt_faults.specs.declared.placed.Field.{Field}
use Rattle.mt_faults.specs.Names.{members_of}
use Rattle.mt_faults.specs.Seen.{field_seen}

pub length-placed_from : (n : ℕ) (xs : List Bytes) → length (placed_from n xs) ≡ length xs
length-placed_from n [] = refl
length-placed_from n (x ∷ xs) = ap suc (length-placed_from (n + 1) xs)

-- all fields
pub all_placed : (n k : ℕ) (xs : List Bytes) → k ≡ length xs → take k (placed_from n xs) ≡ placed_from n xs
all_placed n k xs h = take_all k (placed_from n xs) (omega (arith, h, length-placed_from n xs))

-- how many are left
pub count_placed : (n k : ℕ) (xs : List Bytes) → k ≤ length xs → length (take k (placed_from n xs)) ≡ k
count_placed n k xs h = length-take-le k (placed_from n xs) (omega (arith, h, length-placed_from n xs))

-- fewer of them
pub take-taken : {X : Type 0} (j k : ℕ) (xs : List X) → take (min j k) xs ≡ take j (take k xs)
take-taken zero k xs = let e : min zero k ≡ 0 = omega arith in ap (λ n. take n xs) e
take-taken (suc j) zero xs = let e : min (suc j) zero ≡ 0 = omega arith in ap (λ n. take n xs) e ∙ sym (take-nil (suc j))
take-taken (suc j) (suc k) [] = take-nil (min (suc j) (suc k))
take-taken (suc j) (suc k) (x ∷ xs) =
    let e : min (suc j) (suc k) ≡ suc (min j k) = omega arith in
    rw e (ap (λ l. x ∷ l) (take-taken j k xs))

-- no field is left
pub none_placed : (k n : ℕ) (xs : List Bytes) → xs ≡ [] → take k (placed_from n xs) ≡ []
none_placed k n xs e = rw e (take-nil k)

-- the next field, and those after it
pub head_is : (r : Option Field) (old new : List Placed) → MatchOption r ((old ≡ []) × (new ≡ [])) (λ x. old ≡ field_seen x ∷ new) → option_map field_seen r ≡ head old
head_is None old new h = sym (ap head h.0)
head_is (Some x) old new h = sym (ap head h)

pub tail_is : (r : Option Field) (old new : List Placed) → MatchOption r ((old ≡ []) × (new ≡ [])) (λ x. old ≡ field_seen x ∷ new) → new ≡ drop 1 old
tail_is None old new h = h.1 ∙ sym (ap (drop 1) h.0)
tail_is (Some x) old new h = sym (ap (drop 1) h)

pub drop_three : {X : Type 0} (xs : List X) → drop 1 (drop 1 (drop 1 xs)) ≡ drop 3 xs
drop_three [] = refl
drop_three (x ∷ []) = refl
drop_three (x ∷ y ∷ xs) = refl

-- fields two by two
pub odd_is : (xs : List Placed) → nat_eq (length xs % 2) 1 ≡ is_odd xs
odd_is [] = refl
odd_is (x ∷ []) = refl
odd_is (x ∷ y ∷ xs) = let e : length (x ∷ y ∷ xs) % 2 ≡ length xs % 2 = omega arith in ap (λ n. nat_eq n 1) e ∙ odd_is xs

-- how many fields pairs have
pub length-pairs : (xs : List Placed) → 2 * length (by_twos xs) ≡ length xs / 2 * 2
length-pairs [] = refl
length-pairs (x ∷ []) = refl
length-pairs (x ∷ y ∷ xs) = omega (arith, length-pairs xs)

abbrev pub both_of : PlacedPair → List Placed
both_of pair = pair.0 ∷ pair.1 ∷ []

-- the fields of pairs are all, or all but the last
pub fields_of_pairs : (xs : List Placed) → take (length xs / 2 * 2) xs ≡ flat_map both_of (by_twos xs)
fields_of_pairs [] = refl
fields_of_pairs (x ∷ []) = refl
fields_of_pairs (x ∷ y ∷ xs) =
    let e : length (x ∷ y ∷ xs) / 2 * 2 ≡ suc (suc (length xs / 2 * 2)) = omega arith in
    rw e (ap (λ l. x ∷ y ∷ l) (fields_of_pairs xs))

-- parts, one by one
abbrev pub the_parts : Form → List FieldFault → List Placed → Option Placed → List Placed → List PlacedPair → Parts
the_parts form faults names quota list pairs = record { form = form; faults = faults; names = names; quota = quota; list = list; pairs = pairs }

-- the parts of a couple's record
pub couple_is : (fields : List Placed) (faults : List FieldFault) (names list pairs : List Placed) → faults ≡ miscounted (nat_lt (length fields) 3 || is_odd (drop 3 fields)) → names ≡ take 3 fields → list ≡ [] → pairs ≡ drop 3 fields
    → the_parts (Registers OfCouple) faults names None list (by_twos pairs) ≡ couple_parts fields
couple_is fields faults names list pairs f n l p = rw (f, n, l, p) refl

-- the parts of a record that is no withdrawal
pub parts_by : (rules : Rules) (fields : List Bytes) (word : Field) (rest : List Placed) (kind : Option Kind) (p : Parts) → Some (field_seen word) ≡ head (placed_from 1 fields) → rest ≡ drop 1 (placed_from 1 fields)
    → (rules.withdrawals && bytes_eq word.bytes.now (codes "withdraw")) ≡ false → kind ≡ kind_of word.bytes.now → p ≡ parts_by_kind kind rest → p ≡ parts_of rules fields
parts_by rules [] word rest kind p h r w k is = cc
parts_by rules (first ∷ fields) word rest kind p h r w k is =
    let e : field_seen word ≡ (1, first) = option_of _ _ h in
    let b : word.bytes.now ≡ first = ap (λ (x : Placed). x.1) e in
    let w' : (rules.withdrawals && bytes_eq first (codes "withdraw")) ≡ false = ap (λ x. rules.withdrawals && bytes_eq x (codes "withdraw")) (sym b) ∙ w in
    is ∙ rw (k, b, r, w') refl
  where
    option_of : (x y : Placed) → Some x ≡ Some y → x ≡ y
    option_of x y e = cc

-- the members of a couple
pub members_couple : (p : Parts) → p.form ≡ Registers OfCouple → drop 1 p.names ≡ members_of p
members_couple p form = rw form refl
