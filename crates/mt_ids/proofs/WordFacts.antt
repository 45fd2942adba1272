-- The words of ids: what they are made of, that they tell ids apart, and which id a word has.
use Rattle.std.proofs.Common.{◌≡◌, ℕ, zero, suc, ◌+◌, ◌-◌, ◌*◌, ◌/◌, ◌%◌, ◌^◌, ◌<◌, ◌≤◌, true, false, true≢false, List, [], ◌∷◌, ◌++◌, length, take, drop, nat_lt, refl, get_or, arith, ⊎_elim, subst, subst₂, sym, ap, ap₂, ◌∙◌, bit_or, mod-eq_of_lt, le-leb, ext_get_or, nat_eq}
use Rattle.std.specs.Int.Bits.{or_shifted_r}
use Rattle.std.specs.Prelude.{bytes_eq}
use Rattle.std.proofs.lemmas.Bool.{cases_lt, eq-eqb, eqb-true, lt-ltb, and_parts, false_from_ne_true}
use Rattle.std.proofs.lemmas.Bool.Decides.{nat_tests, same_from_decides}
use Rattle.std.proofs.lemmas.Slice.Eq.{bytes_eq-Decides}
use Rattle.mt_terms.specs.Registration.Ids.{Bytes}
use Rattle.std.proofs.lemmas.List.{get_or_append_left, get_or_push}
use Rattle.mt_ids.specs.Words.{AreBytes, four_from, seven_from, bytes_of, word_of, place_word, bytes_in, id_in, pair_of, pair_eq}

-- a number shifted by 32 bits, above one of this number of bits
pub above_32 : (a b : ℕ) → a < 2 ^ 32 → b < 2 ^ 32 → bit_or a (b * 2 ^ 32 % 2 ^ 64) ≡ a + b * 2 ^ 32
above_32 a b h k =
    let fits : b * 2 ^ 32 < 2 ^ 64 = omega arith in
    let above : bit_or a (b * 2 ^ 32) ≡ b * 2 ^ 32 + a = or_shifted_r b 32 a h in
    ap (bit_or a) (mod-eq_of_lt fits) ∙ above ∙ omega arith

-- a length, above a number of 56 bits
pub above_56 : (a b : ℕ) → a < 2 ^ 56 → b ≤ 15 → bit_or a (b * 2 ^ 56 % 2 ^ 64) ≡ a + b * 2 ^ 56
above_56 a b h k =
    let fits : b * 2 ^ 56 < 2 ^ 64 = omega arith in
    let above : bit_or a (b * 2 ^ 56) ≡ b * 2 ^ 56 + a = or_shifted_r b 56 a h in
    ap (bit_or a) (mod-eq_of_lt fits) ∙ above ∙ omega arith

-- three bytes, one above another
pub above_8 : (a b c : ℕ) → a < 256 → b < 256 → c < 256 → bit_or (bit_or a (b * 256 % 2 ^ 64)) (c * 65536 % 2 ^ 64) ≡ a + b * 256 + c * 65536
above_8 a b c h k l =
    let two : bit_or a (b * 256) ≡ a + b * 256 = or_shifted_r b 8 a h ∙ omega arith in
    let fits : b * 256 < 2 ^ 64 = omega arith in
    let fits' : c * 65536 < 2 ^ 64 = omega arith in
    let bound : a + b * 256 < 2 ^ 16 = omega arith in
    let three : bit_or (a + b * 256) (c * 65536) ≡ c * 65536 + (a + b * 256) = or_shifted_r c 16 (a + b * 256) bound in
    rw (mod-eq_of_lt fits, mod-eq_of_lt fits', two) (three ∙ omega arith)

-- the bytes of a short id as a number, by its length
pub bytes_of_four : (id : Bytes) → 4 ≤ length id → bytes_of id ≡ seven_from id 0
unfolding bytes_of
bytes_of_four id h = rw (le-leb 4 (length id) h) refl

pub bytes_of_one : (id : Bytes) → length id < 4 → 0 < length id → bytes_of id ≡ get_or id 0 0 + get_or id (length id / 2) 0 * 256 + get_or id (length id - 1) 0 * 65536
unfolding bytes_of
bytes_of_one id h k = grind (arith, nat_tests)

pub bytes_of_none : (id : Bytes) → length id ≤ 0 → bytes_of id ≡ 0
unfolding bytes_of
bytes_of_none id h = grind (arith, nat_tests)

-- bytes, which numbers that they make tell apart
four_bytes : (a b c d p q r s : ℕ) → a < 256 → b < 256 → c < 256 → p < 256 → q < 256 → r < 256
    → a + b * 256 + c * 65536 + d * 16777216 ≡ p + q * 256 + r * 65536 + s * 16777216 → (a ≡ p) × (b ≡ q) × (c ≡ r) × (d ≡ s)
four_bytes a b c d p q r s ha hb hc hp hq hr e = (omega arith, omega arith, omega arith, omega arith)

two_words : (a b x y : ℕ) → a < 2 ^ 32 → b < 2 ^ 32 → a + x * 2 ^ 32 ≡ b + y * 2 ^ 32 → (a ≡ b) × (x ≡ y)
two_words a b x y h k e = (omega arith, omega arith)

upper_three : (a b c d : ℕ) → a < 256 → (a + b * 256 + c * 65536 + d * 16777216) / 256 ≡ b + c * 256 + d * 65536
upper_three a b c d h = omega arith

with_length : (a b m n : ℕ) → a < 2 ^ 56 → b < 2 ^ 56 → a + m * 2 ^ 56 ≡ b + n * 2 ^ 56 → (a ≡ b) × (m ≡ n)
with_length a b m n h k e = (omega arith, omega arith)

-- what holds at four places one after another
at_four : (P : ℕ → Type 0) (at i : ℕ) → P at → P (at + 1) → P (at + 2) → P (at + 3) → at ≤ i → i < at + 4 → P i
at_four P at i p q r s h k = by (i - at) (omega arith) (omega arith)
  where
    by : (d : ℕ) → i ≡ at + d → d < 4 → P i
    by zero e l = subst P (let e : at ≡ i = omega arith in e) p
    by (suc zero) e l = subst P (sym e) q
    by (suc (suc zero)) e l = subst P (sym e) r
    by (suc (suc (suc zero))) e l = subst P (sym e) s
    by (suc (suc (suc (suc d)))) e l = absurd (omega arith)

four_below : (id : Bytes) → AreBytes id → (at : ℕ) → four_from id at < 2 ^ 32
unfolding four_from
four_below id b at = omega (arith, b at, b (at + 1), b (at + 2), b (at + 3))

seven_below : (id : Bytes) → AreBytes id → (at : ℕ) → seven_from id at < 2 ^ 56
seven_below id b at = omega (arith, four_below id b at, four_below id b (length id - 4))

bytes_below : (id : Bytes) → AreBytes id → bytes_of id < 2 ^ 56
bytes_below id b = ⊎_elim (λ few. ⊎_elim (λ none. rw (bytes_of_none id (omega arith)) (omega arith))
    (λ one. rw (bytes_of_one id few one) (omega (arith, b 0, b (length id / 2), b (length id - 1)))) (cases_lt (length id) 1))
    (λ many. rw (bytes_of_four id many) (seven_below id b 0)) (cases_lt (length id) 4)

module _ (xs ys : Bytes) (bx : AreBytes xs) (by : AreBytes ys) where
  abbrev Same : ℕ → Type 0
  Same i = get_or xs i 0 ≡ get_or ys i 0

  same_four : (at : ℕ) → four_from xs at ≡ four_from ys at → (i : ℕ) → at ≤ i → i < at + 4 → Same i
  unfolding four_from
  same_four at e i h k =
      let same = four_bytes _ _ _ _ _ _ _ _ (bx at) (bx (at + 1)) (bx (at + 2)) (by at) (by (at + 1)) (by (at + 2)) e in
      at_four Same at i same.0 same.1 same.2 same.3 h k

  same_upper : (at : ℕ) → four_from xs at / 256 ≡ four_from ys at / 256 → Same at → (i : ℕ) → at ≤ i → i < at + 4 → Same i
  unfolding four_from
  same_upper at e first i h k =
      let upper = sym (upper_three _ _ _ _ (bx at)) ∙ e ∙ upper_three _ _ _ _ (by at) in
      let same = four_bytes _ _ _ 0 _ _ _ 0 (bx (at + 1)) (bx (at + 2)) (bx (at + 3)) (by (at + 1)) (by (at + 2)) (by (at + 3)) (omega (arith, upper)) in
      at_four Same at i first same.0 same.1 same.2 h k

  -- the last three bytes go on where the four end, or before
  same_seven : (at : ℕ) → length xs ≡ length ys → at + 4 ≤ length xs → length xs ≤ at + 7 → seven_from xs at ≡ seven_from ys at → (i : ℕ) → at ≤ i → i < length xs → Same i
  same_seven at l h k e i low high =
      let last = length xs - 4 in
      let e' : seven_from xs at ≡ four_from ys at + four_from ys last / 256 * 2 ^ 32 = e ∙ ap (λ n. four_from ys at + four_from ys (n - 4) / 256 * 2 ^ 32) (sym l) in
      let words = two_words _ _ _ _ (four_below xs bx at) (four_below ys by at) e' in
      let first = same_four at words.0 in
      ⊎_elim (λ below. first i low below)
      (λ above. same_upper last words.1 (first last (omega arith) (omega arith)) i (omega arith) (omega arith)) (cases_lt i (at + 4))

  same_few : length xs ≡ length ys → length xs < 4 → bytes_of xs ≡ bytes_of ys → (i : ℕ) → i < length xs → Same i
  same_few l m e i k =
      let number = sym (bytes_of_one xs m (omega arith)) ∙ e ∙ bytes_of_one ys (omega arith) (omega arith) in
      let same = four_bytes _ _ _ 0 _ _ _ 0 (bx 0) (bx (length xs / 2)) (bx (length xs - 1)) (by 0) (by (length ys / 2)) (by (length ys - 1)) (omega (arith, number)) in
      at_place i k same.0 same.1 same.2
    where
      at : ℕ → ℕ → Type 0
      at i j = get_or xs i 0 ≡ get_or ys j 0

      moved : (i j n : ℕ) → i ≡ n → j ≡ n → at i j → at n n
      moved i j n p q = subst₂ at p q

      at_place : (i : ℕ) → i < length xs → at 0 0 → at (length xs / 2) (length ys / 2) → at (length xs - 1) (length ys - 1) → at i i
      at_place zero k first middle last = first
      at_place (suc zero) k first middle last = moved _ _ 1 (omega arith) (omega arith) middle
      at_place (suc (suc zero)) k first middle last = moved _ _ 2 (omega arith) (omega arith) last
      at_place (suc (suc (suc i))) k first middle last = absurd (omega arith)

  same_by_word : length xs ≤ 7 → word_of xs ≡ word_of ys → xs ≡ ys
  same_by_word m e =
      let parts = with_length _ _ _ _ (bytes_below xs bx) (bytes_below ys by) e in
      ext_get_or 0 xs ys parts.1 (⊎_elim (λ few. same_few parts.1 few parts.0)
      (λ many i. same_seven 0 parts.1 many m (sym (bytes_of_four xs many) ∙ parts.0 ∙ bytes_of_four ys (subst (λ n. 4 ≤ n) parts.1 many)) i (omega arith))
      (cases_lt (length xs) 4))

  same_by_pair : 7 < length xs → length xs ≤ 15 → pair_of xs ≡ pair_of ys → xs ≡ ys
  same_by_pair h m e =
      let first = two_words _ _ _ _ (four_below xs bx 0) (four_below ys by 0) (ap (λ p. p.0) e) in
      let parts = with_length _ _ _ _ (seven_below xs bx (length xs - 7)) (seven_below ys by (length ys - 7)) (ap (λ p. p.1) e) in
      let last = parts.0 ∙ ap (λ n. seven_from ys (n - 7)) (sym parts.1) in
      ext_get_or 0 xs ys parts.1 (λ i k. ⊎_elim (λ low. ⊎_elim (same_four 0 first.0 i (omega arith)) (λ more. same_four 4 first.1 i more low) (cases_lt i 4))
      (λ high. same_seven (length xs - 7) parts.1 (omega arith) (omega arith) last i (omega arith) k) (cases_lt i 8))

  -- words of short ids are the same if the ids are, and so are pairs
  pub word_tells : length xs ≤ 7 → nat_eq (word_of xs) (word_of ys) ≡ bytes_eq xs ys
  word_tells m = same_from_decides (nat_eq (word_of xs) (word_of ys)) (bytes_eq xs ys)
      (λ t. same_by_word m (eqb-true _ _ t), λ e. eq-eqb _ _ (ap word_of e)) (bytes_eq-Decides xs ys)

  pub pair_tells : 7 < length xs → length xs ≤ 15 → pair_eq (pair_of xs) (pair_of ys) ≡ bytes_eq xs ys
  pair_tells h m = same_from_decides (pair_eq (pair_of xs) (pair_of ys)) (bytes_eq xs ys) (differ, alike) (bytes_eq-Decides xs ys)
    where
      differ : pair_eq (pair_of xs) (pair_of ys) ≡ true → xs ≡ ys
      differ t =
          let parts = and_parts (nat_eq (pair_of xs).0 (pair_of ys).0) (nat_eq (pair_of xs).1 (pair_of ys).1) t in
          same_by_pair h m (ap₂ (λ (a b : ℕ). (a, b)) (eqb-true _ _ parts.0) (eqb-true _ _ parts.1))

      alike : xs ≡ ys → pair_eq (pair_of xs) (pair_of ys) ≡ true
      alike e = rw (eq-eqb (pair_of xs).0 (pair_of ys).0 (ap (λ id. (pair_of id).0) e), eq-eqb (pair_of xs).1 (pair_of ys).1 (ap (λ id. (pair_of id).1) e)) refl

-- a place is no word, and no other place
pub no_word : (place : ℕ) (id : Bytes) → AreBytes id → length id ≤ 7 → nat_eq (place_word place) (word_of id) ≡ false
no_word place id b m = false_from_ne_true _ (λ t. let e = eqb-true _ _ t in omega (arith, e, bytes_below id b))

pub no_place : (place : ℕ) (id : Bytes) → AreBytes id → length id ≤ 7 → nat_eq (word_of id) (place_word place) ≡ false
no_place place id b m = false_from_ne_true _ (λ t. let e = eqb-true _ _ t in omega (arith, e, bytes_below id b))

pub other_place : (place place' : ℕ) → place' < place → nat_eq (place_word place) (place_word place') ≡ false
other_place place place' h = false_from_ne_true _ (λ t. let e = eqb-true _ _ t in omega (arith, e))

-- what a number writes, by its length and its bytes
written : (word n a b c d e f g : ℕ) → word / 2 ^ 56 ≡ n → word % 256 ≡ a → word / 2 ^ 8 % 256 ≡ b → word / 2 ^ 16 % 256 ≡ c → word / 2 ^ 24 % 256 ≡ d
    → word / 2 ^ 32 % 256 ≡ e → word / 2 ^ 40 % 256 ≡ f → word / 2 ^ 48 % 256 ≡ g → bytes_in word ≡ take n (a ∷ b ∷ c ∷ d ∷ []) ++ drop (7 - n) (e ∷ f ∷ g ∷ [])
unfolding bytes_in
written word n a b c d e f g l h i j k p q r = rw (l, h, i, j, k, p, q, r) refl

-- what seven bytes write, the last three of them read with one before them, and what three write
seven_written : (n a b c d p q r s : ℕ) → a < 256 → b < 256 → c < 256 → d < 256 → p < 256 → q < 256 → r < 256 → s < 256
    → bytes_in (a + b * 256 + c * 65536 + d * 16777216 + (p + q * 256 + r * 65536 + s * 16777216) / 256 * 2 ^ 32 + n * 2 ^ 56) ≡ take n (a ∷ b ∷ c ∷ d ∷ []) ++ drop (7 - n) (q ∷ r ∷ s ∷ [])
seven_written n a b c d p q r s ha hb hc hd hp hq hr hs =
    written _ n a b c d q r s (omega arith) (omega arith) (omega arith) (omega arith) (omega arith) (omega arith) (omega arith) (omega arith)

three_written : (n a b c : ℕ) → a < 256 → b < 256 → c < 256 → bytes_in (a + b * 256 + c * 65536 + n * 2 ^ 56) ≡ take n (a ∷ b ∷ c ∷ 0 ∷ []) ++ drop (7 - n) (0 ∷ 0 ∷ 0 ∷ [])
three_written n a b c ha hb hc = written _ n a b c 0 0 0 0 (omega arith) (omega arith) (omega arith) (omega arith) (omega arith) (omega arith) (omega arith) (omega arith)

-- the word of a short id writes it
word_writes : (id : Bytes) → AreBytes id → length id ≤ 7 → bytes_in (word_of id) ≡ id
unfolding bytes_of four_from
word_writes [] h m = written 0 0 0 0 0 0 0 0 0 refl refl refl refl refl refl refl refl
word_writes (a ∷ []) h m = three_written 1 a a a (h 0) (h 0) (h 0)
word_writes (a ∷ b ∷ []) h m = three_written 2 a b b (h 0) (h 1) (h 1)
word_writes (a ∷ b ∷ c ∷ []) h m = three_written 3 a b c (h 0) (h 1) (h 2)
word_writes (a ∷ b ∷ c ∷ d ∷ []) h m = seven_written 4 a b c d a b c d (h 0) (h 1) (h 2) (h 3) (h 0) (h 1) (h 2) (h 3)
word_writes (a ∷ b ∷ c ∷ d ∷ e ∷ []) h m = seven_written 5 a b c d b c d e (h 0) (h 1) (h 2) (h 3) (h 1) (h 2) (h 3) (h 4)
word_writes (a ∷ b ∷ c ∷ d ∷ e ∷ f ∷ []) h m = seven_written 6 a b c d c d e f (h 0) (h 1) (h 2) (h 3) (h 2) (h 3) (h 4) (h 5)
word_writes (a ∷ b ∷ c ∷ d ∷ e ∷ f ∷ g ∷ []) h m = seven_written 7 a b c d d e f g (h 0) (h 1) (h 2) (h 3) (h 3) (h 4) (h 5) (h 6)
word_writes (a ∷ b ∷ c ∷ d ∷ e ∷ f ∷ g ∷ i ∷ id) h m = absurd (omega arith)

-- so it is the id of its word
pub id_in-word : (longer : List Bytes) (id : Bytes) → AreBytes id → length id ≤ 7 → id_in longer (word_of id) ≡ id
unfolding id_in
id_in-word longer id b m =
    let below : word_of id < place_word 0 = omega (arith, bytes_below id b) in
    rw (lt-ltb (word_of id) (place_word 0) below) (word_writes id b m)

-- the id of a place
id_in-place : (longer : List Bytes) (place : ℕ) → id_in longer (place_word place) ≡ get_or longer place []
unfolding id_in
id_in-place longer place =
    let past : nat_lt (place_word place) (place_word 0) ≡ false = grind (arith, nat_tests) in
    let at : place_word place - place_word 0 ≡ place = omega arith in
    rw (past, at) refl

-- The longer id at the end is that of the place after the others. Other words are ids as before.
pub id_in-last : (longer : List Bytes) (x : Bytes) → id_in (longer ++ x ∷ []) (place_word (length longer)) ≡ x
id_in-last longer x = id_in-place (longer ++ x ∷ []) (length longer) ∙ get_or_push longer x [] (length longer) refl

pub id_in-still : (longer : List Bytes) (x : Bytes) (word : ℕ) → ((place : ℕ) → length longer ≤ place → nat_eq (place_word place) word ≡ false) → id_in (longer ++ x ∷ []) word ≡ id_in longer word
unfolding id_in
id_in-still longer x word other = ⊎_elim (λ short. rw (lt-ltb word (place_word 0) short) refl)
    (λ past. ⊎_elim (λ within. rw (get_or_append_left longer (x ∷ []) [] (word - place_word 0) within) refl)
    (λ over. absurd (let same : nat_eq (place_word (word - place_word 0)) word ≡ true = eq-eqb _ _ (omega arith) in
    let none : ⊥ = true≢false (sym same ∙ other (word - place_word 0) over) in none))
    (cases_lt (word - place_word 0) (length longer))) (cases_lt word (place_word 0))
