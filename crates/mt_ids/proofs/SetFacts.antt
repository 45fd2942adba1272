-- Sets of ids, as their words find them: what one id more changes.
use Rattle.std.proofs.Common.{◌≡◌, not, ℕ, suc, ◌+◌, ◌<◌, ◌≤◌, Bool, true, false, ◌||◌, List, [], ◌∷◌, ◌++◌, length, position, Option, Some, None, is_some, refl, sym, ap, ap₂, subst, ◌∙◌, arith, map, Bor, cond, if◌then◌else◌, nat_eq}
use Rattle.std.specs.Prelude.{bytes_eq}
use Rattle.std.specs.List.{list_any, position_from}
use Rattle.std.proofs.lemmas.Bool.{false_from_ne_true, or_parts}
use Rattle.std.proofs.lemmas.Iterator.Adapters.{position_from-zero}
use Rattle.std.proofs.lemmas.List.{length-append, length-map, map-append}
use Rattle.std.proofs.lemmas.List.Folds.{list_any-append}
use Rattle.mt_terms.specs.Registration.Ids.{Bytes, has_id}
use Rattle.mt_terms.proofs.IdFacts.{same_id, bytes_eq_sym}
use Rattle.mt_ids.specs.Words.{AreBytes, IsWordOf, word_of, place_word, id_in, ids_in, pair_of, pair_eq}
use Rattle.mt_ids.specs.Sets.{FindsIds, with_id}
use Rattle.mt_ids.proofs.IdFacts.{missing}
use Rattle.mt_ids.proofs.WordFacts.{word_tells, pair_tells, no_word, no_place, other_place, id_in-word, id_in-last, id_in-still}

-- the answer of a search, if one element more stands at the end
abbrev or_end : Option ℕ → Bool → ℕ → Option ℕ
or_end (Some i) b n = Some i
or_end None b n = cond b (Some n) None

or_end-false : (o : Option ℕ) (n : ℕ) → or_end o false n ≡ o
or_end-false (Some i) n = refl
or_end-false None n = refl

position_from-end : {X : Type 0} (p : X → Bool) (xs : List X) (x : X) (i : ℕ) → position_from p i (xs ++ x ∷ []) ≡ or_end (position_from p i xs) (p x) (i + length xs)
position_from-end p [] x i = ap (λ n. cond (p x) (Some n) None) (omega arith)
position_from-end p (y ∷ ys) x i = by (p y) (position_from-end p ys x (i + 1) ∙ ap (or_end (position_from p (i + 1) ys) (p x)) (omega arith))
  where
    by : (b : Bool) → position_from p (i + 1) (ys ++ x ∷ []) ≡ or_end (position_from p (i + 1) ys) (p x) (i + suc (length ys))
        → cond b (Some i) (position_from p (i + 1) (ys ++ x ∷ [])) ≡ or_end (cond b (Some i) (position_from p (i + 1) ys)) (p x) (i + suc (length ys))
    by true e = refl
    by false e = e

position-end : {X : Type 0} (p : X → Bool) (xs : List X) (x : X) → position p (xs ++ x ∷ []) ≡ or_end (position p xs) (p x) (length xs)
position-end p xs x =
    position_from-zero p (xs ++ x ∷ []) ∙ position_from-end p xs x 0
    ∙ ap (λ o. or_end o (p x) (0 + length xs)) (sym (position_from-zero p xs)) ∙ ap (or_end (position p xs) (p x)) (omega arith)

some_from : {X : Type 0} (p : X → Bool) (xs : List X) (i : ℕ) → is_some (position_from p i xs) ≡ list_any p xs
some_from p [] i = refl
some_from p (y ∷ ys) i = by (p y) (some_from p ys (i + 1))
  where
    by : (b : Bool) → is_some (position_from p (i + 1) ys) ≡ list_any p ys → is_some (cond b (Some i) (position_from p (i + 1) ys)) ≡ (b || list_any p ys)
    by true e = refl
    by false e = e

-- if a search finds something, something passes
pub is_some-position : {X : Type 0} (p : X → Bool) (xs : List X) → is_some (position p xs) ≡ list_any p xs
is_some-position p xs = ap is_some (position_from-zero p xs) ∙ some_from p xs 0

-- ids that are held, and with one more
abbrev pub ids_of : List (Bor Bytes) → List Bytes
ids_of held = map (λ (id : Bor Bytes). id.now) held

pub ids_with : (held held' held'' : List (Bor Bytes)) (id : Bor Bytes) → held' ≡ held → held'' ≡ held' ++ id ∷ [] → ids_of held'' ≡ ids_of held ++ id.now ∷ []
ids_with held held' held'' id same is = ap ids_of (is ∙ ap (λ h. h ++ id ∷ []) same) ∙ map-append (λ (id : Bor Bytes). id.now) held (id ∷ [])

-- what is inserted as new stands at the end
pub at_the_end : (words : List ℕ) (word : ℕ) (words' : List ℕ) → list_any (nat_eq word) words ≡ false
    → words' ≡ (if list_any (nat_eq word) words then words else words ++ word ∷ []) → words' ≡ words ++ word ∷ []
at_the_end words word words' h is = is ∙ rw h refl

pub with_new : (ids : List Bytes) (id : Bytes) → has_id ids id ≡ false → ids ++ id ∷ [] ≡ with_id ids id
with_new ids id h = rw h refl

pub with_old : (ids : List Bytes) (id : Bytes) → has_id ids id ≡ true → ids ≡ with_id ids id
with_old ids id h = rw h refl

-- searches that answer alike, with one element more
alike_at_end : {X Y : Type 0} (p : X → Bool) (q : Y → Bool) (xs : List X) (ys : List Y) (x : X) (y : Y)
    → length xs ≡ length ys → position p xs ≡ position q ys → p x ≡ q y → position p (xs ++ x ∷ []) ≡ position q (ys ++ y ∷ [])
alike_at_end p q xs ys x y l e h = rw (position-end p xs x, position-end q ys y, e, h, l) refl

unlike_at_end : {Y : Type 0} (q : Y → Bool) (ys : List Y) (y : Y) → q y ≡ false → position q ys ≡ position q (ys ++ y ∷ [])
unlike_at_end q ys y h = rw (position-end q ys y, h) (sym (or_end-false (position q ys) (length ys)))

-- ids of other lengths differ
longer_differs : (x y : Bytes) (n : ℕ) → length x ≤ n → n < length y → bytes_eq x y ≡ false
longer_differs x y n h k = false_from_ne_true _ (λ t. let e = ap length (same_id x y t) in omega (arith, e))

shorter_differs : (x y : Bytes) (n : ℕ) → length y ≤ n → n < length x → bytes_eq x y ≡ false
shorter_differs x y n h k = false_from_ne_true _ (λ t. let e = ap length (same_id x y t) in omega (arith, e))

-- a longer id at the end changes no id of words that have no place past the others
still : (longer : List Bytes) (x : Bytes) (words : List ℕ) → ((place : ℕ) → length longer ≤ place → list_any (nat_eq (place_word place)) words ≡ false)
    → ids_in (longer ++ x ∷ []) words ≡ ids_in longer words
still longer x [] unused = refl
still longer x (w ∷ ws) unused =
    let parts = λ (place : ℕ) (k : length longer ≤ place). or_parts (nat_eq (place_word place) w) (list_any (nat_eq (place_word place)) ws) (unused place k) in
    ap₂ (λ (y : Bytes) (ys : List Bytes). y ∷ ys) (id_in-still longer x w (λ place k. (parts place k).0)) (still longer x ws (λ place k. (parts place k).1))

module _ (longer : List Bytes) (words : List ℕ) (by_pair : ℕ × ℕ → Option ℕ) (by_bytes : Bytes → Option ℕ)
    (finds : FindsIds (ids_in longer words) longer words by_pair by_bytes) (x : Bytes) where
  abbrev ids : List Bytes
  ids = ids_in longer words

  as_many : length words ≡ length ids
  as_many = sym (length-map words (id_in longer))

  -- a short id is one of these if its word is
  known : AreBytes x → length x ≤ 7 → list_any (nat_eq (word_of x)) words ≡ has_id ids x
  known bx m = sym (is_some-position (nat_eq (word_of x)) words) ∙ ap is_some (finds.short x bx m) ∙ is_some-position (bytes_eq x) ids

  pub new_word : (word : ℕ) (is_new : Bool) → IsWordOf x word → length x ≤ 7 → is_new ≡ not (list_any (nat_eq word) words) → is_new ≡ not (has_id ids x)
  new_word word is_new is m said = said ∙ ap (λ w. not (list_any (nat_eq w) words)) is.0 ∙ ap not (known is.1 m)

  -- a place is inserted after the words
  pub with_place : (words' words'' : List ℕ) (word place : ℕ) → words' ≡ words → word ≡ place_word place → place ≡ length longer
      → words'' ≡ (if list_any (nat_eq word) words' then words' else words' ++ word ∷ []) → words'' ≡ words ++ place_word (length longer) ∷ []
  with_place words' words'' word place same is at inserted =
      let none : list_any (nat_eq (place_word (length longer))) words ≡ false = finds.unused (length longer) (omega arith) in
      let whole : word ≡ place_word (length longer) = is ∙ ap place_word at in
      at_the_end words (place_word (length longer)) words'' none (inserted ∙ rw (same, whole) refl)

  -- the ids of the words with one more
  one_short : AreBytes x → length x ≤ 7 → ids_in longer (words ++ word_of x ∷ []) ≡ ids ++ x ∷ []
  one_short bx h = map-append (id_in longer) words (word_of x ∷ []) ∙ ap (λ (y : Bytes). ids ++ y ∷ []) (id_in-word longer x bx h)

  pub one_longer : ids_in (longer ++ x ∷ []) (words ++ place_word (length longer) ∷ []) ≡ ids ++ x ∷ []
  one_longer =
      map-append (id_in (longer ++ x ∷ [])) words (place_word (length longer) ∷ [])
      ∙ ap₂ (λ (ys : List Bytes) (y : Bytes). ys ++ y ∷ []) (still longer x words finds.unused) (id_in-last longer x)

  none_later : (longer' : List Bytes) (word : ℕ) → length longer ≤ length longer' → ((place : ℕ) → length longer' ≤ place → nat_eq (place_word place) word ≡ false)
      → (place : ℕ) → length longer' ≤ place → list_any (nat_eq (place_word place)) (words ++ word ∷ []) ≡ false
  none_later longer' word more differs place k =
      list_any-append (nat_eq (place_word place)) words (word ∷ []) ∙ rw (finds.unused place (omega arith), differs place k) refl

  -- a short id is added by its word
  with_short : AreBytes x → length x ≤ 7 → FindsIds (ids_in longer (words ++ word_of x ∷ [])) longer (words ++ word_of x ∷ []) by_pair by_bytes
  with_short bx h = subst (λ ids. FindsIds ids longer (words ++ word_of x ∷ []) by_pair by_bytes) (sym (one_short bx h)) (record {
    unused = none_later longer (word_of x) (omega arith) (λ place k. no_word place x bx h);
    short = λ id b m. alike_at_end (nat_eq (word_of id)) (bytes_eq id) words ids (word_of x) x as_many (finds.short id b m) (word_tells id x b bx m);
    middle = λ id b m m'. finds.middle id b m m' ∙ unlike_at_end (bytes_eq id) ids x (shorter_differs id x 7 h m);
    long = λ id m. finds.long id m ∙ unlike_at_end (bytes_eq id) ids x (shorter_differs id x 7 h (omega arith));
  })

  -- what its word's insertion leaves
  pub with_word : (word : ℕ) (keys : List ℕ) → IsWordOf x word → length x ≤ 7 → keys ≡ (if list_any (nat_eq word) words then words else words ++ word ∷ [])
      → FindsIds (ids_in longer keys) longer keys by_pair by_bytes × (ids_in longer keys ≡ with_id ids x)
  with_word word keys is m said = by (has_id ids x) (said ∙ rw (is.0, known is.1 m) refl)
    where
      by : (b : Bool) → keys ≡ (if b then words else words ++ word_of x ∷ [])
          → FindsIds (ids_in longer keys) longer keys by_pair by_bytes × (ids_in longer keys ≡ (if b then ids else ids ++ x ∷ []))
      by true e = (subst (λ ks. FindsIds (ids_in longer ks) longer ks by_pair by_bytes) (sym e) finds, ap (ids_in longer) e)
      by false e = (subst (λ ks. FindsIds (ids_in longer ks) longer ks by_pair by_bytes) (sym e) (with_short is.1 m), ap (ids_in longer) e ∙ one_short is.1 m)

  -- the map of a longer id has it at the next place
  updated : (o o' : Option ℕ) (b : Bool) (id : Bytes) → has_id ids x ≡ false → b ≡ bytes_eq id x → o' ≡ cond b (Some (length words)) o → o ≡ position (bytes_eq id) ids
      → o' ≡ position (bytes_eq id) (ids ++ x ∷ [])
  updated o o' b id new same is was = is ∙ by (bytes_eq id x) refl ∙ sym (position-end (bytes_eq id) ids x)
    where
      by : (c : Bool) → bytes_eq id x ≡ c → cond b (Some (length words)) o ≡ or_end (position (bytes_eq id) ids) (bytes_eq id x) (length ids)
      by true e = rw (same, e, as_many, ap (λ id. position (bytes_eq id) ids) (same_id id x e) ∙ missing ids x new) refl
      by false e = rw (same, e, was) (sym (or_end-false (position (bytes_eq id) ids) (length ids)))

  found_still : 7 < length x → (id : Bytes) → AreBytes id → length id ≤ 7 → position (nat_eq (word_of id)) (words ++ place_word (length longer) ∷ []) ≡ position (bytes_eq id) (ids ++ x ∷ [])
  found_still h id b m =
      alike_at_end (nat_eq (word_of id)) (bytes_eq id) words ids (place_word (length longer)) x as_many (finds.short id b m)
      (no_place (length longer) id b m ∙ sym (longer_differs id x 7 m h))

  places_later : (place : ℕ) → length (longer ++ x ∷ []) ≤ place → list_any (nat_eq (place_word place)) (words ++ place_word (length longer) ∷ []) ≡ false
  places_later =
      let more = length-append longer (x ∷ []) in
      none_later (longer ++ x ∷ []) (place_word (length longer)) (omega (arith, more)) (λ place k. other_place place (length longer) (omega (arith, more)))

  -- an id of eight to fifteen bytes is added by its pair and its place
  pub with_middle : AreBytes x → 7 < length x → length x ≤ 15 → has_id ids x ≡ false → (by_pair' : ℕ × ℕ → Option ℕ) (by_bytes' : Bytes → Option ℕ)
      → ((pair : ℕ × ℕ) → by_pair' pair ≡ cond (pair_eq (pair_of x) pair) (Some (length words)) (by_pair pair)) → ((id : Bytes) → by_bytes' id ≡ by_bytes id)
      → FindsIds (ids_in (longer ++ x ∷ []) (words ++ place_word (length longer) ∷ [])) (longer ++ x ∷ []) (words ++ place_word (length longer) ∷ []) by_pair' by_bytes'
  with_middle bx h k new by_pair' by_bytes' is same = subst (λ ids. FindsIds ids (longer ++ x ∷ []) (words ++ place_word (length longer) ∷ []) by_pair' by_bytes') (sym one_longer) (record {
    unused = places_later;
    short = found_still h;
    middle = λ id b m m'. updated (by_pair (pair_of id)) (by_pair' (pair_of id)) (pair_eq (pair_of x) (pair_of id)) id new (pair_tells x id bx b h k ∙ bytes_eq_sym x id) (is (pair_of id)) (finds.middle id b m m');
    long = λ id m. same id ∙ finds.long id m ∙ unlike_at_end (bytes_eq id) ids x (shorter_differs id x 15 k m);
  })

  -- a longer one is added by its bytes and its place
  pub with_long : 15 < length x → has_id ids x ≡ false → (by_pair' : ℕ × ℕ → Option ℕ) (by_bytes' : Bytes → Option ℕ)
      → ((pair : ℕ × ℕ) → by_pair' pair ≡ by_pair pair) → ((id : Bytes) → by_bytes' id ≡ cond (bytes_eq x id) (Some (length words)) (by_bytes id))
      → FindsIds (ids_in (longer ++ x ∷ []) (words ++ place_word (length longer) ∷ [])) (longer ++ x ∷ []) (words ++ place_word (length longer) ∷ []) by_pair' by_bytes'
  with_long h new by_pair' by_bytes' same is = subst (λ ids. FindsIds ids (longer ++ x ∷ []) (words ++ place_word (length longer) ∷ []) by_pair' by_bytes') (sym one_longer) (record {
    unused = places_later;
    short = found_still (omega arith);
    middle = λ id b m m'. same (pair_of id) ∙ finds.middle id b m m' ∙ unlike_at_end (bytes_eq id) ids x (longer_differs id x 15 m' h);
    long = λ id m. updated (by_bytes id) (by_bytes' id) (bytes_eq x id) id new (bytes_eq_sym x id) (is id) (finds.long id m);
  })
