-- Which pairs of couples' lists are indexed once more are.
use Rattle.std.proofs.Common.{◌≡◌, ◌∙◌, ℕ, zero, suc, ◌+◌, ◌-◌, ◌<◌, ◌≤◌, Bool, true, ◌==◌, List, [], ◌∷◌, drop, length, get_or, slice_range, min, replicate, refl, ap, sym, subst, inl, inr, arith}
use Rattle.std.proofs.lemmas.Bool.{cases_lt, eq-eqb, false≢true, or_cases, or_left, or_right}
use Rattle.std.proofs.lemmas.List.{get_or-drop, get_or-take, get_or_default, length-drop, length-replicate, length-take}
use Rattle.std.specs.List.{list_any}
use Rattle.mt_terms.specs.Market.{Market, Pair}
use Rattle.mt_terms.specs.Matching.{is_program}
use Rattle.mt_stage_tables.specs.Named.{names, indexed_count, nothing_indexed, row_at, AreNamed, Index, Indexes, IndexesPairs}
use Rattle.mt_stage_tables.specs.Indexing.{greatest, has_couple}
use Rattle.mt_stage_tables.specs.declared.couple_list.NamedPairs.{NamedPairs}

-- what passes at a place is found
any_at : {X : Type 0} (test : X → Bool) (xs : List X) (i : ℕ) (x : X) → i < length xs → x ≡ get_or xs i x → test x ≡ true → list_any test xs ≡ true
any_at test [] i x within read passes = absurd (omega arith)
any_at test (y ∷ ys) zero x within read passes = or_left (test y) _ (ap test (sym read) ∙ passes)
any_at test (y ∷ ys) (suc i) x within read passes = or_right (test y) _ (any_at test ys i x (omega arith) read passes)

-- and it is found between one before it and one after it
pub any_between : {X : Type 0} (test : X → Bool) (xs : List X) (x : X) (i from end : ℕ) → from ≤ i → i < end → i < length xs → x ≡ get_or xs i x → test x ≡ true
    → list_any test (slice_range xs from end) ≡ true
any_between test xs x i from end low high within read passes =
    let ys = slice_range xs from end in
    let j = i - from in
    let back : from + j ≡ i = omega arith in
    let at : get_or ys j x ≡ get_or xs i x = get_or-take (end - from) (drop from xs) j x (omega arith) ∙ get_or-drop from xs j x ∙ ap (λ n. get_or xs n x) back in
    let inside : j < length ys = omega (arith, length-take (end - from) (drop from xs), length-drop from xs) in
    any_at test ys j x inside (read ∙ sym at) passes

-- only couples of the market are indexed
pub named_within : (m : Market) (indexed : Index) (p : ℕ) (named : List NamedPairs) (i : ℕ) (n : NamedPairs) → AreNamed m indexed → named ≡ row_at indexed.rows p → i < length named
    → n ≡ get_or named i n → n.couple < length m.couples
named_within m indexed p named i n are_named is within read =
    let on : has_couple named n.couple ≡ true = any_at (λ (x : NamedPairs). x.couple == n.couple) named i n within read (eq-eqb n.couple n.couple refl) in
    are_named.within p n.couple (subst (λ xs. has_couple xs n.couple ≡ true) is on)

-- no pairs are indexed yet, one more is, and all are
pub pairs_indexed_first : (rows : List (List NamedPairs)) (c : ℕ) (pairs : List Pair) (start : ℕ) → IndexesPairs rows rows c pairs start start
pairs_indexed_first rows c pairs start = record {
  as_many = refl;
  keeps = λ p d i on. on;
  adds = λ p i pair known low high. absurd (omega arith);
  only = λ p d on. inl on;
}

pub pairs_indexed_more : (old mid first second : List (List NamedPairs)) (c : ℕ) (pairs : List Pair) (start index from : ℕ) (x : Pair) → IndexesPairs old mid c pairs start index
    → index < length pairs → x ≡ get_or pairs index x → from ≡ min index greatest → Indexes mid first x.0 c from → Indexes first second x.1 c from → IndexesPairs old second c pairs start (index + 1)
pairs_indexed_more old mid first second c pairs start index from x so_far within read is one two = record {
  as_many = two.as_many ∙ one.as_many ∙ so_far.as_many;
  keeps = λ p d i on. two.keeps p d i (one.keeps p d i (so_far.keeps p d i on));
  adds = λ p i pair known low high at_pair named. elim (cases_lt i index) [
    | inl earlier ↦ two.keeps p c i (one.keeps p c i (so_far.adds p i pair known low earlier at_pair named))
    | inr here ↦
        let e : i ≡ index = omega arith in
        let same : pair ≡ x = at_pair ∙ ap (λ j. get_or pairs j pair) e ∙ get_or_default pairs index pair x within ∙ sym read in
        let now : names p x ≡ true = subst (λ y. names p y ≡ true) same named in
        let place : min i greatest ≡ from = ap (λ j. min j greatest) e ∙ sym is in
        elim (or_cases (is_program p x.0) (is_program p x.1) now) [
          | inl by_first ↦ two.keeps p c i (one.adds p i by_first (omega (arith, so_far.as_many)) place)
          | inr by_second ↦ two.adds p i by_second (omega (arith, one.as_many, so_far.as_many)) place
        ]
  ];
  only = λ p d on. elim (two.only p d on) [
    | inr now ↦ inr now
    | inl before ↦ elim (one.only p d before) [
      | inr now ↦ inr now
      | inl earlier ↦ so_far.only p d earlier
    ]
  ];
}

pub pairs_indexed : (old new : List (List NamedPairs)) (c : ℕ) (pairs : List Pair) (start index end : ℕ) → end ≤ index → IndexesPairs old new c pairs start index → IndexesPairs old new c pairs start end
pairs_indexed old new c pairs start index end past all = record {
  as_many = all.as_many;
  keeps = all.keeps;
  adds = λ p i pair known low high. all.adds p i pair known low (omega arith);
  only = all.only;
}

-- nothing is indexed
pub named_first : (m : Market) (n : Index) (programs couples : ℕ) → n ≡ nothing_indexed programs couples → programs ≡ length m.programs → couples ≡ length m.couples → AreNamed m n
named_first m n programs couples is of_programs of_couples = record {
  one_each = ap (λ (x : Index). length x.rows) is ∙ length-replicate programs [] ∙ of_programs;
  counts = ap (λ (x : Index). length x.counts) is ∙ length-replicate couples 0 ∙ of_couples;
  each = λ c p i pair known low. absurd (omega (arith, ap (λ (x : Index). indexed_count x c) is, same_each {X = ℕ} couples c 0));
  within = λ p c on. absurd (false≢true (ap (λ named. has_couple named c) (sym (ap (λ (x : Index). row_at x.rows p) is ∙ same_each programs p [])) ∙ on));
}
  where
    same_each : {X : Type 0} (n p : ℕ) (x : X) → get_or (replicate n x) p x ≡ x
    same_each zero p x = refl
    same_each (suc n) zero x = refl
    same_each (suc n) (suc p) x = same_each n p x
