-- Looking for a program among entries in the order of their programs.
use Rattle.std.proofs.Common.{◌≡◌, ℕ, zero, suc, ◌+◌, ◌<◌, ◌≤◌, List, [], ◌∷◌, ◌++◌, Some, None, length, take, get_or, refl, sym, ap, ◌∙◌, inl, inr, arith, Less, Equal, Greater}
use Rattle.std.specs.Ordering.{nat_cmp, ordering_index}
use Rattle.std.specs.List.{HoldsAt}
use Rattle.std.proofs.lemmas.List.Elements.{filter_map-append}
use Rattle.std.proofs.lemmas.List.{take_more, append-nil}
use Rattle.std.specs.List.Sorted.{IsNonDecreasingBy, IsPartitionPoint}
use Rattle.std.proofs.lemmas.Bool.{eq-eqb, ne_eqb, cases_lt}
use Rattle.std.proofs.lemmas.Bool.Decides.{nat_tests}
use Rattle.mt_ranks.specs.Entries.{AscendFrom, rank_among, entry_among, entries_among}
use Rattle.mt_flat.specs.FlatLists.{with_last}
use Rattle.mt_flat.proofs.FlatListsFacts.{with_last-append}
use Rattle.mt_ranks.specs.declared.entries.Live.{Live}

equal_means : (a b : ℕ) → nat_cmp a b ≡ Equal → a ≡ b
equal_means a b h = grind (arith, nat_tests)

less_means : (a b : ℕ) → nat_cmp a b ≡ Less → a < b
less_means a b h = grind (arith, nat_tests)

greater_means : (a b : ℕ) → nat_cmp a b ≡ Greater → b < a
greater_means a b h = grind (arith, nat_tests)

cmp_rises : (a b p : ℕ) → a ≤ b → ordering_index (nat_cmp a p) ≤ ordering_index (nat_cmp b p)
cmp_rises a b p h = grind (arith, nat_tests)

-- Below, the entries' programs go up from a number on.
all_from : (from : ℕ) (xs : List Live) (i : ℕ) (d : Live) → AscendFrom from xs → i < length xs → from ≤ (get_or xs i d).program
all_from from [] i d h w = absurd (omega arith)
all_from from (x ∷ xs) zero d h w = h.0
all_from from (x ∷ xs) (suc i) d h w = omega (arith, h.0, all_from (x.program + 1) xs i d h.1 (omega arith))

programs_rise : (from : ℕ) (xs : List Live) (i j : ℕ) (d : Live) → AscendFrom from xs → i ≤ j → j < length xs → (get_or xs i d).program ≤ (get_or xs j d).program
programs_rise from [] i j d h le w = absurd (omega arith)
programs_rise from (x ∷ xs) zero zero d h le w = omega arith
programs_rise from (x ∷ xs) zero (suc j) d h le w = omega (arith, all_from (x.program + 1) xs j d h.1 (omega arith))
programs_rise from (x ∷ xs) (suc i) zero d h le w = absurd (omega arith)
programs_rise from (x ∷ xs) (suc i) (suc j) d h le w = programs_rise (x.program + 1) xs i j d h.1 (omega arith) (omega arith)

pub found : (from : ℕ) (xs : List Live) (p i : ℕ) (d : Live) → AscendFrom from xs → i < length xs → (get_or xs i d).program ≡ p → Some (get_or xs i d).rank ≡ rank_among xs p
found from [] p i d h w e = absurd (omega arith)
found from (x ∷ xs) p zero d h w e = rw (eq-eqb x.program p e) refl
found from (x ∷ xs) p (suc i) d h w e = rw (ne_eqb x.program p (omega (arith, all_from (x.program + 1) xs i d h.1 (omega arith)))) (found (x.program + 1) xs p i d h.1 (omega arith) e)

pub absent : (xs : List Live) (p : ℕ) → ((k : ℕ) (d : Live) → k < length xs → (get_or xs k d).program ≡ p → ⊥) → None ≡ rank_among xs p
absent [] p h = refl
absent (x ∷ xs) p h = rw (ne_eqb x.program p (h 0 x (omega arith))) (absent xs p (λ k d w. h (suc k) d (omega arith)))

pub found_by_search : (xs : List Live) (p i : ℕ) (x : Live) → AscendFrom 0 xs → i < length xs → HoldsAt (λ (y : Live). nat_cmp y.program p ≡ Equal) xs i → Some (get_or xs i x).rank ≡ rank_among xs p
found_by_search xs p i x h w at = found 0 xs p i x h w (equal_means _ p (at x))

pub absent_by_search : (xs : List Live) (p i : ℕ) → AscendFrom 0 xs
    → (IsNonDecreasingBy (λ (y : Live). ordering_index (nat_cmp y.program p)) xs → IsPartitionPoint (λ (y : Live). nat_cmp y.program p ≡ Less) (λ (y : Live). nat_cmp y.program p ≡ Greater) xs i)
    → None ≡ rank_among xs p
absent_by_search xs p i h split =
    let parts : IsPartitionPoint (λ (y : Live). nat_cmp y.program p ≡ Less) (λ (y : Live). nat_cmp y.program p ≡ Greater) xs i =
    split (λ j k d le w. cmp_rises (get_or xs j d).program (get_or xs k d).program p (programs_rise 0 xs j k d h le w)) in
    absent xs p (λ k d w e. elim (cases_lt k i) as (λ o. ⊥) [
      | inl below ↦ absurd (omega (arith, less_means _ p (parts.0 k d (omega arith) below)))
      | inr above ↦ absurd (omega (arith, greater_means _ p (parts.1 k d above w)))
    ])

-- Below, a list's entries are looked up one after another.
-- the lists so far: those that were there, and one with the entries of the first i programs of a list
abbrev pub AreLive : List (List Live) → List (List Live) → List Live → List ℕ → ℕ → Type 0
AreLive lists start es ps i = lists ≡ start ++ entries_among es (take i ps) ∷ []

pub live_more_some : (lists start : List (List Live)) (es : List Live) (ps : List ℕ) (i p r : ℕ) → AreLive lists start es ps i → i < length ps → p ≡ get_or ps i p → Some r ≡ rank_among es p
    → AreLive (with_last lists (record { program = p; rank = r })) start es ps (i + 1)
live_more_some lists start es ps i p r inv h at is =
    let entry : entry_among es p ≡ Some (record { program = p; rank = r }) = rw (← is) refl in
    let more : take (i + 1) ps ≡ take i ps ++ p ∷ [] = take_more ps i p h ∙ ap (λ q. take i ps ++ q ∷ []) (sym at) in
    rw (inv, more, filter_map-append (entry_among es) (take i ps) (p ∷ []), entry) (with_last-append start (entries_among es (take i ps)) (record { program = p; rank = r }))

pub live_more_none : (lists start : List (List Live)) (es : List Live) (ps : List ℕ) (i p : ℕ) → AreLive lists start es ps i → i < length ps → p ≡ get_or ps i p → None ≡ rank_among es p
    → AreLive lists start es ps (i + 1)
live_more_none lists start es ps i p inv h at is =
    let entry : entry_among es p ≡ None = rw (← is) refl in
    let more : take (i + 1) ps ≡ take i ps ++ p ∷ [] = take_more ps i p h ∙ ap (λ q. take i ps ++ q ∷ []) (sym at) in
    rw (more, filter_map-append (entry_among es) (take i ps) (p ∷ []), entry) (rw append-nil inv)
