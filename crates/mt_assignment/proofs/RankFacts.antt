-- Who has a rank, a position on a list of numbers.
use Rattle.std.proofs.Common.{◌≡◌, ◌==◌, ℕ, true, false, List, take, Option, Some, None, is_some, refl, sym, ap, ◌∙◌, zero, suc, ◌<◌, [], ◌∷◌, length, get_or, inl, inr, arith}
use Rattle.std.specs.List.{position}
use Rattle.std.proofs.lemmas.Bool.{both_ways, false≢true, false_from_ne_true, eqb-true}
use Rattle.mt_ranks.proofs.Positions.{has-position}
use Rattle.mt_terms.specs.Lists.{has, is_distinct}
use Rattle.mt_terms.proofs.ListFacts.{has-from_take, same_position}
use Rattle.std.proofs.lemmas.List.Quantifiers.{position-Some}
use Rattle.mt_round_laws.proofs.RoundsLists.{In}
use Rattle.mt_stage_tables.proofs.PlaceFacts.{has_read}

-- who has a rank is on the list
pub has_rank : (xs : List ℕ) (a r : ℕ) → position (λ x. x == a) xs ≡ Some r → has xs a ≡ true
has_rank xs a r found = has-position xs a ∙ ap is_some found

-- who has none isn't
pub has_no_rank : (xs : List ℕ) (a : ℕ) → position (λ x. x == a) xs ≡ None → has xs a ≡ false
has_no_rank xs a none = has-position xs a ∙ ap is_some none

pub front_of_none : (xs : List ℕ) (a k : ℕ) → position (λ x. x == a) xs ≡ None → has (take k xs) a ≡ false
front_of_none xs a k none = false_from_ne_true _ (λ on. both_ways (has xs a) (has_no_rank xs a none) (has-from_take xs k a on))

-- the rank of who is on a list
pub rank_there : (xs : List ℕ) (a : ℕ) → has xs a ≡ true → (r : ℕ) × (position (λ x. x == a) xs ≡ Some r)
rank_there xs a on = by (position (λ x. x == a) xs) refl (sym (has-position xs a) ∙ on)
  where
    by : (o : Option ℕ) → position (λ x. x == a) xs ≡ o → is_some o ≡ true → (r : ℕ) × (position (λ x. x == a) xs ≡ Some r)
    by None is h = absurd (false≢true h)
    by (Some r) is h = (r, is)

-- the default of a place within doesn't matter
pub any_default : (xs : List ℕ) (i d e : ℕ) → i < length xs → get_or xs i d ≡ get_or xs i e
any_default [] i d e within = absurd (omega arith)
any_default (x ∷ xs) zero d e within = refl
any_default (x ∷ xs) (suc i) d e within = any_default xs i d e (omega arith)

-- the applicant at a rank
pub at_rank : (xs : List ℕ) (a r : ℕ) → position (λ x. x == a) xs ≡ Some r → (r < length xs) × (get_or xs r 0 ≡ a)
at_rank xs a r found = let w = position-Some (λ x. x == a) xs r 0 found in (w.0, eqb-true (get_or xs r 0) a w.1)

-- on a list without repeats, the rank of the applicant at a place is that place
pub rank_at_place : (xs : List ℕ) (i a : ℕ) → is_distinct xs ≡ true → i < length xs → a ≡ get_or xs i a → position (λ x. x == a) xs ≡ Some i
rank_at_place xs i a distinct within read =
    let w = rank_there xs a (has_read xs i a within read) in
    let there = at_rank xs a w.0 w.1 in
    let same : w.0 ≡ i = same_position xs w.0 i distinct there.0 within (there.1 ∙ read ∙ any_default xs i a 0 within) in
    w.1 ∙ ap Some same

-- the place of an element
pub index_of : {X : Type 0} (x : X) (xs : List X) → In x xs → (i : ℕ) × (i < length xs) × (x ≡ get_or xs i x)
index_of x [] i = absurd i
index_of x (y ∷ ys) (inl is) = (0, omega arith, sym is)
index_of x (y ∷ ys) (inr i) = let w = index_of x ys i in (suc w.0, omega (arith, w.1), w.2)
