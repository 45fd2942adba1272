-- A single's live entries stand in the order of its list.
use Rattle.std.proofs.Common.{◌≡◌, ℕ, zero, suc, ◌+◌, ◌<◌, Bool, inl, inr, eq-eqb, List, [], ◌∷◌, length, drop, get_or, map, filter, IsTrue, IsFalse, refl, sym, ap, subst, ◌∙◌, Option, Some, None, false, true, eqb, arith}
use Rattle.std.specs.List.{All, position, slice_get}
use Rattle.std.specs.Option.{is_some}
use Rattle.std.proofs.lemmas.List.{drop_more, get_or_read}
use Rattle.std.proofs.lemmas.Bool.{both_ways, cases_eq, false_from_ne_true, ne_eqb}
use Rattle.mt_terms.specs.Lists.{has}
use Rattle.mt_terms.specs.Market.{Market, program_of, list_of}
use Rattle.mt_terms.specs.Matching.{at}
use Rattle.mt_terms.proofs.LiveFacts.{list_of-live_market}
use Rattle.mt_ranks.specs.Ranked.{Ranked, IsEntry, ranked_entry, ranked_list, ranked_of, ranking_of, rank_of}
use Rattle.mt_ranks.specs.declared.entries.Live.{Live}
use Rattle.mt_ranks.proofs.Positions.{has-position}
use Rattle.std.proofs.lemmas.Option.{slice_get_cases}
use Rattle.mt_verify.specs.Blocking.{rank_if}

-- Below, a list goes on from a place with an element.
front_element : {X : Type 0} (xs : List X) (n : ℕ) (x : X) (rest : List X) → drop n xs ≡ x ∷ rest → (n < length xs) × ((d : X) → get_or xs n d ≡ x) × (drop (n + 1) xs ≡ rest)
front_element [] zero x rest h = absurd (omega (arith, ap length h))
front_element [] (suc n) x rest h = absurd (omega (arith, ap length h))
front_element (y ∷ ys) zero x rest h = (omega arith, λ d. ap (λ l. get_or l 0 d) h, ap (drop 1) h)
front_element (y ∷ ys) (suc n) x rest h =
    let deeper = front_element ys n x rest h in
    let further : suc n + 1 ≡ suc (n + 1) = omega arith in
    (omega (arith, deeper.0), deeper.1, rw further deeper.2)

-- Below, the programs of an applicant's list from k on that list it too have their entries from a number on.
module _ (m : Market) (a : ℕ) where
  abbrev pub AreLeft : List Live → ℕ → ℕ → Type 0
  AreLeft entries next k = drop next entries ≡ map (ranked_entry m a) (filter (λ p. has (program_of m p).ranking a) (drop k (list_of m a)))

  pub all_left : (r : Ranked) (entries : List Live) → r ≡ ranked_of m → entries ≡ ranked_list r.market a → AreLeft entries 0 0
  all_left r entries is are = are ∙ ap (λ (x : Ranked). ranked_list x.market a) is ∙ ap (map (ranked_entry m a)) (list_of-live_market m a)

  module _ (entries : List Live) (next k p : ℕ) (left : AreLeft entries next k) (within : k < length (list_of m a)) (read : p ≡ get_or (list_of m a) k 0) where
    rest_of_list : drop k (list_of m a) ≡ p ∷ drop (k + 1) (list_of m a)
    rest_of_list = drop_more (list_of m a) k 0 within ∙ ap (λ q. q ∷ drop (k + 1) (list_of m a)) (sym read)

    here : drop next entries ≡ map (ranked_entry m a) (filter (λ q. has (program_of m q).ranking a) (p ∷ drop (k + 1) (list_of m a)))
    here = left ∙ ap (λ ps. map (ranked_entry m a) (filter (λ q. has (program_of m q).ranking a) ps)) rest_of_list

    own_entry : IsTrue (has (program_of m p).ranking a) → drop next entries ≡ ranked_entry m a p ∷ map (ranked_entry m a) (filter (λ q. has (program_of m q).ranking a) (drop (k + 1) (list_of m a)))
    own_entry listed = rw listed at here

    -- a program that lists it has the next entry, and one that doesn't has none
    pub entry_within : IsTrue (has (program_of m p).ranking a) → next < length entries
    entry_within listed = (front_element entries next _ _ (own_entry listed)).0

    pub entry_program : IsTrue (has (program_of m p).ranking a) → (d : Live) → (get_or entries next d).program ≡ p
    entry_program listed d = ap (λ (x : Live). x.program) ((front_element entries next _ _ (own_entry listed)).1 d)

    pub left_listed : IsTrue (has (program_of m p).ranking a) → AreLeft entries (next + 1) (k + 1)
    left_listed listed = (front_element entries next _ _ (own_entry listed)).2

    pub left_unlisted : IsFalse (has (program_of m p).ranking a) → AreLeft entries next (k + 1)
    left_unlisted other = rw other at here

-- Below, the entry at a number was read, and is of a program p.
module _ (m : Market) (a p next : ℕ) (r : Ranked) (entries : List Live) (before entry : Live) (is : r ≡ ranked_of m) (are : All (IsEntry r.market a) entries)
    (within : next < length entries) (read : entry ≡ get_or entries next entry) (tested : (get_or entries next before).program ≡ p) where
  same_program : entry.program ≡ p
  same_program = ap (λ (x : Live). x.program) (get_or_read entries next entry within read before) ∙ tested

  is_entry : IsEntry r.market a entry
  is_entry = subst (IsEntry r.market a) (sym read) (are next entry within)

  pub entry_rank : rank_of m p a ≡ Some entry.rank
  entry_rank = ap (λ q. position (λ x. eqb x a) (ranking_of m q)) (sym same_program) ∙ ap (λ (x : Ranked). rank_of x.market entry.program a) (sym is) ∙ is_entry.rank.found

none_from : (o : Option ℕ) → is_some o ≡ false → o ≡ None
none_from None h = refl
none_from (Some x) h = absurd (both_ways true h refl)

-- a program that doesn't list it has no rank for it
no_rank : (m : Market) (p a : ℕ) → (IsTrue (has (program_of m p).ranking a) → ⊥) → None ≡ rank_of m p a
no_rank m p a off = sym (none_from (rank_of m p a) (sym (has-position (program_of m p).ranking a) ∙ false_from_ne_true _ off))

-- an entry that tells a rank is there
pub rank_within : (entries : List Live) (n p rank : ℕ) → rank_if (slice_get entries n) p ≡ Some rank → n < length entries
rank_within entries n p rank told = elim (slice_get_cases entries n).1 [
  | inl w ↦ w.1
  | inr past ↦ (let none : None ≡ Some rank = rw past.1 at told in absurd (cc))
]

-- Below, the next live entry is compared with the program at a place of the list. It is of that program if the program
-- lists the applicant, and so it tells the rank there.
module _ (m : Market) (a : ℕ) (r : Ranked) (entries : List Live) (is : r ≡ ranked_of m) (are : All (IsEntry r.market a) entries)
    (next k p : ℕ) (left : AreLeft m a entries next k) (within : k < length (list_of m a)) (read : p ≡ get_or (list_of m a) k 0) where
  pub rank_of_next : rank_if (slice_get entries next) p ≡ rank_of m p a
  rank_of_next = elim (slice_get_cases entries next).1 [
    | inl w ↦ rw w.2 (elim (cases_eq w.0.program p) [
      | inl same ↦ rw (eq-eqb w.0.program p same) (sym (entry_rank m a p next r entries w.0 w.0 is are w.1 (sym w.3) (ap (λ (x : Live). x.program) w.3 ∙ same)))
      | inr other ↦ rw (ne_eqb w.0.program p other)
          (no_rank m p a (λ on. other (ap (λ (x : Live). x.program) (sym w.3) ∙ entry_program m a entries next k p left within read on w.0)))
    ])
    | inr past ↦ rw past.1 (no_rank m p a (λ on. absurd (omega (arith, past.0, entry_within m a entries next k p left within read on))))
  ]

  -- the entries that are left, once the program's rank was given
  pub left_after_rank : (rank : ℕ) → rank_of m p a ≡ Some rank → AreLeft m a entries (next + 1) (k + 1)
  left_after_rank rank here = left_listed m a entries next k p left within read (has-position (program_of m p).ranking a ∙ ap is_some here)

  pub left_after_none : rank_of m p a ≡ None → AreLeft m a entries next (k + 1)
  left_after_none none = left_unlisted m a entries next k p left within read (has-position (program_of m p).ranking a ∙ ap is_some none)
