-- Which entries of a single's live list stand for which ranks.
use Rattle.std.proofs.Common.{◌≡◌, ◌∙◌, ℕ, ◌<◌, Bool, true, false, not, ◌&&◌, ◌||◌, ◌==◌, List, [], ◌∷◌, ◌++◌, map, filter, drop, length, get_or, Some, unwrap_or, refl, ap, sym, subst, inl, inr}
use Rattle.std.proofs.lemmas.List.Folds.{list_any-append}
use Rattle.std.proofs.lemmas.List.Quantifiers.{position-Some}
use Rattle.std.proofs.lemmas.Bool.{and_parts, and_from, or_cases, both_ways, eq-eqb, eqb-true, false_from_ne_true}
use Rattle.mt_terms.specs.Lists.{has, until}
use Rattle.mt_terms.specs.Market.{Market, applicants, list_of, live, live_market, program_of}
use Rattle.mt_terms.specs.Matching.{at}
use Rattle.mt_terms.proofs.BelowFacts.{map_below_at}
use Rattle.std.specs.Cmp.{both_ways as same_tests}
use Rattle.mt_ranks.specs.Ranked.{rank_of, ranked_entry, ranked_list}
use Rattle.mt_ranks.specs.declared.entries.Live.{Live}
use Rattle.mt_round_laws.proofs.RoundsLists.{In, found, finds, has_in, in_has, in_image, in_kept, in_right, in_left, of_image, of_kept}
use Rattle.mt_assignment.specs.Assigned.{Assigned, IsAssigned}
use Rattle.mt_assignment.specs.Watched.{better_entries, is_entry, other_entries, ranks_at, wanted, Follows, IsWatched, KeepsOthers, Unwatches, Watches}
use Rattle.mt_assignment.proofs.LiveFacts.{entries_are}
use Rattle.mt_assignment.proofs.RankFacts.{has_rank, rank_there}

-- an entry of a list that is that of a rank at a program
pub entry_in : (es : List Live) (p r : ℕ) → is_entry es p r ≡ true → (e : Live) × In e es × (e.program ≡ p) × (e.rank ≡ r)
entry_in es p r h =
    let w = found (λ (e : Live). e.program == p && e.rank == r) es h in
    let parts = and_parts (w.0.program == p) (w.0.rank == r) w.2 in
    (w.0, w.1, eqb-true w.0.program p parts.0, eqb-true w.0.rank r parts.1)

in_entry : (es : List Live) (e : Live) → In e es → is_entry es e.program e.rank ≡ true
in_entry es e i = finds (λ (x : Live). x.program == e.program && x.rank == e.rank) e es i (and_from _ _ (eq-eqb e.program e.program refl) (eq-eqb e.rank e.rank refl))

-- the front before the first that passes, and the rest
until_rest : {X : Type 0} (test : X → Bool) (xs : List X) → until test xs ++ drop (length (until test xs)) xs ≡ xs
until_rest {X} test [] = refl
until_rest {X} test (x ∷ xs) = by_head (test x) refl (until_rest test xs)
  where
    by_head : (t : Bool) → test x ≡ t → until test xs ++ drop (length (until test xs)) xs ≡ xs → until test (x ∷ xs) ++ drop (length (until test (x ∷ xs))) (x ∷ xs) ≡ x ∷ xs
    by_head true stops later = rw stops refl
    by_head false goes later = rw goes (ap (λ ys. x ∷ ys) later)

-- who stands at a rank is one applicant
pub one_at_rank : (m : Market) (p a b r : ℕ) → rank_of m p a ≡ Some r → rank_of m p b ≡ Some r → a ≡ b
one_at_rank m p a b r of_a of_b =
    let xs = (program_of m p).ranking in
    sym (eqb-true (get_or xs r 0) a (position-Some (λ x. x == a) xs r 0 of_a).1) ∙ eqb-true (get_or xs r 0) b (position-Some (λ x. x == b) xs r 0 of_b).1

-- an agent that isn't watched anew is watched as before
pub watched_still : (s : Assigned) (old new : List (List Bool)) (xs : List ℕ) (a : ℕ) → KeepsOthers s.market old new xs → has xs a ≡ false → IsWatched s old a → IsWatched s new a
watched_still s old new xs a keeps other is p r known ranked = keeps a p r other known ranked ∙ is p r known ranked

-- Below, a is an applicant.
module _ (s : Assigned) (ok : IsAssigned s) (a : ℕ) (within : a < applicants s.market) where
  abbrev all_entries : List Live
  all_entries = ranked_list (live_market s.market) a

  all_are : all_entries ≡ map (ranked_entry s.market a) (filter (λ q. has (program_of s.market q).ranking a) (list_of s.market a))
  all_are = ap (map (ranked_entry (live_market s.market) a)) (map_below_at (live s.market) (applicants s.market) a [] within)

  -- the entry of a program that lists the applicant
  entry_is : (p r : ℕ) → rank_of s.market p a ≡ Some r → ranked_entry s.market a p ≡ (record { program = p; rank = r })
  entry_is p r ranked = ap (λ o. record { program = p; rank = unwrap_or o 0 }) ranked

  -- an entry's rank is the applicant's
  own_rank : (e : Live) → In e all_entries → rank_of s.market e.program a ≡ Some e.rank
  own_rank e i =
      let m = s.market in
      let w = of_image (ranked_entry m a) e (filter (λ q. has (program_of m q).ranking a) (list_of m a)) (subst (λ (es : List Live). In e es) all_are i) in
      let listed = (of_kept (λ q. has (program_of m q).ranking a) w.0 (list_of m a) w.1).1 in
      let rank = rank_there (program_of m w.0).ranking a listed in
      subst (λ (x : Live). rank_of m x.program a ≡ Some x.rank) w.2 (rank.1 ∙ ap Some (sym (ap (λ o. unwrap_or o 0) rank.1)))

  -- it is watched at a program by one of its better entries if it wants that more than what it has
  pub entry_wanted : (p r : ℕ) → rank_of s.market p a ≡ Some r → is_entry (better_entries s a) p r ≡ has (wanted s a) p
  entry_wanted p r ranked = same_tests _ _ there back
    where
      lists : ℕ → Bool
      lists q = has (program_of s.market q).ranking a

      there : is_entry (better_entries s a) p r ≡ true → has (wanted s a) p ≡ true
      there h =
          let e = entry_in (better_entries s a) p r h in
          let w = of_image (ranked_entry s.market a) e.0 (filter lists (wanted s a)) (subst (λ (es : List Live). In e.0 es) (entries_are s ok a within) e.1) in
          let same : w.0 ≡ p = ap (λ (x : Live). x.program) w.2 ∙ e.2 in
          subst (λ q. has (wanted s a) q ≡ true) same (in_has w.0 (wanted s a) (of_kept lists w.0 (wanted s a) w.1).0)

      back : has (wanted s a) p ≡ true → is_entry (better_entries s a) p r ≡ true
      back wants =
          let kept = in_kept lists p (wanted s a) (has_in p (wanted s a) wants) (has_rank (program_of s.market p).ranking a r ranked) in
          let image = in_image (ranked_entry s.market a) p (filter lists (wanted s a)) kept in
          let e : Live = record { program = p; rank = r } in
          in_entry (better_entries s a) e (subst (λ (es : List Live). In e es) (sym (entries_are s ok a within))
          (subst (λ (x : Live). In x (map (ranked_entry s.market a) (filter lists (wanted s a)))) (entry_is p r ranked) image))

  parts_are : better_entries s a ++ other_entries s a ≡ all_entries
  parts_are = until_rest (λ (e : Live). at s.places e.program a) all_entries

  -- none of its entries is that of another applicant's rank
  not_another : (es : List Live) (b p r : ℕ) → ((e : Live) → In e es → In e all_entries) → has (a ∷ []) b ≡ false → rank_of s.market p b ≡ Some r → is_entry es p r ≡ false
  not_another es b p r own other ranked = false_from_ne_true _ (λ h.
      let e = entry_in es p r h in
      let of_a : rank_of s.market p a ≡ Some r = subst (λ q. rank_of s.market q a ≡ Some r) e.2 (own_rank e.0 (own e.0 e.1) ∙ ap Some e.3) in
      both_ways (has (a ∷ []) b) other (in_has b (a ∷ []) (inl (one_at_rank s.market p a b r of_a ranked))))

  pub better_of_another : (b p r : ℕ) → has (a ∷ []) b ≡ false → rank_of s.market p b ≡ Some r → is_entry (better_entries s a) p r ≡ false
  better_of_another b p r = not_another (better_entries s a) b p r (λ e i. subst (λ (es : List Live). In e es) parts_are (in_left e (better_entries s a) (other_entries s a) i))

  pub other_of_another : (b p r : ℕ) → has (a ∷ []) b ≡ false → rank_of s.market p b ≡ Some r → is_entry (other_entries s a) p r ≡ false
  other_of_another b p r = not_another (other_entries s a) b p r (λ e i. subst (λ (es : List Live). In e es) parts_are (in_right e (better_entries s a) (other_entries s a) i))

  -- a program of its list that it doesn't want more than what it has is named by one of the other entries
  other_named : (p r : ℕ) → rank_of s.market p a ≡ Some r → has (list_of s.market a) p ≡ true → has (wanted s a) p ≡ false → is_entry (other_entries s a) p r ≡ true
  other_named p r ranked on unwanted =
      let m = s.market in
      let lists : ℕ → Bool = λ q. has (program_of m q).ranking a in
      let e : Live = record { program = p; rank = r } in
      let kept = in_kept lists p (list_of m a) (has_in p (list_of m a) on) (has_rank (program_of m p).ranking a r ranked) in
      let image = subst (λ (x : Live). In x (map (ranked_entry m a) (filter lists (list_of m a)))) (entry_is p r ranked) (in_image (ranked_entry m a) p (filter lists (list_of m a)) kept) in
      let of_all : is_entry all_entries p r ≡ true = in_entry all_entries e (subst (λ (es : List Live). In e es) (sym all_are) image) in
      let split = sym (list_any-append (λ (x : Live). x.program == p && x.rank == r) (better_entries s a) (other_entries s a)) ∙ ap (λ es. is_entry es p r) parts_are ∙ of_all in
      elim (or_cases (is_entry (better_entries s a) p r) (is_entry (other_entries s a) p r) split) [
        | inl better ↦ absurd (both_ways (has (wanted s a) p) unwanted (sym (entry_wanted p r ranked) ∙ better))
        | inr other ↦ other
      ]

  -- it is watched anew: first none of its other entries' ranks, and then those of the better ones
  pub follows : (old mid new : List (List Bool)) (others betters : List Live) → others ≡ other_entries s a → betters ≡ better_entries s a
      → Unwatches old mid others → Watches mid new betters → Follows s old new a
  follows old mid new others betters are_others are_better out on = record {
    as_many = on.as_many ∙ out.as_many;
    others = λ many b p r other known ranked. now p r (ap (λ n. n) many) known
        ∙ ap (λ (x : Bool). x || (not (is_entry (other_entries s a) p r) && ranks_at old p r)) (better_of_another b p r other ranked)
        ∙ ap (λ (x : Bool). not x && ranks_at old p r) (other_of_another b p r other ranked);
    watched = λ many inside p r known ranked. now p r many known
        ∙ ap (λ (x : Bool). x || (not (is_entry (other_entries s a) p r) && ranks_at old p r)) (entry_wanted p r ranked)
        ∙ by_wish (has (wanted s a) p) (is_entry (other_entries s a) p r) (ranks_at old p r) (λ here unwanted. other_named p r ranked (inside p r known ranked here) unwanted);
  }
    where
      now : (p r : ℕ) → length old ≡ length s.market.programs → p < length s.market.programs
          → ranks_at new p r ≡ (is_entry (better_entries s a) p r || (not (is_entry (other_entries s a) p r) && ranks_at old p r))
      now p r many known =
          let in_old : p < length old = subst (λ n. p < n) (sym many) known in
          let in_mid : p < length mid = subst (λ n. p < n) (sym (out.as_many ∙ many)) known in
          on.now p r in_mid
          ∙ ap (λ es. is_entry es p r || ranks_at mid p r) are_better
          ∙ ap (λ (x : Bool). is_entry (better_entries s a) p r || x) (out.now p r in_old ∙ ap (λ es. not (is_entry es p r) && ranks_at old p r) are_others)

      by_wish : (w o old : Bool) → (old ≡ true → w ≡ false → o ≡ true) → (w || (not o && old)) ≡ w
      by_wish true o old h = refl
      by_wish false o false h = by (not o)
        where
          by : (x : Bool) → (x && false) ≡ false
          by true = refl
          by false = refl
      by_wish false o true h = ap (λ (x : Bool). not x && true) (h refl refl)

  -- it is watched where nobody with its ranks was before, and the others as before
  pub first_watched : (old new : List (List Bool)) (betters : List Live) → betters ≡ better_entries s a → Watches old new betters → length old ≡ length s.market.programs
      → ((p r : ℕ) → p < length s.market.programs → rank_of s.market p a ≡ Some r → ranks_at old p r ≡ false) → IsWatched s new a
  first_watched old new betters are on many none p r known ranked =
      on.now p r (subst (λ n. p < n) (sym many) known) ∙ ap (λ es. is_entry es p r || ranks_at old p r) are
      ∙ ap (λ (x : Bool). is_entry (better_entries s a) p r || x) (none p r known ranked) ∙ or_none (is_entry (better_entries s a) p r) ∙ entry_wanted p r ranked
    where
      or_none : (x : Bool) → (x || false) ≡ x
      or_none true = refl
      or_none false = refl

  pub others_as_before : (old new : List (List Bool)) (betters : List Live) → betters ≡ better_entries s a → Watches old new betters → length old ≡ length s.market.programs
      → KeepsOthers s.market old new (a ∷ [])
  others_as_before old new betters are on many b p r other known ranked =
      on.now p r (subst (λ n. p < n) (sym many) known) ∙ ap (λ es. is_entry es p r || ranks_at old p r) are
      ∙ ap (λ (x : Bool). x || ranks_at old p r) (better_of_another b p r other ranked)
