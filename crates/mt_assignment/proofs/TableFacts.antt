-- The rows of an assignment, as its match changes.
use Rattle.std.proofs.Common.{◌≡◌, ◌≢◌, ℕ, ◌+◌, ◌<◌, true, false, ◌==◌, List, length, get_or, slice_set, Option, Some, None, refl, ap, sym, ◌∙◌, inl, inr, arith, subst, ne_eqb}
use Rattle.std.specs.List.{position}
use Rattle.std.proofs.lemmas.Bool.{cases_eq, eq-eqb, eqb-true}
use Rattle.std.proofs.lemmas.List.{length-set}
use Rattle.std.proofs.lemmas.List.Quantifiers.{position-Some}
use Rattle.std.specs.BTreeSet.{insert_key}
use Rattle.std.specs.Ordering.{nat_cmp}
use Rattle.std.specs.Prelude.{filter, not}
use Rattle.mt_terms.specs.Registration.Accepted.{IsRegistration}
use Rattle.mt_terms.specs.Lists.{has}
use Rattle.mt_terms.specs.Market.{Market, applicants, program_of}
use Rattle.mt_terms.specs.Matching.{Places, place_of, is_program, at, placed_ranks}
use Rattle.mt_stability_laws.proofs.TakenLemmas.{at-slice_set_same, at-slice_set_other}
use Rattle.mt_terms.specs.Places.{ArePlaces}
use Rattle.mt_ranks.specs.Ranked.{ranked_of}
use Rattle.std.specs.List.Sorted.{IsStrictlySortedBy}
use Rattle.std.specs.Vec.{with_item}
use Rattle.mt_assignment.specs.Assigned.{Assigned, AreListed}
use Rattle.mt_assignment.specs.View.{assigned_of, AreTables}
use Rattle.mt_assignment.specs.declared.assignment.Assignment.TheInside.{Inside}
use Rattle.mt_assignment.proofs.MarketFacts.{ranked_ranking}
use Rattle.mt_assignment.proofs.RankFacts.{has_no_rank}
use Rattle.mt_stage_tables.proofs.MatchRows.{row_count, row_read, rows_written, rows_kept, unlisted_same, elsewhere_same, comes_in, goes_off, AreRows}
use Rattle.mt_stage_tables.proofs.RanksFacts.{ranks_sorted, has_own_rank, has_no_own_rank}

-- a match in which one applicant is moved to a program of the market, or to none
places_moved : (m : Market) (places : Places) (a : ℕ) (v : Option ℕ) → ArePlaces m places → a < length places → ((p : ℕ) → is_program p v ≡ true → p < length m.programs)
    → ArePlaces m (slice_set places a v)
places_moved m places a v are a_in within = record {
  one_each = length-set places a v ∙ are.one_each;
  within = λ b p there. elim (cases_eq b a) [
    | inl is ↦ within p (sym (at-slice_set_same places a p v a_in) ∙ ap (at (slice_set places a v) p) (sym is) ∙ there)
    | inr other ↦ are.within b p (sym (at-slice_set_other places a b p v other) ∙ there)
  ];
}

-- and one that lists the applicant
listed_moved : (m : Market) (places : Places) (a : ℕ) (v : Option ℕ) → AreListed m places → a < length places
    → ((p : ℕ) → is_program p v ≡ true → has (program_of m p).ranking a ≡ true) → AreListed m (slice_set places a v)
listed_moved m places a v are a_in lists b p there = elim (cases_eq b a) [
  | inl is ↦
      subst (λ x. has (program_of m p).ranking x ≡ true) (sym is) (lists p (sym (at-slice_set_same places a p v a_in) ∙ ap (at (slice_set places a v) p) (sym is) ∙ there))
  | inr other ↦ are b p (sym (at-slice_set_other places a b p v other) ∙ there)
]

-- Below, t are the tables of an assignment.
module _ (t : Inside) (h : AreTables t) where
  abbrev market : Market
  market = t.roster.now.market

  abbrev places_in : Places
  places_in = t.places.items

  pub row_index : (p i : ℕ) → i ≡ p → p < length market.programs → i < length t.rows.items
  row_index p i is within = omega (arith, row_count market places_in t.rows.items h.rows)

  pub row_at : (p i : ℕ) (row : List ℕ) → i ≡ p → p < length market.programs → row ≡ get_or t.rows.items i row → row ≡ placed_ranks market places_in p
  row_at p i row is within read = row_read market places_in t.rows.items p row h.rows within (read ∙ ap (λ j. get_or t.rows.items j row) is)

  pub row_sorted : (p i : ℕ) (row : List ℕ) → i ≡ p → p < length market.programs → row ≡ get_or t.rows.items i row → IsStrictlySortedBy nat_cmp row
  row_sorted p i row is within read =
      subst (IsStrictlySortedBy nat_cmp) (sym (row_at p i row is within read)) (ranks_sorted 0 (at places_in p) (program_of market p).ranking)

  -- the rank of an applicant, by the rank tables
  pub ranked_at : (p a : ℕ) (r : Option ℕ) → r ≡ position (λ x. x == a) (program_of t.ranks.now.market p).ranking → r ≡ position (λ x. x == a) (program_of market p).ranking
  ranked_at p a r read = read ∙ ap (position (λ x. x == a)) (ranked_ranking t.ranks.now market p h.one_market)

  -- whether an applicant's rank is in the row of a program
  pub own_rank : (p i k a : ℕ) (row : List ℕ) → i ≡ p → p < length market.programs → row ≡ get_or t.rows.items i row
      → Some k ≡ position (λ x. x == a) (program_of market p).ranking → at places_in p a ≡ true → has row k ≡ true
  own_rank p i k a row is within read found there =
      let w = position-Some (λ x. x == a) (program_of market p).ranking k 0 (sym found) in
      ap (λ xs. has xs k) (row_at p i row is within read)
      ∙ own k w.0 (ap (at places_in p) (eqb-true _ _ w.1) ∙ there)
    where
      own : (k : ℕ) → k < length (program_of market p).ranking → at places_in p (get_or (program_of market p).ranking k 0) ≡ true → has (placed_ranks market places_in p) k ≡ true
      own k k_in stands =
          let e : 0 + k ≡ k = omega arith in
          subst (λ r. has (placed_ranks market places_in p) r ≡ true) e (has_own_rank (at places_in p) 0 (program_of market p).ranking k k_in stands)

  pub no_own_rank : (p i k a : ℕ) (row : List ℕ) → i ≡ p → p < length market.programs → row ≡ get_or t.rows.items i row
      → Some k ≡ position (λ x. x == a) (program_of market p).ranking → at places_in p a ≡ false → has row k ≡ false
  no_own_rank p i k a row is within read found out =
      let w = position-Some (λ x. x == a) (program_of market p).ranking k 0 (sym found) in
      let e : 0 + k ≡ k = omega arith in
      ap (λ xs. has xs k) (row_at p i row is within read)
      ∙ subst (λ r. has (placed_ranks market places_in p) r ≡ false) e (has_no_own_rank (at places_in p) 0 (program_of market p).ranking k (ap (at places_in p) (eqb-true _ _ w.1) ∙ out))

-- an applicant of the market that is seen is one of the roster's
pub applicant_known : (t : Inside) (s : Assigned) (a : ℕ) → assigned_of t ≡ s → a < applicants s.market → a < applicants t.roster.now.market
applicant_known t s a is within = omega (arith, ap (λ (x : Assigned). applicants x.market) is)

pub program_known : (t : Inside) (s : Assigned) (p : ℕ) → assigned_of t ≡ s → p < length s.market.programs → p < length t.roster.now.market.programs
program_known t s p is within = omega (arith, ap (λ (x : Assigned). length x.market.programs) is)

-- the tables once one place is written, after the rows were
pub tables_after : (X Y : Inside) (i a : ℕ) (v : Option ℕ) → X ≡ Y → i ≡ a → IsRegistration Y.roster.now → Y.ranks.now ≡ ranked_of Y.roster.now.market
    → ArePlaces Y.roster.now.market Y.places.items → AreListed Y.roster.now.market Y.places.items → a < length Y.places.items
    → ((p : ℕ) → is_program p v ≡ true → p < length Y.roster.now.market.programs) → ((p : ℕ) → is_program p v ≡ true → has (program_of Y.roster.now.market p).ranking a ≡ true)
    → AreRows Y.roster.now.market (slice_set Y.places.items a v) Y.rows.items
    → AreTables (record { roster = X.roster; ranks = X.ranks; places = with_item X.places i v; rows = X.rows })
tables_after X Y i a v written index roster ranks are listed a_in within lists rows =
    subst (λ (Z : Inside). AreTables (record { roster = Z.roster; ranks = Z.ranks; places = with_item Z.places i v; rows = Z.rows })) (sym written)
    (subst (λ j. AreTables (record { roster = Y.roster; ranks = Y.ranks; places = with_item Y.places j v; rows = Y.rows })) (sym index) (record {
      is_registration = roster;
      one_market = ranks;
      are_places = places_moved Y.roster.now.market Y.places.items a v are a_in within;
      listed = listed_moved Y.roster.now.market Y.places.items a v listed a_in lists;
      rows = rows;
    }))

-- Below, an applicant of an assignment is moved.
module _ (t : Inside) (h : AreTables t) (a : ℕ) (a_known : a < applicants t.roster.now.market) where
  abbrev here_market : Market
  here_market = t.roster.now.market

  abbrev here_places : Places
  here_places = t.places.items

  a_in : a < length t.places.items
  a_in = omega (arith, h.are_places.one_each)

  -- at no other program than where it is
  at_other : (p q : ℕ) → Some p ≡ place_of t.places.items a → q ≢ p → false ≡ at t.places.items q a
  at_other p q place other = sym (ne_eqb p q (λ e. other (sym e))) ∙ ap (is_program q) place

  pub stands_at : (p : ℕ) → Some p ≡ place_of t.places.items a → at t.places.items p a ≡ true
  stands_at p place = ap (is_program p) (sym place) ∙ eq-eqb p p refl

  pub known_at : (p : ℕ) → Some p ≡ place_of t.places.items a → p < length t.roster.now.market.programs
  known_at p place = h.are_places.within a p (stands_at p place)

  pub stands_nowhere : (q : ℕ) → None ≡ place_of t.places.items a → false ≡ at t.places.items q a
  stands_nowhere q place = ap (is_program q) place

  -- it goes, and its rank with it
  pub rows_off : (p i k : ℕ) (row new : List ℕ) → i ≡ p → Some p ≡ place_of t.places.items a → row ≡ get_or t.rows.items i row
      → Some k ≡ position (λ x. x == a) (program_of t.roster.now.market p).ranking → new ≡ filter (λ r. not (r == k)) row
      → AreRows t.roster.now.market (slice_set t.places.items a None) (slice_set t.rows.items i new)
  rows_off p i k row new is place read found filtered =
      let once = h.is_registration.well_formed.rankings_distinct p in
      let row_is = row_at t h p i row is (known_at p place) read in
      subst (λ j. AreRows here_market (slice_set here_places a None) (slice_set t.rows.items j new)) (sym is)
      (rows_written here_market here_places (slice_set here_places a None) t.rows.items p new h.rows (known_at p place)
      (filtered ∙ ap (filter (λ r. not (r == k))) row_is ∙ sym (goes_off here_market here_places a None a_in p k once (sym found) refl))
      (λ q other. elsewhere_same here_market here_places a None a_in q (at_other p q place other)))

  -- it goes from a program that doesn't list it
  pub rows_off_unlisted : (p : ℕ) → Some p ≡ place_of t.places.items a → None ≡ position (λ x. x == a) (program_of t.roster.now.market p).ranking
      → AreRows t.roster.now.market (slice_set t.places.items a None) t.rows.items
  rows_off_unlisted p place off = rows_kept here_market here_places (slice_set here_places a None) t.rows.items h.rows (λ q. elim (cases_eq q p) [
    | inl is ↦ unlisted_same here_market here_places a None q (ap (λ j. has (program_of here_market j).ranking a) is ∙ has_no_rank _ a (sym off))
    | inr other ↦ elsewhere_same here_market here_places a None a_in q (at_other p q place other)
  ])

  -- it was nowhere
  pub rows_same : None ≡ place_of t.places.items a → AreRows t.roster.now.market (slice_set t.places.items a None) t.rows.items
  rows_same place = rows_kept here_market here_places (slice_set here_places a None) t.rows.items h.rows (λ q.
      elsewhere_same here_market here_places a None a_in q (stands_nowhere q place))

  -- it comes, and its rank with it
  pub rows_on : (p i k : ℕ) (row new : List ℕ) → i ≡ p → p < length t.roster.now.market.programs → None ≡ place_of t.places.items a → row ≡ get_or t.rows.items i row
      → Some k ≡ position (λ x. x == a) (program_of t.roster.now.market p).ranking → new ≡ insert_key nat_cmp row k
      → AreRows t.roster.now.market (slice_set t.places.items a (Some p)) (slice_set t.rows.items i new)
  rows_on p i k row new is known place read found inserted =
      let once = h.is_registration.well_formed.rankings_distinct p in
      let row_is = row_at t h p i row is known read in
      subst (λ j. AreRows here_market (slice_set here_places a (Some p)) (slice_set t.rows.items j new)) (sym is)
      (rows_written here_market here_places (slice_set here_places a (Some p)) t.rows.items p new h.rows known
      (inserted ∙ ap (λ xs. insert_key nat_cmp xs k) row_is
      ∙ sym (comes_in here_market here_places a (Some p) a_in p k once (sym found) (sym (stands_nowhere p place)) (eq-eqb p p refl)))
      (λ q other. elsewhere_same here_market here_places a (Some p) a_in q (ne_eqb p q (λ e. other (sym e)) ∙ stands_nowhere q place)))

  -- it comes to a program that doesn't list it
  pub rows_on_unlisted : (p : ℕ) → None ≡ place_of t.places.items a → None ≡ position (λ x. x == a) (program_of t.roster.now.market p).ranking
      → AreRows t.roster.now.market (slice_set t.places.items a (Some p)) t.rows.items
  rows_on_unlisted p place off = rows_kept here_market here_places (slice_set here_places a (Some p)) t.rows.items h.rows (λ q. elim (cases_eq q p) [
    | inl is ↦ unlisted_same here_market here_places a (Some p) q (ap (λ j. has (program_of here_market j).ranking a) is ∙ has_no_rank _ a (sym off))
    | inr other ↦ elsewhere_same here_market here_places a (Some p) a_in q (ne_eqb p q (λ e. other (sym e)) ∙ stands_nowhere q place)
  ])
