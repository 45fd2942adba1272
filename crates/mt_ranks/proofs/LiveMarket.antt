-- The rank tables of a well-formed market are ranked, if the market is as small as an input may be.
use Rattle.std.proofs.Common.{◌≡◌, ◌==◌, ℕ, suc, ◌+◌, ◌^◌, ◌<◌, ◌≤◌, List, [], ◌∷◌, true, false, Option, Some, None, eqb, map, filter, length, get_or, unwrap_or, refl, sym, ap, ◌∙◌, inl, inr, arith}
use Rattle.std.specs.Option.{is_some}
use Rattle.std.specs.List.{position}
use Rattle.std.proofs.lemmas.Bool.{cases_Bool, eqb-true, cases_lt, or_cases, true≢false}
use Rattle.std.proofs.lemmas.List.FromFn.{get_or-map-range_with_len, length-map-range_with_len}
use Rattle.mt_terms.specs.Lists.{has, below}
use Rattle.mt_terms.specs.Market.{Market, Partners, applicants, program_of, list_of, couple_of, live, live_market, is_member, agent_from, live_entries}
use Rattle.mt_terms.specs.WellFormed.{IsWellFormed}
use Rattle.mt_ranks.specs.Ranked.{IsRanked, IsEntry, IsRank, is_single, is_single_agent, ranked_of, ranked_entry, all_entries, Ranked}
use Rattle.mt_ranks.proofs.Positions.{has-position, IsRank-from_position}
use Rattle.mt_terms.proofs.LiveFacts.{live_past, live_parts, applicants-live_market, list_of-live_market, live-live_market, live_well_formed}
use Rattle.mt_ranks.proofs.Sizes.{distinct_length, total_below-le}
use Rattle.mt_terms.proofs.Totals.{total_below-same}
use Rattle.mt_terms.proofs.BelowFacts.{length-map_below}

-- what stands where the position is
rank_stands : (xs : List ℕ) (a : ℕ) → has xs a ≡ true → IsRank xs a (unwrap_or (position (λ x. x == a) xs) 0)
rank_stands xs a h = by_cases (position (λ x. x == a) xs) refl
  where
    by_cases : (o : Option ℕ) → position (λ x. x == a) xs ≡ o → IsRank xs a (unwrap_or o 0)
    by_cases None e = absurd (true≢false (sym h ∙ has-position xs a ∙ ap is_some e))
    by_cases (Some r) e = IsRank-from_position xs a r e

pub entry_ranked : (m : Market) (a p : ℕ) → IsWellFormed m → has (list_of (live_market m) a) p ≡ true → IsEntry (live_market m) a (ranked_entry (live_market m) a p)
entry_ranked m a p w h =
    let parts = live_parts m a p (rw (list_of-live_market m a) at h) in
    record { program = w.lists_within a p parts.1; rank = rank_stands (program_of m p).ranking a parts.0 }

-- who is no single is one of the two members of some couple
couple_from : (cs : List Partners) (k a : ℕ) (d : Partners) → is_single_agent (agent_from cs k a) ≡ false → (c : ℕ) × (c < length cs) × (is_member (get_or cs c d) a ≡ true)
couple_from [] k a d h = absurd (true≢false h)
couple_from (x ∷ xs) k a d h =
    elim (cases_Bool (is_member x a)) as (λ o. (c : ℕ) × (c < length (x ∷ xs)) × (is_member (get_or (x ∷ xs) c d) a ≡ true)) [
      | inl member ↦ (0, omega arith, member)
      | inr other ↦ let rest = couple_from xs (k + 1) a d (rw other at h) in (suc rest.0, omega (arith, rest.1), rest.2)
    ]

pub no_list_of_member : (m : Market) (a : ℕ) → IsWellFormed m → is_single m a ≡ false → list_of m a ≡ []
no_list_of_member m a w h =
    let of = couple_from m.couples 0 a (record { first = 0; second = 0; pairs = [] }) h in
    elim (or_cases (eqb (couple_of m of.0).first a) (eqb (couple_of m of.0).second a) of.2) as (λ o. list_of m a ≡ []) [
      | inl is_first ↦ rw (eqb-true (couple_of m of.0).first a is_first) at (w.first_member of.0 of.1).no_list
      | inr is_second ↦ rw (eqb-true (couple_of m of.0).second a is_second) at (w.second_member of.0 of.1).no_list
    ]

no_live_of_member : (m : Market) (a : ℕ) → IsWellFormed m → get_or (map (is_single m) (below (applicants m))) a false ≡ false → list_of (live_market m) a ≡ []
no_live_of_member m a w h =
    list_of-live_market m a
    ∙ elim (cases_lt a (applicants m)) as (λ o. live m a ≡ []) [
      | inl within ↦
          ap (filter (λ p. has (program_of m p).ranking a))
          (no_list_of_member m a w (sym (get_or-map-range_with_len (is_single m) 0 (applicants m) a a false within (omega arith)) ∙ h))
      | inr past ↦ live_past m a past
    ]

few : (m : Market) → IsWellFormed m → applicants m ≤ 100000 → length m.programs ≤ 20000 → all_entries m < 2 ^ 32
few m w some_applicants some_programs =
    omega (
      arith,
      total_below-le (λ a. length (list_of m a)) (applicants m) 20000 (λ a i. omega (arith, distinct_length (list_of m a) (length m.programs) (w.lists_distinct a) (w.lists_within a))),
      total_below-le (λ p. length (program_of m p).ranking) (length m.programs) 100000 (λ p i. omega (arith, distinct_length (program_of m p).ranking (applicants m) (w.rankings_distinct p) (w.rankings_within p))),
    )

pub live_market_ranked : (m : Market) → IsWellFormed m → applicants m ≤ 100000 → length m.programs ≤ 20000 → IsRanked (ranked_of m)
live_market_ranked m w some_applicants some_programs =
    let same : applicants (live_market m) ≡ applicants m = applicants-live_market m in
    record {
      well_formed = live_well_formed m w;
      no_couples = refl;
      all_live = λ a. live-live_market m a ∙ sym (list_of-live_market m a);
      all_ranked = λ a p h. entry_ranked m a p w h;
      flags = length-map-range_with_len (is_single m) 0 (applicants m) ∙ sym same;
      member_lists = λ a h. no_live_of_member m a w h;
      few_applicants = omega arith;
      few_programs = some_programs;
      few_entries = few (live_market m) (live_well_formed m w) (omega arith) some_programs;
    }

-- Rank tables have fewer live entries than 2 ^ 32.
pub few_live : (r : Ranked) → IsRanked r → live_entries r.market < 2 ^ 32
few_live r is =
    let same = total_below-same (λ a. length (live r.market a)) (λ a. length (list_of r.market a)) (applicants r.market) (λ a low. ap length (is.all_live a)) in
    omega (arith, same, is.few_entries)

-- a live list has no more entries than there may be programs
pub live_few : (r : Ranked) → IsRanked r → (a : ℕ) → length (live r.market a) ≤ 20000
live_few r is a =
    let same : length (live r.market a) ≡ length (list_of r.market a) = ap length (is.all_live a) in
    omega (arith, same, distinct_length (list_of r.market a) (length r.market.programs) (is.well_formed.lists_distinct a) (is.well_formed.lists_within a), is.few_programs)

-- a program's list has no more applicants than there may be
pub ranking_few : (r : Ranked) → IsRanked r → (p : ℕ) → length (program_of r.market p).ranking ≤ 100000
ranking_few r is p =
    omega (arith, distinct_length (program_of r.market p).ranking (applicants r.market) (is.well_formed.rankings_distinct p) (is.well_formed.rankings_within p), is.few_applicants)

-- Below, r are the rank tables of the market m.
pub ranked_programs : (r : Ranked) (m : Market) → r ≡ ranked_of m → length r.market.programs ≡ length m.programs
ranked_programs r m is = ap (λ (x : Ranked). length x.market.programs) is

pub ranked_applicants : (r : Ranked) (m : Market) → r ≡ ranked_of m → applicants r.market ≡ applicants m
ranked_applicants r m is = ap (λ (x : Ranked). applicants x.market) is ∙ length-map_below (live m) (applicants m)

pub ranked_program : (r : Ranked) (m : Market) (p : ℕ) → r ≡ ranked_of m → program_of r.market p ≡ program_of m p
ranked_program r m p is = ap (λ (x : Ranked). program_of x.market p) is
