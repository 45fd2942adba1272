-- What the tables say of the market that they are seen as.
use Rattle.std.proofs.Common.{◌≡◌, ℕ, List, false, ◌<◌, ◌≤◌, ◌*◌, ◌^◌, [], map, length, get_or, sym, ap, subst, ◌∙◌, arith}
use Rattle.std.specs.List.{All}
use Rattle.std.proofs.lemmas.List.{get_or-map, get_or_past, length-map}
use Rattle.std.proofs.lemmas.List.FromFn.{get_or-map-range_with_len, length-map-range_with_len, fill_by_all}
use Rattle.mt_terms.specs.Lists.{below}
use Rattle.mt_terms.specs.Market.{Market, applicants, list_of, live}
use Rattle.mt_terms.specs.WellFormed.{IsWellFormed}
use Rattle.mt_ranks.specs.Entries.{own_entries, rankings_of, rank_among, AscendFrom}
use Rattle.mt_ranks.specs.Parts.{live_among, row_among, AreParts, HaveApplicant}
use Rattle.mt_ranks.specs.Ranked.{Ranked, IsRanked, IsEntry, ranked_of, ranked_entry, rank_of, is_single, single_flags}
use Rattle.mt_ranks.specs.View.{programs_in, count_in, ranked_in, AreTables}
use Rattle.mt_ranks.specs.declared.tables.Ranks.TheInside.{Inside}
use Rattle.mt_terms.proofs.ListFacts.{has_item}
use Rattle.mt_terms.proofs.LiveFacts.{list_of-live_market}
use Rattle.mt_ranks.proofs.LiveLists.{rankings_distinct, rank_among-own, entries_among-list, programs_in-ranked}
use Rattle.mt_ranks.proofs.LiveMarket.{live_market_ranked}
use Rattle.mt_ranks.proofs.PartsFacts.{row_found, live_found, applicant_held}
use Rattle.mt_ranks.proofs.Positions.{entries_ascend}

-- Below, t are rank tables, seen as r.
pub same_programs : (t : Inside) (r : Ranked) → ranked_in t ≡ r → t.roster.now.market.programs ≡ r.market.programs
same_programs t r v = ap (λ (s : Ranked). s.market.programs) v

pub count_of_applicants : (t : Inside) (r : Ranked) → ranked_in t ≡ r → count_in t ≡ applicants r.market
count_of_applicants t r v =
    sym (length-map-range_with_len (λ a. programs_in (live_among t.size t.parts.items a)) 0 (count_in t)) ∙ ap (λ (s : Ranked). applicants s.market) v

pub has_applicant : (t : Inside) (r : Ranked) (a : ℕ) → AreTables t → ranked_in t ≡ r → a < applicants r.market → HaveApplicant t.size t.parts.items a
has_applicant t r a h v w = h.have a (omega (arith, count_of_applicants t r v))

pub is_ranked : (t : Inside) (r : Ranked) → AreTables t → ranked_in t ≡ r → IsRanked r
is_ranked t r h v = subst IsRanked v h.ranked

row_at : (t : Inside) (r : Ranked) (a : ℕ) → AreTables t → ranked_in t ≡ r → a < applicants r.market → row_among t.size t.parts.items a ≡ own_entries r.market a
row_at t r a h v w = h.rows a (omega (arith, count_of_applicants t r v)) ∙ ap (λ (s : Ranked). own_entries s.market a) v

pub row_ascends : (t : Inside) (r : Ranked) (a : ℕ) → AreTables t → ranked_in t ≡ r → a < applicants r.market → AscendFrom 0 (row_among t.size t.parts.items a)
row_ascends t r a h v w = rw (row_at t r a h v w) (entries_ascend (rankings_of r.market) a (rankings_distinct r.market (is_ranked t r h v).well_formed))

pub rank_in_row : (t : Inside) (r : Ranked) (a p : ℕ) → AreTables t → ranked_in t ≡ r → a < applicants r.market
    → rank_among (row_among t.size t.parts.items a) p ≡ rank_of r.market p a
rank_in_row t r a p h v w = ap (λ es. rank_among es p) (row_at t r a h v w) ∙ rank_among-own r.market a p

pub single_within : (t : Inside) (r : Ranked) (a : ℕ) → ranked_in t ≡ r → a < applicants t.roster.now.market → is_single t.roster.now.market a ≡ get_or r.singles a false
single_within t r a v w =
    sym (get_or-map-range_with_len (is_single t.roster.now.market) 0 (applicants t.roster.now.market) a a false w (omega arith)) ∙ ap (λ (s : Ranked). get_or s.singles a false) v

pub single_past : (t : Inside) (r : Ranked) (a : ℕ) → ranked_in t ≡ r → applicants t.roster.now.market ≤ a → false ≡ get_or r.singles a false
single_past t r a v past =
    sym (get_or_past (single_flags t.roster.now.market) a false (omega (arith, length-map-range_with_len (is_single t.roster.now.market) 0 (applicants t.roster.now.market))))
    ∙ ap (λ (s : Ranked). get_or s.singles a false) v

pub live_list : (t : Inside) (r : Ranked) (a : ℕ) → AreTables t → ranked_in t ≡ r → a < applicants r.market → live_among t.size t.parts.items a ≡ map (ranked_entry r.market a) (list_of r.market a)
live_list t r a h v w = h.live_ranks a (omega (arith, count_of_applicants t r v)) ∙ ap (λ (s : Ranked). map (ranked_entry s.market a) (list_of s.market a)) v

-- every entry of a live list names a program with a rank there
pub live_entries : (t : Inside) (r : Ranked) (a : ℕ) → AreTables t → ranked_in t ≡ r → All (IsEntry r.market a) (map (ranked_entry r.market a) (list_of r.market a))
live_entries t r a h v k d i =
    let within : k < length (list_of r.market a) = omega (arith, length-map (list_of r.market a) (ranked_entry r.market a)) in
    rw (get_or-map (ranked_entry r.market a) (list_of r.market a) k 0 d within)
    ((is_ranked t r h v).all_ranked a (get_or (list_of r.market a) k 0) (has_item (list_of r.market a) k within))

-- Below, the tables are made of a market's.
pub record AreMade (m : Market) (t : Inside) : Type 0 where
  pub roster : t.roster.now.market ≡ m
  pub enough : applicants m ≤ t.size * 4
  pub small : t.size < 2 ^ 32
  pub parts : AreParts m t.size t.parts.items

-- four blocks of a size take all applicants of a market, which are few
pub tables_made : (m : Market) (t : Inside) (count : ℕ) → t.roster.now.market ≡ m → count ≡ applicants m → applicants m ≤ 100000 → count ≤ t.size * 4 → t.size ≤ count → AreParts m t.size t.parts.items → AreMade m t
tables_made m t count is all some enough few parts = record { roster = is; enough = omega (arith, all, enough); small = omega (arith, all, few, some); parts = parts }

made_list : (m : Market) (t : Inside) (a : ℕ) → AreMade m t → a < applicants m → live_among t.size t.parts.items a ≡ map (ranked_entry m a) (live m a)
made_list m t a h w = live_found m t.size t.parts.items h.parts a h.enough w ∙ entries_among-list m a

pub made_seen : (m : Market) (t : Inside) → AreMade m t → ranked_in t ≡ ranked_of m
made_seen m t h =
    let n : count_in t ≡ applicants m = ap applicants h.roster in
    let shown : ℕ → List ℕ = λ a. programs_in (live_among t.size t.parts.items a) in
    let programs : t.roster.now.market.programs ≡ m.programs = ap Market.programs h.roster in
    let lists : map shown (below (count_in t)) ≡ map (live m) (below (applicants m)) =
    fill_by_all (live m) (map shown (below (count_in t))) (applicants m) [] (length-map-range_with_len shown 0 (count_in t) ∙ n)
    (λ a w. get_or-map-range_with_len shown 0 (count_in t) a a [] (omega (arith, n)) (omega arith) ∙ ap programs_in (made_list m t a h w) ∙ programs_in-ranked m a (live m a)) in
    let singles : single_flags t.roster.now.market ≡ single_flags m = ap single_flags h.roster in
    cc

pub made_tables : (m : Market) (t : Inside) → AreMade m t → IsWellFormed m → applicants m ≤ 100000 → length m.programs ≤ 20000 → AreTables t
made_tables m t h w some_applicants some_programs =
    let n : count_in t ≡ applicants m = ap applicants h.roster in
    let seen : ranked_in t ≡ ranked_of m = made_seen m t h in
    let LiveIn : ℕ → Ranked → Type 0 = λ a r. live_among t.size t.parts.items a ≡ map (ranked_entry r.market a) (list_of r.market a) in
    let RowIn : ℕ → Ranked → Type 0 = λ a r. row_among t.size t.parts.items a ≡ own_entries r.market a in
    record {
      have = λ a i. applicant_held m t.size t.parts.items h.parts a h.enough (omega (arith, n)) h.small;
      rows = λ a i. subst (RowIn a) (sym seen) (row_found m t.size t.parts.items h.parts a h.enough (omega (arith, n)));
      live_ranks = λ a i. subst (LiveIn a) (sym seen) (made_list m t a h (omega (arith, n)) ∙ ap (map (ranked_entry m a)) (sym (list_of-live_market m a)));
      ranked = subst IsRanked (sym seen) (live_market_ranked m w some_applicants some_programs);
    }
