-- What rank tables mean.
use Rattle.std.specs.Prelude.{◌≡◌, ◌<◌, ℕ, [], List, map}
use Rattle.mt_terms.specs.Lists.{below}
use Rattle.mt_terms.specs.Market.{Market, applicants}
use Rattle.mt_ranks.specs.Entries.{own_entries}
use Rattle.mt_ranks.specs.Parts.{live_among, row_among, HaveApplicant}
use Rattle.mt_ranks.specs.Ranked.{Ranked, IsRanked, ranked_list, single_flags}
use Rattle.mt_ranks.specs.declared.entries.Live.{Live}
use Rattle.mt_ranks.specs.declared.tables.Ranks.TheInside.{Inside}

-- the programs of a live list
abbrev pub programs_in : List Live → List ℕ
programs_in entries = map (λ (x : Live). x.program) entries

-- how many applicants there are
abbrev pub count_in : Inside → ℕ
count_in t = applicants t.roster.now.market

-- the market of singles that the tables are of
abbrev pub market_in : Inside → Market
market_in t = record {
  programs = t.roster.now.market.programs;
  lists = map (λ a. programs_in (live_among t.size t.parts.items a)) (below (count_in t));
  couples = [];
}

abbrev pub ranked_in : Inside → Ranked
ranked_in t = record { market = market_in t; singles = single_flags t.roster.now.market }

-- The tables fit: each applicant is in its part, its row has its places on the programs' lists, and its live list
-- has ranks.
pub record AreTables (t : Inside) : Type 0 where
  pub have : (a : ℕ) → a < count_in t → HaveApplicant t.size t.parts.items a
  pub rows : (a : ℕ) → a < count_in t → row_among t.size t.parts.items a ≡ own_entries (market_in t) a
  pub live_ranks : (a : ℕ) → a < count_in t → live_among t.size t.parts.items a ≡ ranked_list (market_in t) a
  pub ranked : IsRanked (ranked_in t)
