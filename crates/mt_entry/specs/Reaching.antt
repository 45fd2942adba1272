-- When couples may enter a match, and how far they enter from it on.
use Rattle.std.specs.Prelude.{◌≡◌, ℕ, ◌-◌, ◌≤◌, List, [], ◌∷◌, None, Some, IsTrue}
use Rattle.std.specs.List.{range_with_len}
use Rattle.mt_terms.specs.Market.{Market}
use Rattle.mt_terms.specs.Matching.{Places}
use Rattle.mt_terms.specs.Rounds.{after_entries, after_rounds}
use Rattle.mt_terms.specs.Stability.{fits}
use Rattle.mt_terms.specs.declared.numbers.Agent.TheVariants.{Couple}
use Rattle.mt_ranks.specs.Ranked.{ranked_of}
use Rattle.mt_entry.specs.declared.ends.Reached.{Reached}
use Rattle.mt_entry.specs.declared.market.RankedMarket.{RankedMarket}

-- Couples of a market may enter a match: the rank tables are those of the market, and the match fits.
pub record MayEnter (r : RankedMarket) (places : Places) : Type 0 where
  pub ranks : r.ranks.now ≡ ranked_of r.roster.now.market
  pub fitting : IsTrue (fits r.roster.now.market places)

-- the couples from one number on, below another
abbrev pub between : ℕ → ℕ → List ℕ
between from until = range_with_len from (until - from)

-- The couples that have entered here, and hadn't there, enter in turn. They lead from that match to this one, and from what
-- was left of the budget to what is left.
pub record Leads (m : Market) (start end : Reached) : Type 0 where
  pub order : start.entered ≤ end.entered
  pub entries : after_entries m (between start.entered end.entered) start.left start.matched.places ≡ Some (end.matched.places, end.left)

-- the rounds of the next couple don't end within what is left
abbrev pub IsStuck : Market → Reached → Type 0
IsStuck m r = after_rounds m r.entered r.left r.matched.places (Couple r.entered ∷ []) ≡ None
