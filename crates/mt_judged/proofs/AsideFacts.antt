-- A market in which no couple is set aside.
use Rattle.std.proofs.Common.{◌≡◌, ℕ, List, [], ap, ◌∙◌}
use Rattle.mt_terms.specs.Market.{Market, Registered}
use Rattle.mt_order_laws.specs.Reordered.{set_aside_registered}
use Rattle.mt_order_laws.proofs.FormedFacts.{none_aside_lem}

-- with no couple set aside, the market is as it was
pub none_aside_registered : (r : Registered) (aside : List ℕ) → aside ≡ [] → set_aside_registered aside r ≡ r
none_aside_registered r aside none =
    ap (λ (xs : List ℕ). set_aside_registered xs r) none ∙ ap (λ (m : Market). record { market = m; names = r.names }) (none_aside_lem r.market)
