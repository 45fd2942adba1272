-- What is so of the live market that rank tables show is so of its market.
use Rattle.std.proofs.Common.{◌≡◌, ℕ, List, [], ◌∷◌, refl, subst, ap, ◌∙◌, map, length}
use Rattle.mt_terms.specs.Best.{IsBest, proposals}
use Rattle.mt_terms.specs.Lists.{below}
use Rattle.mt_terms.specs.Market.{Market, live_market}
use Rattle.mt_terms.specs.Matching.{Places}
use Rattle.mt_terms.specs.WellFormed.{IsWellFormed}
use Rattle.mt_floor_laws.specs.Live.{LiveAgrees}
use Rattle.mt_floor_laws.proofs.LiveLemmas.{live_market_agrees_lem}

pub best_of_live : (m : Market) → IsWellFormed m → (l : Market) → l ≡ live_market m → (places : Places) → IsBest l places → IsBest m places
best_of_live m wf l e places h =
    (LiveAgrees.same_best (live_market_agrees_lem m wf) places).0 (subst (λ (x : Market). IsBest x places) e h)

map_same : {X : Type 0} (f g : ℕ → X) → ((a : ℕ) → f a ≡ g a) → (xs : List ℕ) → map f xs ≡ map g xs
map_same f g h [] = refl
map_same f g h (x ∷ xs) = ap (λ y. y ∷ map f xs) (h x) ∙ ap (λ ys. g x ∷ ys) (map_same f g h xs)

pub proposals_of_live : (m : Market) → IsWellFormed m → (l : Market) → l ≡ live_market m → (places : Places) (counts : ℕ → ℕ)
    → ((p : ℕ) → counts p ≡ proposals l places p)
    → map counts (below (length l.programs)) ≡ map (proposals m places) (below (length m.programs))
proposals_of_live m wf l e places counts h =
    let all : (p : ℕ) → counts p ≡ proposals m places p =
    λ p. h p ∙ ap (λ x. proposals x places p) e ∙ LiveAgrees.same_proposals (live_market_agrees_lem m wf) places p in
    map_same counts (proposals m places) all (below (length l.programs))
    ∙ ap (λ x. map (proposals m places) (below (length (Market.programs x)))) e
