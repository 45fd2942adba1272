-- What the market of an accepted file says of its lists and of a match.
use Rattle.std.proofs.Common.{◌≡◌, ℕ, ◌<◌, ◌≤◌, Bool, true, false, ◌&&◌, List, [], length, IsTrue, IsFalse, refl, ap, sym, ◌∙◌, arith, Option, Some, None, eq-eqb, eqb-true, subst, map, get_or}
use Rattle.std.proofs.lemmas.Bool.{both_ways}
use Rattle.std.proofs.lemmas.List.{get_or-map, length-map}
use Rattle.std.proofs.lemmas.List.Sums.{get_or-le-sum_by}
use Rattle.std.specs.Global.{Global}
use Rattle.std.specs.Prelude.{Vec}
use Rattle.mt_terms.specs.Registration.Accepted.{IsRegistration}
use Rattle.mt_terms.specs.Lists.{has, below, count_below}
use Rattle.mt_terms.specs.Market.{Market, Program, Partners, Registered, applicants, program_of, list_of, couple_of}
use Rattle.mt_terms.specs.Matching.{Places, place_of, at, filled, is_program, placed_ranks}
use Rattle.mt_terms.proofs.BelowFacts.{length-map_below, map_below_at}
use Rattle.mt_stability_laws.proofs.Seats.{filled_by_applicant, listed_count}
use Rattle.mt_terms.specs.Places.{ArePlaces}
use Rattle.mt_terms.specs.Stability.{is_listed}
use Rattle.mt_terms.specs.Verdict.{is_unlisted}
use Rattle.mt_terms.specs.WellFormed.{IsWellFormed}
use Rattle.mt_terms.proofs.Totals.{count_below-same}
use Rattle.mt_verdict_laws.proofs.VerdictLemmas.{allowed_parts}
use Rattle.mt_verify.proofs.PlacedFacts.{length-ranks_from}

-- Below, the market is that of an accepted file. Its lists are no longer than all of them together.
pub few_ranked : (r : Registered) → IsRegistration r → (p : ℕ) → p < length r.market.programs → length (program_of r.market p).ranking ≤ 8000000
few_ranked r h p within = omega (arith, h.few_entries, get_or-le-sum_by (λ (x : Program). length x.ranking) r.market.programs p (record { quota = 0; ranking = [] }) within)

pub few_listed : (r : Registered) → IsRegistration r → (a : ℕ) → a < applicants r.market → length (list_of r.market a) ≤ 8000000
few_listed r h a within = omega (arith, h.few_entries, get_or-le-sum_by (length {A = ℕ}) r.market.lists a [] within)

pub few_pairs : (r : Registered) → IsRegistration r → (c : ℕ) → c < length r.market.couples → length (couple_of r.market c).pairs ≤ 8000000
few_pairs r h c within =
    omega (arith, h.few_entries, get_or-le-sum_by (λ (x : Partners). length x.pairs) r.market.couples c (record { first = 0; second = 0; pairs = [] }) within)

-- if an applicant's place was read, it is there
pub at_place : (places : Places) (a p : ℕ) (place : Option ℕ) → place ≡ place_of places a → place ≡ Some p → IsTrue (at places p a)
at_place places a p place read is = ap (is_program p) (sym read ∙ is) ∙ eq-eqb p p refl

-- who is at a program is on its list, if its place is allowed
listed_there : (m : Market) (a p : ℕ) (place : Option ℕ) → IsTrue (is_listed m a place) → IsTrue (is_program p place) → IsTrue (has (program_of m p).ranking a)
listed_there m a p None listed there = absurd (both_ways false refl there)
listed_there m a p (Some q) listed there = subst (λ (r : ℕ). IsTrue (has (program_of m r).ranking a)) (eqb-true q p there) listed

-- if all places are allowed, as many are placed at a program as are placed on its list
pub filled_ranks : (m : Market) (places : Places) → IsWellFormed m → ArePlaces m places → ((a : ℕ) → a < applicants m → IsFalse (is_unlisted m places a))
    → (p : ℕ) → length (placed_ranks m places p) ≡ filled places p
filled_ranks m places formed are listed p =
    length-ranks_from 0 (at places p) (program_of m p).ranking
    ∙ listed_count (at places p) (program_of m p).ranking (applicants m) (formed.rankings_distinct p) (formed.rankings_within p)
    ∙ count_below-same (λ a. has (program_of m p).ranking a && at places p a) (at places p) (applicants m) (λ a a_in.
    both_or_none (has (program_of m p).ranking a) (at places p a) (listed_there m a p (place_of places a) (allowed_parts m places a (listed a a_in)).0))
    ∙ sym (filled_by_applicant places p ∙ ap (count_below (at places p)) are.one_each)
  where
    both_or_none : (x y : Bool) → (IsTrue y → IsTrue x) → (x && y) ≡ y
    both_or_none true y h = refl
    both_or_none false true h = h refl
    both_or_none false false h = refl

-- Below, a vector for each program holds the ranks of those that are placed there.
module _ (m : Market) (places : Places) (vectors : List (Vec ℕ Global)) (hold : map Vec.items vectors ≡ map (placed_ranks m places) (below (length m.programs))) where
  pub length_of_placed : length vectors ≡ length m.programs
  length_of_placed = sym (length-map vectors Vec.items) ∙ ap length hold ∙ length-map_below (placed_ranks m places) (length m.programs)

  pub placed_at : (p k : ℕ) (v : Vec ℕ Global) → v ≡ get_or vectors k v → k ≡ p → p < length m.programs → v.items ≡ placed_ranks m places p
  placed_at p k v read same within =
      let inside : k < length vectors = omega (arith, length_of_placed) in
      ap Vec.items read ∙ sym (get_or-map Vec.items vectors k v [] inside) ∙ ap (λ xss. get_or xss k []) hold
      ∙ ap (λ i. get_or (map (placed_ranks m places) (below (length m.programs))) i []) same
      ∙ map_below_at (placed_ranks m places) (length m.programs) p [] within
