-- What the tables say before any event.
use Rattle.std.proofs.Common.{◌≡◌, ℕ, List, [], Bool, false, Option, Some, None, length, get_or, map, replicate, refl, sym, ap, ◌∙◌, inl, inr, arith}
use Rattle.std.specs.Option.{option_map_or}
use Rattle.std.proofs.lemmas.Bool.{cases_lt}
use Rattle.std.proofs.lemmas.List.{get_or-replicate, get_or_past, length-replicate}
use Rattle.mt_terms.specs.Lists.{below}
use Rattle.mt_terms.specs.Market.{Market, Program, program_of, applicants}
use Rattle.mt_terms.specs.Floor.{opening}
use Rattle.mt_terms.proofs.BelowFacts.{length-map_below, map_below_at}
use Rattle.mt_hold.specs.Holding.{Holding, has_received, opened}
use Rattle.mt_ranks.specs.Ranked.{rank_of}
use Rattle.mt_core.specs.Floors.{Tables, hold_of, floor_of, IsOpenedWith, opened_for, all_opened}
use Rattle.mt_core.proofs.FloorTables.{same_floor}

-- the tables of a market before any event
abbrev pub opened_tables : Market → Tables
opened_tables m = record { made = replicate (applicants m) 0; standing = replicate (applicants m) false; holds = all_opened m }

-- a list of one value has it everywhere, and as the default past its end
same_everywhere : {X : Type 0} (n k : ℕ) (x : X) → get_or (replicate n x) k x ≡ x
same_everywhere n k x =
    elim (cases_lt k n) [
      | inl low ↦ get_or-replicate n k x x low
      | inr high ↦ get_or_past (replicate n x) k x (omega (arith, length-replicate n x))
    ]

-- each program's holding is the one before it has received anybody
hold_is : (m : Market) (p : ℕ) → hold_of (opened_tables m) p ≡ opened_for m p
hold_is m p =
    elim (cases_lt p (length m.programs)) [
      | inl low ↦ map_below_at (opened_for m) (length m.programs) p (opened 0 0) low
      | inr high ↦
          get_or_past (map (opened_for m) (below (length m.programs))) p (opened 0 0) (omega (arith, length-map_below (opened_for m) (length m.programs)))
          ∙ ap (λ (q : Program). opened q.quota (length q.ranking)) (sym (get_or_past m.programs p (record { quota = 0; ranking = [] }) high))
    ]

pub tables_are_opened : (m : Market) → IsOpenedWith m (opened_tables m)
tables_are_opened m = record {
  made = length-replicate (applicants m) 0;
  standing = length-replicate (applicants m) false;
  holds = length-map_below (opened_for m) (length m.programs);
  quotas = λ p. ap Holding.quota (hold_is m p);
  lists = λ p. ap (λ (h : Holding). length h.received) (hold_is m p) ∙ length-replicate (length (program_of m p).ranking) false;
}

pub opened_floor : (m : Market) → floor_of m (opened_tables m) ≡ opening
unfolding floor_of
opened_floor m =
    same_floor (floor_of m (opened_tables m)) opening
    (λ a. same_everywhere (applicants m) a 0)
    (λ a. same_everywhere (applicants m) a false)
    (λ p a. ap (λ h. option_map_or (has_received h) (rank_of m p a) false) (hold_is m p) ∙ by_rank p (rank_of m p a))
  where
    by_rank : (p : ℕ) (o : Option ℕ) → option_map_or (has_received (opened_for m p)) o false ≡ false
    by_rank p None = refl
    by_rank p (Some k) = same_everywhere (length (program_of m p).ranking) k false

pub tables_from : (m : Market) {made : List ℕ} {standing : List Bool} {holds : List Holding} → made ≡ replicate (applicants m) 0 → standing ≡ replicate (applicants m) false
    → holds ≡ all_opened m → ◌≡◌ {A = Tables} (record { made = made; standing = standing; holds = holds }) (opened_tables m)
tables_from m {made} {standing} {holds} same_made same_standing same_holds =
    ap {B = Tables} (λ x. record { made = x; standing = standing; holds = holds }) same_made
    ∙ ap {B = Tables} (λ x. record { made = replicate (applicants m) 0; standing = x; holds = holds }) same_standing
    ∙ ap {B = Tables} (λ x. record { made = replicate (applicants m) 0; standing = replicate (applicants m) false; holds = x }) same_holds
