-- The tables of some couples and of all else seen as the market with these couples.
use Rattle.std.proofs.Common.{◌≡◌, ℕ, ◌+◌, ◌<◌, ◌≤◌, ◌^◌, Bool, true, false, List, [], ◌∷◌, map, length, get_or, refl, ap, ap₂, sym, ◌∙◌, arith, subst, if◌then◌else◌}
use Rattle.std.specs.Prelude.{All}
use Rattle.std.proofs.lemmas.List.{length-map, get_or_default}
use Rattle.std.proofs.lemmas.List.FromFn.{get_or-range_with_len}
use Rattle.mt_terms.specs.Lists.{has, below}
use Rattle.mt_terms.specs.Market.{Market, Partners, Registered, program_of, couple_of, agent_of, applicants}
use Rattle.mt_terms.specs.Registration.Accepted.{IsRegistration}
use Rattle.mt_terms.specs.Text.{name_of}
use Rattle.mt_terms.proofs.BelowFacts.{length-map_below}
use Rattle.mt_terms.proofs.ListFacts.{has_item}
use Rattle.mt_market.specs.Tables.{programs_with, couples_with, registered_of, AreTables}
use Rattle.mt_market.specs.declared.tables.Tables.{Tables}
use Rattle.mt_order_laws.specs.Reordered.{reordered_registered, set_aside_registered, unless_aside, IsOrderOfSome}
use Rattle.mt_order_laws.proofs.FormedFacts.{agent_aside}
use Rattle.mt_order_laws.proofs.OrderLists.{length_below, same_map}
use Rattle.mt_order_laws.proofs.RegistrationFacts.{registration_in_any_order_lem, registration_aside_lem}
use Rattle.mt_reordered.specs.Copied.{quota_at, ranking_at, members_at, pairs_at, pairs_unless_aside, renumbered_agent, HaveAllButCouples}
use Rattle.mt_reordered.proofs.ColumnFacts.{by_number}
use Rattle.mt_reordered.proofs.PlaceFacts.{renumbered_is}

programs_by : (m : Market) (ks : List ℕ) → programs_with (map (quota_at m) ks) (map (ranking_at m) ks) ≡ map (program_of m) ks
programs_by m [] = refl
programs_by m (k ∷ ks) = ap (λ ps. program_of m k ∷ ps) (programs_by m ks)

couples_by : (m : Market) (ks : List ℕ) → couples_with (map (members_at m) ks) (map (pairs_at m) ks) ≡ map (couple_of m) ks
couples_by m [] = refl
couples_by m (k ∷ ks) = ap (λ cs. couple_of m k ∷ cs) (couples_by m ks)

with_pairs : (b : Bool) (x : Partners) → ◌≡◌ {A = Partners} (record { first = x.first; second = x.second; pairs = (if b then record x { pairs = [] } else x).pairs }) (if b then record x { pairs = [] } else x)
with_pairs true x = refl
with_pairs false x = refl

couples_aside_by : (m : Market) (aside ks : List ℕ) → couples_with (map (members_at m) ks) (map (pairs_unless_aside aside m) ks) ≡ map (unless_aside aside m) ks
couples_aside_by m aside [] = refl
couples_aside_by m aside (k ∷ ks) = ap₂ (λ (c : Partners) cs. c ∷ cs) (with_pairs (has aside k) (couple_of m k)) (couples_aside_by m aside ks)

-- Tables are those of a registration if they have its columns.
module _ (s : Registered) (t : Tables) (are : IsRegistration s) (seen : registered_of t ≡ s) where
  tables_of : length t.by_applicants.rankings ≡ length t.quotas.items → length t.by_programs.pairs ≡ length t.by_applicants.members.items
      → t.agents.items ≡ map (agent_of s.market) (below (applicants s.market)) → AreTables t
  tables_of rankings pairs agents = record {
    rankings = rankings;
    pairs = pairs;
    agents = agents ∙ ap (λ (x : Registered). map (agent_of x.market) (below (applicants x.market))) (sym seen);
    registration = subst IsRegistration (sym seen) are;
  }

module _ (r : Registered) (are : IsRegistration r) (t : Tables) (others : HaveAllButCouples r t) where
  programs_same : programs_with t.quotas.items t.by_applicants.rankings ≡ r.market.programs
  programs_same =
      ap₂ programs_with others.quotas others.rankings ∙ programs_by r.market (below (length r.market.programs))
      ∙ by_number (record { quota = 0; ranking = [] }) r.market.programs

  rankings_same : length t.by_applicants.rankings ≡ length t.quotas.items
  rankings_same =
      ap length others.rankings ∙ length-map_below (ranking_at r.market) (length r.market.programs)
      ∙ sym (length-map_below (quota_at r.market) (length r.market.programs)) ∙ sym (ap length others.quotas)

  -- the tables with these couples are seen as the market with them
  seen_as : (cs : List Partners) (ids : List (List ℕ)) → couples_with t.by_applicants.members.items t.by_programs.pairs ≡ cs → t.couple_ids ≡ ids
      → registered_of t ≡ record { market = record r.market { couples = cs }; names = record r.names { couples = ids } }
  seen_as cs ids couples names = λ i. record {
    market = record { programs = programs_same i; lists = others.lists i; couples = couples i };
    names = record { programs = others.program_ids i; applicants = others.applicant_ids i; couples = names i };
  }

  module _ (order : List ℕ) (o : IsOrderOfSome r.market order) (members : t.by_applicants.members.items ≡ map (members_at r.market) order)
      (pairs : t.by_programs.pairs ≡ map (pairs_at r.market) order) (ids : t.couple_ids ≡ map (name_of r.names.couples) order) where
    pub seen_reordered : registered_of t ≡ reordered_registered order r
    seen_reordered =
        seen_as (map (couple_of r.market) order) (map (name_of r.names.couples) order) (ap₂ couples_with members pairs ∙ couples_by r.market order) ids

    pub reordered_tables : t.agents.items ≡ map (renumbered_agent r.market order) (below (applicants r.market))
        → AreTables t
    reordered_tables agents =
        tables_of (reordered_registered order r) t (registration_in_any_order_lem r order are o) seen_reordered rankings_same
        (ap length pairs ∙ length-map order (pairs_at r.market) ∙ sym (length-map order (members_at r.market)) ∙ sym (ap length members))
        (agents ∙ same_map _ _ (below (applicants r.market)) (λ a on. renumbered_is r.market are.well_formed order o a))

  module _ (aside order : List ℕ) (all : order ≡ below (length r.market.couples)) (members : t.by_applicants.members.items ≡ map (members_at r.market) order)
      (pairs : t.by_programs.pairs ≡ map (pairs_unless_aside aside r.market) (below (length r.market.couples))) (ids : t.couple_ids ≡ map (name_of r.names.couples) order) where
    all_members : t.by_applicants.members.items ≡ map (members_at r.market) (below (length r.market.couples))
    all_members = members ∙ ap (map (members_at r.market)) all

    all_ids : t.couple_ids ≡ r.names.couples
    all_ids =
        ids ∙ ap (map (name_of r.names.couples)) all ∙ ap (λ n. map (name_of r.names.couples) (below n)) (sym are.couple_names.one_each)
        ∙ by_number [] r.names.couples

    pub seen_aside : registered_of t ≡ set_aside_registered aside r
    seen_aside =
        seen_as (map (unless_aside aside r.market) (below (length r.market.couples))) r.names.couples
        (ap₂ couples_with all_members pairs ∙ couples_aside_by r.market aside (below (length r.market.couples))) all_ids

    pub aside_tables : t.agents.items ≡ map (agent_of r.market) (below (applicants r.market)) → AreTables t
    aside_tables agents =
        tables_of (set_aside_registered aside r) t (registration_aside_lem r aside are) seen_aside rankings_same
        (ap length pairs ∙ length-map_below (pairs_unless_aside aside r.market) (length r.market.couples)
        ∙ sym (length-map_below (members_at r.market) (length r.market.couples)) ∙ sym (ap length all_members))
        (agents ∙ same_map _ _ (below (applicants r.market)) (λ a on. sym (agent_aside r.market are.well_formed aside a)))

-- an order isn't longer than what a file may have
pub order_short : (r : Registered) → IsRegistration r → (order : List ℕ) → IsOrderOfSome r.market order → length order < 2 ^ 32
order_short r are order o =
    let few : length (map (couple_of r.market) order) ≤ 10_000 = (registration_in_any_order_lem r order are o).few_couples in
    omega (arith, length-map order (couple_of r.market))

-- the couples of an order are couples of the market
pub order_within : (m : Market) (order : List ℕ) → IsOrderOfSome m order → All (λ c. c < length m.couples) order
order_within m order o = λ k d l.
    subst (λ c. c < length m.couples) (get_or_default order k 0 d l) (o.within (get_or order k 0) (has_item order k l))

-- and so are all couples
pub all_within : (n : ℕ) (order : List ℕ) → order ≡ below n → All (λ c. c < n) order
all_within n order is = subst (All (λ c. c < n)) (sym is) (λ k d l.
    let low : k < n = omega (arith, length_below n) in
    let at : get_or (below n) k d ≡ 0 + k = get_or-range_with_len 0 n k d low in
    omega (arith, at, low))
