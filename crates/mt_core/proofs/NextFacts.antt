-- A proposal that is due can be made.
use Rattle.std.proofs.Common.{◌≡◌, ◌==◌, ℕ, zero, suc, List, [], ◌∷◌, map, get_or, sym, ◌-◌, ◌<◌, length, Bool, true, false, cond, Option, Some, None, IsTrue, IsFalse, slice_get, take, ne_eqb, refl, ap, ◌∙◌, arith, subst}
use Rattle.std.proofs.lemmas.Bool.Decides.{nat_tests}
use Rattle.std.proofs.lemmas.Option.{slice_get-map}
use Rattle.std.specs.Option.{option_map, unwrap_or}
use Rattle.mt_terms.specs.Lists.{has}
use Rattle.mt_terms.specs.Market.{Market, list_of, live}
use Rattle.mt_terms.specs.Floor.{Floor, IsRecorded, next_entry, last_proposed_to}
use Rattle.mt_floor_laws.proofs.FloorLists.{has-get, has-take-suc, has-take_before}
use Rattle.mt_floor_laws.proofs.FloorEvents.{IsNext, next_facts, within_get, get_some}
use Rattle.mt_terms.proofs.LiveFacts.{live_parts, live_distinct}
use Rattle.mt_floor_laws.proofs.FloorBest.{applicant_from_live}
use Rattle.mt_ranks.specs.Ranked.{Ranked, IsRanked, rank_of, ranked_entry, ranked_list}
use Rattle.mt_ranks.specs.declared.entries.Live.{Live}
use Rattle.mt_ranks.proofs.LiveMarket.{live_few}
use Rattle.mt_core.specs.Entries.{next_in}
use Rattle.mt_core.specs.Floors.{Tables, floor_of}
use Rattle.mt_core.proofs.FloorTables.{CanEnter}

-- an entry of a live list can be proposed to
pub entry_can_enter : (r : Ranked) → IsRanked r → (a p : ℕ) → IsTrue (has (live r.market a) p) → CanEnter r.market a p (unwrap_or (rank_of r.market p a) 0)
entry_can_enter r is a p on =
    let entry = is.all_ranked a p (live_parts r.market a p on).1 in
    record { applicant = applicant_from_live r.market a p on; program = entry.program; distinct = is.well_formed.rankings_distinct p; is_rank = entry.rank }

-- The next entry of an applicant's live list, which it can propose to and hasn't proposed to yet.
pub record IsFirstTime (m : Market) (f : Floor) (a p r : ℕ) : Type 0 where
  pub next : IsNext m f a p
  pub can : CanEnter m a p r
  pub not_received : IsFalse (f.received p a)
  pub few : f.made a < 20000

pub first_time_facts : (r : Ranked) → IsRanked r → (f : Floor) → IsRecorded r.market f → (a p : ℕ) → next_entry r.market f a ≡ Some p
    → IsFirstTime r.market f a p (unwrap_or (rank_of r.market p a) 0)
first_time_facts r is f recorded a p e =
    let n = next_facts r.market f a p e in
    record {
      next = n;
      can = entry_can_enter r is a p (has-get (live r.market a) (f.made a) p n.next);
      not_received = recorded.receives a p ∙ has-take_before (live r.market a) (f.made a) p (live_distinct r.market is.well_formed a) n.next;
      few = omega (arith, within_get (live r.market a) (f.made a) p n.next, live_few r is a);
    }

-- what an entry that is there tells of the program that it is of
pub entry_facts : (m : Market) (a : ℕ) (o : Option ℕ) (entry : Live) → option_map (ranked_entry m a) o ≡ Some entry
    → (o ≡ Some entry.program) × (unwrap_or (rank_of m entry.program a) 0 ≡ entry.rank)
entry_facts m a None entry e = cc
entry_facts m a (Some p) entry e = subst (λ (x : Live). (Some p ≡ Some x.program) × (unwrap_or (rank_of m x.program a) 0 ≡ x.rank)) (inj e) (refl, refl)
  where
    inj : {x y : Live} → Some x ≡ Some y → x ≡ y
    inj h = cc

-- an element of a list's image, if the list has one
get_or-map_some : {X : Type 0} (f : ℕ → X) (xs : List ℕ) (k p : ℕ) (d : X) → slice_get xs k ≡ Some p → get_or (map f xs) k d ≡ f p
get_or-map_some f [] k p d e = cc
get_or-map_some f (x ∷ xs) zero p d e = ap f (inj e)
  where
    inj : {x y : ℕ} → Some x ≡ Some y → x ≡ y
    inj h = cc
get_or-map_some f (x ∷ xs) (suc k) p d e = get_or-map_some f xs k p d e

-- the entry at a place of a live list can be proposed to
pub entry_there : (r : Ranked) → IsRanked r → (a k : ℕ) (entry d : Live) → k < length (live r.market a) → entry ≡ get_or (ranked_list r.market a) k d
    → (slice_get (live r.market a) k ≡ Some entry.program) × CanEnter r.market a entry.program entry.rank
entry_there r is a k entry d low e =
    let m = r.market in
    let found = get_some (live m a) k low in
    let listed : slice_get (list_of m a) k ≡ Some found.0 = ap (λ xs. slice_get xs k) (sym (is.all_live a)) ∙ found.1 in
    let same : entry ≡ ranked_entry m a found.0 = e ∙ get_or-map_some (ranked_entry m a) (list_of m a) k found.0 d listed in
    subst (λ (x : Live). (slice_get (live m a) k ≡ Some x.program) × CanEnter m a x.program x.rank) (sym same)
    (found.1, entry_can_enter r is a found.0 (has-get (live m a) k found.0 found.1))

-- the same of the next entry
pub next_entry_facts : (r : Ranked) → IsRanked r → (f : Floor) → IsRecorded r.market f → (a : ℕ) (entry : Live)
    → option_map (ranked_entry r.market a) (next_entry r.market f a) ≡ Some entry → (next_entry r.market f a ≡ Some entry.program) × IsFirstTime r.market f a entry.program entry.rank
next_entry_facts r is f recorded a entry e =
    let facts = entry_facts r.market a (next_entry r.market f a) entry e in
    (facts.0, subst (λ (n : ℕ). IsFirstTime r.market f a entry.program n) facts.1 (first_time_facts r is f recorded a entry.program facts.0))

-- the next entry of a live list is that of the program which the applicant would propose to next
pub next_by_list : (r : Ranked) → IsRanked r → (t : Tables) (list : List Live) (a : ℕ) → list ≡ ranked_list r.market a
    → next_in r.market t list a ≡ option_map (ranked_entry r.market a) (next_entry r.market (floor_of r.market t) a)
next_by_list r is t list a on =
    let m = r.market in
    let k = (floor_of m t).made a in
    by ((floor_of m t).standing a) (slice_get list k) (slice_get (live m a) k)
    (ap (λ xs. slice_get xs k) on ∙ slice_get-map (ranked_entry m a) (list_of m a) k ∙ ap (λ xs. option_map (ranked_entry m a) (slice_get xs k)) (sym (is.all_live a)))
  where
    by : (b : Bool) (o : Option Live) (p : Option ℕ) → o ≡ option_map (ranked_entry r.market a) p
        → cond b None o ≡ option_map (ranked_entry r.market a) (cond b None p)
    by true o p e = refl
    by false o p e = e

-- the program that an applicant proposed to last is on its live list
pub last_on_live : (m : Market) (f : Floor) (a p : ℕ) → last_proposed_to m f a ≡ Some p → IsTrue (has (live m a) p)
last_on_live m f a p e = by_test (f.made a == 0) e
  where
    by_test : (b : Bool) → cond b None (slice_get (live m a) (f.made a - 1)) ≡ Some p → IsTrue (has (live m a) p)
    by_test true h = absurd (none_some h)
      where
        none_some : None ≡ Some p → ⊥
        none_some k = cc
    by_test false h = has-get (live m a) (f.made a - 1) p h

-- the program that an applicant proposed to last is one of those that it proposed to
pub last_is_tried : (m : Market) (f : Floor) (a p : ℕ) → last_proposed_to m f a ≡ Some p → IsTrue (has (take (f.made a) (live m a)) p)
last_is_tried m f a p e = by_made (f.made a) e
  where
    by_made : (n : ℕ) → cond (n == 0) None (slice_get (live m a) (n - 1)) ≡ Some p → IsTrue (has (take n (live m a)) p)
    by_made zero h = absurd (none_some h)
      where
        none_some : None ≡ Some p → ⊥
        none_some k = cc
    by_made (suc k) h =
        let less : suc k - 1 ≡ k = omega arith in
        let some : cond (suc k == 0) None (slice_get (live m a) (suc k - 1)) ≡ slice_get (live m a) (suc k - 1) = rw (ne_eqb (suc k) 0 (omega arith)) refl in
        let last : slice_get (live m a) k ≡ Some p = ap (slice_get (live m a)) (sym less) ∙ sym some ∙ h in
        grind (arith, nat_tests, has-take-suc (live m a) k p p last)

-- the same of the last entry
pub last_entry_facts : (r : Ranked) → IsRanked r → (f : Floor) (a : ℕ) (entry : Live)
    → option_map (ranked_entry r.market a) (last_proposed_to r.market f a) ≡ Some entry → (last_proposed_to r.market f a ≡ Some entry.program) × CanEnter r.market a entry.program entry.rank
last_entry_facts r is f a entry e =
    let facts = entry_facts r.market a (last_proposed_to r.market f a) entry e in
    (facts.0, subst (λ (n : ℕ). CanEnter r.market a entry.program n) facts.1 (entry_can_enter r is a entry.program (last_on_live r.market f a entry.program facts.0)))

-- there is no entry if there is no program
pub no_entry : (m : Market) (a : ℕ) (o : Option ℕ) → option_map (ranked_entry m a) o ≡ None → o ≡ None
no_entry m a None e = refl
no_entry m a (Some p) e = absurd (some_none e)
  where
    some_none : {x : Live} → Some x ≡ None → ⊥
    some_none k = cc
