-- The singles' market with live lists alone has the stable matches of the market.
use Rattle.std.proofs.Common.{◌≡◌, ℕ, ◌&&◌, Bool, true, false, List, [], ◌∷◌, filter, IsTrue, refl, sym, ap, ◌∙◌, inl, inr, arith}
use Rattle.std.proofs.lemmas.Bool.{both_ways, cases_Bool, and_left, false_from_ne_true}
use Rattle.std.proofs.lemmas.Bool.Decides.{nat_tests}
use Rattle.mt_terms.specs.Lists.{Set, has, until, through, count_below}
use Rattle.mt_terms.specs.Market.{Market, applicants, program_of, list_of, singles_market, live_market}
use Rattle.mt_terms.specs.Matching.{Places, at}
use Rattle.mt_terms.specs.Stability.{stable}
use Rattle.mt_terms.specs.Best.{IsExcluded, IsBest, better_programs, proposed_to, proposals}
use Rattle.mt_floor_laws.specs.Live.{LiveMarketAgrees}
use Rattle.mt_terms.proofs.Totals.{count_below-same}
use Rattle.mt_stability_laws.proofs.SinglesFacts.{stable_facts, stable_from_facts}
use Rattle.mt_terms.proofs.ListFacts.{has-filter}
use Rattle.mt_terms.proofs.LiveFacts.{live_parts, applicants-live_market, list_of-live_market, live-live_market, live_entries-live_market, live_well_formed}
use Rattle.mt_floor_laws.proofs.FloorLists.{has-until-filter}

-- the front of a filtered list has just what passes of the list's front, if the front ends at what passes
until-filter_back : (test kept : Set) (xs : List ℕ) (q : ℕ) → ((x : ℕ) → IsTrue (test x) → IsTrue (kept x)) → IsTrue (has (until test (filter kept xs)) q) → IsTrue (has (until test xs) q)
until-filter_back test kept [] q passes before = before
until-filter_back test kept (x ∷ xs) q passes before = grind (arith, nat_tests, until-filter_back test kept xs q passes, passes x)

-- what a single wants more than its place in the live market, it wants more in the market
better_if_live : (m : Market) (places : Places) (a p : ℕ) → ((q : ℕ) → IsTrue (at places q a) → IsTrue (has (program_of m q).ranking a))
    → IsTrue (has (better_programs (live_market m) places a) p) → IsTrue (has (better_programs m places a) p)
better_if_live m places a p listed on =
    until-filter_back (λ q. at places q a) (λ q. has (program_of m q).ranking a) (list_of m a) p listed
    (ap (λ xs. has (until (λ q. at places q a) xs) p) (sym (list_of-live_market m a)) ∙ on)

-- and what it wants more in the market it wants more in the live market, if the program lists it
live_if_better : (m : Market) (places : Places) (a p : ℕ) → IsTrue (has (program_of m p).ranking a)
    → IsTrue (has (better_programs m places a) p) → IsTrue (has (better_programs (live_market m) places a) p)
live_if_better m places a p listed on =
    ap (λ xs. has (until (λ q. at places q a) xs) p) (list_of-live_market m a)
    ∙ has-until-filter (λ q. at places q a) (λ q. has (program_of m q).ranking a) (list_of m a) p on listed

-- a match that is stable in one is stable in the other
stable_in_live : (m : Market) (places : Places) → IsTrue (stable (singles_market m) places) → IsTrue (stable (singles_market (live_market m)) places)
stable_in_live m places is =
    let s = stable_facts m places is in
    stable_from_facts (live_market m) places (record {
      one_each = s.one_each ∙ sym (applicants-live_market m);
      on_list = λ a p there.
          ap (λ xs. has xs p) (list_of-live_market m a) ∙ has-filter (λ q. has (program_of m q).ranking a) (list_of m a) p
          ∙ ap (λ b. b && has (list_of m a) p) (s.listed a p there) ∙ s.on_list a p there;
      listed = s.listed;
      within = s.within;
      none_block = λ a p better. s.none_block a p (better_if_live m places a p (s.listed a) better);
    })

stable_from_live : (m : Market) (places : Places) → IsTrue (stable (singles_market (live_market m)) places) → IsTrue (stable (singles_market m) places)
stable_from_live m places is =
    let s = stable_facts (live_market m) places is in
    stable_from_facts m places (record {
      one_each = s.one_each ∙ applicants-live_market m;
      on_list = λ a p there. (live_parts m a p (ap (λ xs. has xs p) (sym (list_of-live_market m a)) ∙ s.on_list a p there)).1;
      listed = s.listed;
      within = s.within;
      none_block = λ a p better. elim (cases_Bool (has (program_of m p).ranking a)) [
        | inl listed ↦ s.none_block a p (live_if_better m places a p listed better)
        | inr unlisted ↦ and_left _ _ (and_left _ _ unlisted)
      ];
    })

same_tests : (x y : Bool) → (IsTrue x → IsTrue y) → (IsTrue y → IsTrue x) → x ≡ y
same_tests true y there back = sym (there refl)
same_tests false true there back = back refl
same_tests false false there back = refl

-- so the same is excluded
excluded_there : (m : Market) (a p : ℕ) → IsExcluded (live_market m) a p → IsExcluded m a p
excluded_there m a p out places is = out places (stable_in_live m places is)

excluded_here : (m : Market) (a p : ℕ) → IsExcluded m a p → IsExcluded (live_market m) a p
excluded_here m a p out places is = out places (stable_from_live m places is)

-- and the same match is best
best_there : (m : Market) (places : Places) → IsBest (live_market m) places → IsBest m places
best_there m places best = record {
  is_stable = stable_from_live m places best.is_stable;
  none_better = λ a p better. elim (cases_Bool (has (program_of m p).ranking a)) [
    | inl listed ↦ excluded_there m a p (best.none_better a p (live_if_better m places a p listed better))
    | inr unlisted ↦ (λ other is. false_from_ne_true _ (λ there. both_ways _ unlisted ((stable_facts m other is).listed a p there)))
  ];
}

best_here : (m : Market) (places : Places) → IsBest m places → IsBest (live_market m) places
best_here m places best = record {
  is_stable = stable_in_live m places best.is_stable;
  none_better = λ a p better. excluded_here m a p (best.none_better a p (better_if_live m places a p ((stable_facts m places best.is_stable).listed a) better));
}

-- on the way to a match a single proposes to the same programs
same_proposed : (m : Market) (places : Places) (a : ℕ) → proposed_to (live_market m) places a ≡ proposed_to m places a
same_proposed m places a = ap (through (λ p. at places p a)) (live-live_market m a)

same_numbers : (m : Market) (places : Places) (p : ℕ) → proposals (live_market m) places p ≡ proposals m places p
same_numbers m places p =
    ap (count_below (λ a. has (proposed_to (live_market m) places a) p)) (applicants-live_market m)
    ∙ count_below-same (λ a. has (proposed_to (live_market m) places a) p) (λ a. has (proposed_to m places a) p) (applicants m) (λ a low. ap (λ ps. has ps p) (same_proposed m places a))

-- the live market of a well-formed market agrees with it
pub live_market_agrees_lem : LiveMarketAgrees
live_market_agrees_lem m wf = record {
  well_formed = live_well_formed m wf;
  same_applicants = applicants-live_market m;
  same_live = live-live_market m;
  same_entries = live_entries-live_market m;
  same_stable = λ places. same_tests _ _ (stable_from_live m places) (stable_in_live m places);
  same_excluded = λ a p. (excluded_there m a p, excluded_here m a p);
  same_best = λ places. (best_there m places, best_here m places);
  same_proposals = same_numbers m;
}
