-- The live market of a market. Other crates' proofs cite these lemmas.
use Rattle.std.proofs.Common.{◌≡◌, ℕ, ◌≤◌, [], filter, length, IsTrue, sym, ap, ◌∙◌, inl, inr, arith}
use Rattle.std.proofs.lemmas.Bool.{and_parts, cases_lt}
use Rattle.std.proofs.lemmas.List.{get_or_past}
use Rattle.mt_terms.specs.Lists.{has, is_distinct, total_below}
use Rattle.mt_terms.specs.Market.{Market, applicants, program_of, list_of, live, live_entries, live_market}
use Rattle.mt_terms.specs.WellFormed.{IsWellFormed}
use Rattle.mt_terms.proofs.BelowFacts.{length-map_below, map_below_at}
use Rattle.mt_terms.proofs.ListFacts.{has-filter, distinct-filter, filter-filter}
use Rattle.mt_terms.proofs.Totals.{total_below-same}

-- on a live list are the programs of the list that list the applicant
pub live_parts : (m : Market) (a p : ℕ) → IsTrue (has (live m a) p) → IsTrue (has (program_of m p).ranking a) × IsTrue (has (list_of m a) p)
live_parts m a p h = and_parts _ _ (sym (has-filter (λ q. has (program_of m q).ranking a) (list_of m a) p) ∙ h)

-- a live list has no repeats
pub live_distinct : (m : Market) → IsWellFormed m → (a : ℕ) → IsTrue (is_distinct (live m a))
live_distinct m wf a = distinct-filter (λ q. has (program_of m q).ranking a) (list_of m a) (wf.lists_distinct a)

-- a number that no applicant has wants nothing
pub live_past : (m : Market) (a : ℕ) → applicants m ≤ a → live m a ≡ []
live_past m a h = ap (filter (λ p. has (program_of m p).ranking a)) (get_or_past m.lists a [] h)

-- Below, m is a market, and what is said is said of its live market.
-- it has as many applicants
pub applicants-live_market : (m : Market) → applicants (live_market m) ≡ applicants m
applicants-live_market m = length-map_below (live m) (applicants m)

-- its lists are the live lists
pub list_of-live_market : (m : Market) (a : ℕ) → list_of (live_market m) a ≡ live m a
list_of-live_market m a = elim (cases_lt a (applicants m)) [
  | inl low ↦ map_below_at (live m) (applicants m) a [] low
  | inr high ↦
      get_or_past (live_market m).lists a [] (omega (arith, applicants-live_market m)) ∙ sym (live_past m a high)
]

-- and all that they name is live
pub live-live_market : (m : Market) (a : ℕ) → live (live_market m) a ≡ live m a
live-live_market m a = ap (filter (λ p. has (program_of m p).ranking a)) (list_of-live_market m a) ∙ filter-filter (λ p. has (program_of m p).ranking a) (list_of m a)

-- it has as many live entries
pub live_entries-live_market : (m : Market) → live_entries (live_market m) ≡ live_entries m
live_entries-live_market m =
    ap (total_below (λ a. length (live (live_market m) a))) (applicants-live_market m)
    ∙ total_below-same (λ a. length (live (live_market m) a)) (λ a. length (live m a)) (applicants m) (λ a low. ap length (live-live_market m a))

-- it is well formed if the market is
pub live_well_formed : (m : Market) → IsWellFormed m → IsWellFormed (live_market m)
live_well_formed m wf = record {
  lists_distinct = λ a. rw (list_of-live_market m a) (live_distinct m wf a);
  lists_within = λ a p on. wf.lists_within a p (live_parts m a p (ap (λ ps. has ps p) (sym (list_of-live_market m a)) ∙ on)).1;
  rankings_distinct = wf.rankings_distinct;
  rankings_within = λ p a on. rw (applicants-live_market m) (wf.rankings_within p a on);
  first_member = λ c low. absurd (omega arith);
  second_member = λ c low. absurd (omega arith);
  two_members = λ c low. absurd (omega arith);
}
