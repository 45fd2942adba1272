-- The test of a well-formed market, and the facts that it stands for.
use Rattle.std.proofs.Common.{◌≡◌, ℕ, zero, suc, ◌<◌, Bool, false, not, ◌&&◌, ◌==◌, nat_lt, List, [], ◌∷◌, length, IsTrue, refl, ap, sym, ◌∙◌, get_or, eqb-true, eq-eqb, ne_eqb, ltb-true, lt-ltb}
use Rattle.std.specs.List.{list_all}
use Rattle.std.proofs.lemmas.Bool.{and_parts, and_from, eqb-false, both_ways, not-true, not_from_false}
use Rattle.mt_terms.specs.Lists.{has, below, is_distinct}
use Rattle.mt_terms.specs.Market.{Market, Program, applicants, program_of, list_of, couple_of, agent_of}
use Rattle.mt_terms.specs.WellFormed.{IsMember, IsWellFormed, is_list_within, is_empty, is_couple, has_member, has_two_members, is_well_formed}
use Rattle.mt_stability_laws.specs.Singles.{WellFormedTest}
use Rattle.mt_terms.specs.declared.numbers.Agent.{Agent}
use Rattle.mt_terms.specs.declared.numbers.Agent.TheVariants.{Single, Couple}
use Rattle.mt_stability_laws.proofs.ListLemmas.{all_below, each_below, each_has, all_from_has}

-- what holds of each element that passes, and past the end of the default, holds at each index
all_at : {X : Type 0} (test : X → Bool) (xs : List X) (k : ℕ) (d : X) → IsTrue (list_all test xs) → IsTrue (test d) → IsTrue (test (get_or xs k d))
all_at test [] k d all at_default = at_default
all_at test (x ∷ xs) zero d all at_default = (and_parts (test x) (list_all test xs) all).0
all_at test (x ∷ xs) (suc k) d all at_default = all_at test xs k d (and_parts (test x) (list_all test xs) all).1 at_default

-- all elements pass if each does at its index
all_from_indexes : {X : Type 0} (test : X → Bool) (xs : List X) (d : X) → ((k : ℕ) → IsTrue (test (get_or xs k d))) → IsTrue (list_all test xs)
all_from_indexes test [] d h = refl
all_from_indexes test (x ∷ xs) d h = and_from _ _ (h 0) (all_from_indexes test xs d (λ k. h (suc k)))

-- what the test of a list without repeats, of numbers below n, says
list_within_parts : (n : ℕ) (xs : List ℕ) → IsTrue (is_list_within n xs) → IsTrue (is_distinct xs) × ((a : ℕ) → IsTrue (has xs a) → a < n)
list_within_parts n xs h =
    let parts = and_parts (is_distinct xs) (list_all (λ x. nat_lt x n) xs) h in
    (parts.0, (λ a on. ltb-true a n (each_has (λ x. nat_lt x n) xs a parts.1 on)))

-- such a list passes the test
list_within_from : (n : ℕ) (xs : List ℕ) → IsTrue (is_distinct xs) → ((a : ℕ) → IsTrue (has xs a) → a < n) → IsTrue (is_list_within n xs)
list_within_from n xs distinct within = and_from _ _ distinct (all_from_has (λ x. nat_lt x n) xs (λ a on. lt-ltb a n (within a on)))

-- a list that passes the test is empty
nil_from_is_empty : (xs : List ℕ) → IsTrue (is_empty xs) → xs ≡ []
nil_from_is_empty [] h = refl
nil_from_is_empty (x ∷ xs) h = absurd (both_ways false refl h)

-- an agent that passes the test is the couple
couple_from_is_couple : (c : ℕ) (g : Agent) → IsTrue (is_couple c g) → g ≡ Couple c
couple_from_is_couple c (Single a) h = absurd (both_ways false refl h)
couple_from_is_couple c (Couple d) h = ap Couple (sym (eqb-true c d h))

-- what the test of a couple's member says
member_facts : (m : Market) (c a : ℕ) → IsTrue (has_member m c a) → IsMember m c a
member_facts m c a h =
    let parts = and_parts (nat_lt a (applicants m) && is_empty (list_of m a)) (is_couple c (agent_of m a)) h in
    let first = and_parts (nat_lt a (applicants m)) (is_empty (list_of m a)) parts.0 in
    record {
      within = ltb-true _ _ first.0;
      no_list = nil_from_is_empty (list_of m a) first.1;
      belongs = couple_from_is_couple c (agent_of m a) parts.1;
    }

-- a couple's member passes the test
member_from_facts : (m : Market) (c a : ℕ) → IsMember m c a → IsTrue (has_member m c a)
member_from_facts m c a h =
    and_from _ _ (and_from _ _ (lt-ltb _ _ h.within) (ap is_empty h.no_list)) (ap (is_couple c) h.belongs ∙ eq-eqb c c refl)

-- a market that passes the test is well formed
pub well_formed_from_test : (m : Market) → IsTrue (is_well_formed m) → IsWellFormed m
well_formed_from_test m h = record {
  lists_distinct = λ a. (on_lists a).0;
  lists_within = λ a. (on_lists a).1;
  rankings_distinct = λ p. (on_rankings p).0;
  rankings_within = λ p. (on_rankings p).1;
  first_member = λ c c_in. member_facts m c (couple_of m c).first (on_couples c c_in).0;
  second_member = λ c c_in. member_facts m c (couple_of m c).second (on_couples c c_in).1;
  two_members = λ c c_in. eqb-false _ _ (not-true _ (on_couples c c_in).2);
}
  where
    parts : IsTrue (list_all (λ p. is_list_within (applicants m) (Program.ranking p)) m.programs && list_all (is_list_within (length m.programs)) m.lists)
        × IsTrue (list_all (has_two_members m) (below (length m.couples)))
    parts = and_parts _ (list_all (has_two_members m) (below (length m.couples))) h

    lists : IsTrue (list_all (λ p. is_list_within (applicants m) (Program.ranking p)) m.programs) × IsTrue (list_all (is_list_within (length m.programs)) m.lists)
    lists = and_parts _ (list_all (is_list_within (length m.programs)) m.lists) parts.0

    on_lists : (a : ℕ) → IsTrue (is_distinct (list_of m a)) × ((p : ℕ) → IsTrue (has (list_of m a) p) → p < length m.programs)
    on_lists a = list_within_parts (length m.programs) (list_of m a) (all_at (is_list_within (length m.programs)) m.lists a [] lists.1 refl)

    on_rankings : (p : ℕ) → IsTrue (is_distinct (program_of m p).ranking) × ((a : ℕ) → IsTrue (has (program_of m p).ranking a) → a < applicants m)
    on_rankings p = list_within_parts (applicants m) (program_of m p).ranking
        (all_at (λ q. is_list_within (applicants m) (Program.ranking q)) m.programs p (record { quota = 0; ranking = [] }) lists.0 refl)

    on_couples : (c : ℕ) → c < length m.couples
        → IsTrue (has_member m c (couple_of m c).first) × IsTrue (has_member m c (couple_of m c).second) × IsTrue (not ((couple_of m c).first == (couple_of m c).second))
    on_couples c c_in =
        let both = each_below (has_two_members m) (length m.couples) parts.1 c c_in in
        let last = and_parts (has_member m c (couple_of m c).first && has_member m c (couple_of m c).second) (not ((couple_of m c).first == (couple_of m c).second)) both in
        let first = and_parts (has_member m c (couple_of m c).first) (has_member m c (couple_of m c).second) last.0 in
        (first.0, first.1, last.1)

-- a well-formed market passes the test
pub test_from_well_formed : (m : Market) → IsWellFormed m → IsTrue (is_well_formed m)
test_from_well_formed m h =
    and_from _ _
    (and_from _ _
    (all_from_indexes (λ p. is_list_within (applicants m) (Program.ranking p)) m.programs (record { quota = 0; ranking = [] })
    (λ p. list_within_from (applicants m) (program_of m p).ranking (h.rankings_distinct p) (h.rankings_within p)))
    (all_from_indexes (is_list_within (length m.programs)) m.lists []
    (λ a. list_within_from (length m.programs) (list_of m a) (h.lists_distinct a) (h.lists_within a))))
    (all_below (has_two_members m) (length m.couples) (λ c c_in.
    and_from _ _
    (and_from _ _ (member_from_facts m c (couple_of m c).first (h.first_member c c_in)) (member_from_facts m c (couple_of m c).second (h.second_member c c_in)))
    (not_from_false _ (ne_eqb _ _ (h.two_members c c_in)))))

-- the test tests just that
pub well_formed_test_lem : WellFormedTest
well_formed_test_lem m = (well_formed_from_test m, test_from_well_formed m)
