-- A market with another list of one applicant. A match that is stable by one list stays stable by another one that has
-- the applicant's place and nothing new above it. The rural hospitals theorem then excludes a gain.
use Rattle.std.proofs.Common.{◌≡◌, ◌≢◌, ◌⊎◌, ℕ, ◌<◌, Bool, true, false, ◌==◌, List, [], ◌∷◌, ◌++◌, Option, None, Some, is_some, IsTrue, IsFalse, refl, ap, sym, ◌∙◌, subst, inl, inr, arith, eq-eqb, eqb-true, if◌then◌else◌}
use Rattle.std.proofs.lemmas.Bool.{cases_Bool, cases_eq, both_ways, false_from_ne_true, or_left, or_cases}
use Rattle.std.proofs.lemmas.List.{get_or-set_same, get_or-set_other, length-set, set-get_or}
use Rattle.mt_terms.specs.Lists.{has, until, is_distinct}
use Rattle.mt_terms.specs.Market.{Market, applicants, couple_of, list_of, singles_market}
use Rattle.mt_terms.specs.Matching.{Places, at, place_of, is_program}
use Rattle.mt_terms.specs.Stability.{stable}
use Rattle.mt_terms.specs.Best.{IsBest, better_programs}
use Rattle.mt_terms.specs.WellFormed.{IsMember, IsWellFormed}
use Rattle.mt_stability_laws.proofs.ListLemmas.{has-until, until_nobody, passes_before}
use Rattle.mt_stability_laws.proofs.SinglesFacts.{IsStableForSingles, stable_facts, stable_from_facts}
use Rattle.mt_stability_laws.proofs.ExclusionLemmas.{lt_of_there, best_is_at_least_lem, best_is_unique_lem}
use Rattle.mt_floor_laws.proofs.FloorRuns.{best_exists_lem}
use Rattle.mt_floor_laws.proofs.RuralLemmas.{place_at, somewhere, singles_fill_alike}
use Rattle.mt_applicant_laws.specs.Changes.{with_list}
use Rattle.mt_applicant_laws.specs.Laws.{NoneGainsByAnotherList, NoStableMatchGivesMore, LongerListKeepsBest}
use Rattle.mt_applicant_laws.proofs.Fronts.{has_front, distinct_front, until_in_front, until_longer, until_above, IsCutBelow, cut_below}

-- with the list that it has, the market is the market
pub with_own_list : (m : Market) (a : ℕ) → with_list m a (list_of m a) ≡ m
with_own_list m a = ap (λ (lists : List (List ℕ)). record m { lists = lists }) (set-get_or m.lists a [])

-- there are as many applicants
pub applicants-with_list : (m : Market) (a : ℕ) (list : List ℕ) → applicants (with_list m a list) ≡ applicants m
applicants-with_list m a list = length-set m.lists a list

-- the applicant has this list, and each other one its own
pub list_of-with_list : (m : Market) (a : ℕ) (list : List ℕ) → a < applicants m → list_of (with_list m a list) a ≡ list
list_of-with_list m a list a_in = get_or-set_same m.lists a list [] a_in

pub list_of-with_list_other : (m : Market) (a : ℕ) (list : List ℕ) (b : ℕ) → b ≢ a → list_of (with_list m a list) b ≡ list_of m b
list_of-with_list_other m a list b other = get_or-set_other m.lists a b list [] other

-- a list on which nothing is, is empty
nil_if_none : (xs : List ℕ) → ((p : ℕ) → IsTrue (has xs p) → ⊥) → xs ≡ []
nil_if_none [] none = refl
nil_if_none (x ∷ xs) none = absurd (none x (or_left _ _ (eq-eqb x x refl)))

-- if the other list has nothing new, no list has
pub nothing_new : (m : Market) (a : ℕ) (list : List ℕ) → a < applicants m → ((p : ℕ) → IsTrue (has list p) → IsTrue (has (list_of m a) p))
    → (b p : ℕ) → IsTrue (has (list_of (with_list m a list) b) p) → IsTrue (has (list_of m b) p)
nothing_new m a list a_in known b p on = elim (cases_eq b a) [
  | inl same ↦
      let here : IsTrue (has list p) = ap (λ ps. has ps p) (sym (list_of-with_list m a list a_in) ∙ ap (list_of (with_list m a list)) (sym same)) ∙ on in
      ap (λ c. has (list_of m c) p) same ∙ known p here
  | inr other ↦ ap (λ ps. has ps p) (sym (list_of-with_list_other m a list b other)) ∙ on
]

-- a market stays well formed with another list that has no repeats and nothing new
pub with_list_well_formed : (m : Market) → IsWellFormed m → (a : ℕ) (list : List ℕ) → a < applicants m → IsTrue (is_distinct list)
    → ((p : ℕ) → IsTrue (has list p) → IsTrue (has (list_of m a) p)) → IsWellFormed (with_list m a list)
with_list_well_formed m w a list a_in distinct known = record {
  lists_distinct = λ b. elim (cases_eq b a) [
    | inl same ↦ ap is_distinct (ap (list_of (with_list m a list)) same ∙ list_of-with_list m a list a_in) ∙ distinct
    | inr other ↦ ap is_distinct (list_of-with_list_other m a list b other) ∙ w.lists_distinct b
  ];
  lists_within = λ b p on. w.lists_within b p (nothing_new m a list a_in known b p on);
  rankings_distinct = w.rankings_distinct;
  rankings_within = λ p b on. rw (applicants-with_list m a list) (w.rankings_within p b on);
  first_member = λ c c_in. member c (couple_of m c).first (w.first_member c c_in);
  second_member = λ c c_in. member c (couple_of m c).second (w.second_member c c_in);
  two_members = w.two_members;
}
  where
    member : (c b : ℕ) → IsMember m c b → IsMember (with_list m a list) c b
    member c b is = record {
      within = rw (applicants-with_list m a list) is.within;
      no_list = nil_if_none (list_of (with_list m a list) b)
          (λ p on. both_ways false refl (ap (λ ps. has ps p) (sym is.no_list) ∙ nothing_new m a list a_in known b p on));
      belongs = is.belongs;
    }

-- What another list of an applicant needs so that a match that is stable by the first list stays stable: its place, and
-- nothing new above that.
pub record KeepsStable (places : Places) (a : ℕ) (xs ys : List ℕ) : Type 0 where
  pub place_on : (p : ℕ) → IsTrue (at places p a) → IsTrue (has ys p)
  pub none_new : (p : ℕ) → IsTrue (has (until (λ q. at places q a) ys) p) → IsTrue (has (until (λ q. at places q a) xs) p)

pub stable_by_other_list : (m : Market) (a : ℕ) (xs ys : List ℕ) (places : Places) → a < applicants m → KeepsStable places a xs ys
    → IsTrue (stable (singles_market (with_list m a xs)) places) → IsTrue (stable (singles_market (with_list m a ys)) places)
stable_by_other_list m a xs ys places a_in keeps is = stable_from_facts (with_list m a ys) places (record {
  one_each = s.one_each ∙ applicants-with_list m a xs ∙ sym (applicants-with_list m a ys);
  on_list = on_list;
  listed = s.listed;
  within = s.within;
  none_block = λ b p better. s.none_block b p (better_before b p better);
})
  where
    s : IsStableForSingles (with_list m a xs) places
    s = stable_facts (with_list m a xs) places is

    same_other : (b : ℕ) → b ≢ a → list_of (with_list m a ys) b ≡ list_of (with_list m a xs) b
    same_other b other = list_of-with_list_other m a ys b other ∙ sym (list_of-with_list_other m a xs b other)

    on_list : (b p : ℕ) → IsTrue (at places p b) → IsTrue (has (list_of (with_list m a ys) b) p)
    on_list b p there = elim (cases_eq b a) [
      | inl same ↦
          ap (λ ps. has ps p) (ap (list_of (with_list m a ys)) same ∙ list_of-with_list m a ys a_in)
          ∙ keeps.place_on p (ap (at places p) (sym same) ∙ there)
      | inr other ↦ ap (λ ps. has ps p) (same_other b other) ∙ s.on_list b p there
    ]

    of_it : (p : ℕ) → IsTrue (has (better_programs (with_list m a ys) places a) p) → IsTrue (has (better_programs (with_list m a xs) places a) p)
    of_it p better =
        ap (λ ps. has (until (λ q. at places q a) ps) p) (list_of-with_list m a xs a_in)
        ∙ keeps.none_new p (ap (λ ps. has (until (λ q. at places q a) ps) p) (sym (list_of-with_list m a ys a_in)) ∙ better)

    better_before : (b p : ℕ) → IsTrue (has (better_programs (with_list m a ys) places b) p) → IsTrue (has (better_programs (with_list m a xs) places b) p)
    better_before b p better = elim (cases_eq b a) [
      | inl same ↦
          ap (λ c. has (better_programs (with_list m a xs) places c) p) same
          ∙ of_it p (ap (λ c. has (better_programs (with_list m a ys) places c) p) (sym same) ∙ better)
      | inr other ↦ ap (λ ps. has (until (λ q. at places q b) ps) p) (sym (same_other b other)) ∙ better
    ]

-- who is at two programs is at one
one_place : (places : Places) (a p q : ℕ) → IsTrue (at places p a) → IsTrue (at places q a) → q ≡ p
one_place places a p q at_p at_q = same (sym (place_at places q a at_q) ∙ place_at places p a at_p)
  where
    same : Some q ≡ Some p → q ≡ p
    same e = cc

-- who is unplaced is nowhere
nowhere : (places : Places) (a : ℕ) → IsFalse (is_some (place_of places a)) → (p : ℕ) → IsFalse (at places p a)
nowhere places a unplaced p = false_from_ne_true _ (λ there. both_ways _ unplaced (ap is_some (place_at places p a there)))

-- who is unplaced wants all of a list more
until_unplaced : (places : Places) (a : ℕ) (xs : List ℕ) → IsFalse (is_some (place_of places a)) → until (λ q. at places q a) xs ≡ xs
until_unplaced places a xs unplaced = of_place (place_of places a) unplaced
  where
    of_place : (o : Option ℕ) → IsFalse (is_some o) → until (λ q. is_program q o) xs ≡ xs
    of_place None h = until_nobody xs
    of_place (Some q) h = absurd (both_ways true h refl)

-- a list of one program has no other
only_it : (p q : ℕ) → IsTrue (has (p ∷ []) q) → p ≡ q
only_it p q on = elim (or_cases (p == q) false on) [ inl same ↦ eqb-true p q same | inr none ↦ absurd (both_ways false refl none) ]

-- a match that is stable by the front of an applicant's list, and places the applicant, is stable by the whole list
stable_by_longer : (m : Market) (a : ℕ) (front back : List ℕ) (places : Places) (p : ℕ) → a < applicants m → IsTrue (at places p a)
    → IsTrue (stable (singles_market (with_list m a front)) places) → IsTrue (stable (singles_market (with_list m a (front ++ back))) places)
stable_by_longer m a front back places p a_in there is = stable_by_other_list m a front (front ++ back) places a_in (record {
  place_on = λ q at_q. has_front front back q (on q at_q);
  none_new = λ q before. ap (λ ps. has ps q) (sym (until_in_front (λ x. at places x a) front back p (on p there) there)) ∙ before;
}) is
  where
    on : (q : ℕ) → IsTrue (at places q a) → IsTrue (has front q)
    on q at_q = ap (λ ps. has ps q) (sym (list_of-with_list m a front a_in)) ∙ (stable_facts (with_list m a front) places is).on_list a q at_q

-- a match that is stable by the whole list, and has the applicant's place on the front, is stable by the front
stable_by_shorter : (m : Market) (a : ℕ) (front back : List ℕ) (places : Places) (p : ℕ) → a < applicants m → IsTrue (at places p a) → IsTrue (has front p)
    → IsTrue (stable (singles_market (with_list m a (front ++ back))) places) → IsTrue (stable (singles_market (with_list m a front)) places)
stable_by_shorter m a front back places p a_in there on = stable_by_other_list m a (front ++ back) front places a_in (record {
  place_on = λ q at_q. ap (has front) (one_place places a p q there at_q) ∙ on;
  none_new = λ q before. until_longer (λ x. at places x a) front back q before;
})

-- Below, a match is stable by another list of an applicant, and gives it a program p of its own list.
module _ (m : Market) (w : IsWellFormed m) (a p : ℕ) (list : List ℕ) (other : Places) (is_other : IsTrue (stable (singles_market (with_list m a list)) other))
    (there : IsTrue (at other p a)) (on : IsTrue (has (list_of m a) p)) where
  a_in : a < applicants m
  a_in = omega (arith, lt_of_there other a p there, (stable_facts (with_list m a list) other is_other).one_each, applicants-with_list m a list)

  -- it is stable if the applicant lists p alone
  stable_alone : IsTrue (stable (singles_market (with_list m a (p ∷ []))) other)
  stable_alone = stable_by_other_list m a list (p ∷ []) other a_in (record {
    place_on = λ q at_q. or_left _ _ (eq-eqb p q (sym (one_place other a p q there at_q)));
    none_new = λ q before. absurd (both_ways false refl (ap (λ (b : Bool). has (if b then [] else (p ∷ [])) q) (sym there) ∙ before));
  }) is_other

  alone_well_formed : IsWellFormed (with_list m a (p ∷ []))
  alone_well_formed = with_list_well_formed m w a (p ∷ []) a_in refl (λ q only. ap (has (list_of m a)) (sym (only_it p q only)) ∙ on)

  -- so no match that leaves the applicant unplaced is stable by its own list cut below p
  placed_if_cut : (front back : List ℕ) → IsCutBelow (list_of m a) p front back → (places : Places)
      → IsTrue (stable (singles_market (with_list m a front)) places) → IsFalse (is_some (place_of places a)) → ⊥
  placed_if_cut front back cut places is unplaced =
      let also : IsTrue (stable (singles_market (with_list m a (p ∷ []))) places) = stable_by_other_list m a front (p ∷ []) places a_in (record {
        place_on = λ q at_q. absurd (both_ways _ (nowhere places a unplaced q) at_q);
        none_new = λ q before.
            ap (λ ps. has ps q) (until_unplaced places a front unplaced)
            ∙ ap (has front) (sym (only_it p q (has-until (λ x. at places x a) (p ∷ []) q before))) ∙ cut.has_it;
      }) is in
      both_ways _ unplaced
      (sym ((singles_fill_alike (with_list m a (p ∷ [])) alone_well_formed other places stable_alone also).same_placed a) ∙ ap is_some (place_at other p a there))

  -- if p is better than the applicant's place in the best match, none that places it is stable by the cut list: it would
  -- be stable by the whole list, and have the applicant at p or above
  unplaced_if_cut : (best : Places) → IsBest m best → IsTrue (has (better_programs m best a) p) → (front back : List ℕ) → IsCutBelow (list_of m a) p front back
      → (places : Places) → IsTrue (stable (singles_market (with_list m a front)) places) → (q : ℕ) → IsTrue (at places q a) → ⊥
  unplaced_if_cut best is_best better front back cut places is q at_q =
      let on_front : IsTrue (has front q) =
      ap (λ ps. has ps q) (sym (list_of-with_list m a front a_in)) ∙ (stable_facts (with_list m a front) places is).on_list a q at_q in
      let by_all : IsTrue (stable (singles_market m) places) =
      subst (λ (k : Market). IsTrue (stable (singles_market k) places)) (ap (with_list m a) (sym cut.joined) ∙ with_own_list m a)
      (stable_by_longer m a front back places q a_in at_q is) in
      let better_q : IsTrue (has (better_programs m best a) q) = elim (cut.above_it q on_front) [
        | inl same ↦ ap (has (better_programs m best a)) same ∙ better
        | inr above ↦ until_above (λ x. at best x a) (list_of m a) p q better above
      ] in
      both_ways (at places q a) (is_best.none_better a q better_q places by_all) at_q

  -- but some match is stable by the cut list
  never_better : (best : Places) → IsBest m best → IsTrue (has (better_programs m best a) p) → (front back : List ℕ) → IsCutBelow (list_of m a) p front back → ⊥
  never_better best is_best better front back cut = neither (best_exists_lem (with_list m a front) well_formed)
    where
      well_formed : IsWellFormed (with_list m a front)
      well_formed =
          with_list_well_formed m w a front a_in (distinct_front front back (ap is_distinct (sym cut.joined) ∙ w.lists_distinct a))
          (λ q on_front. ap (λ ps. has ps q) cut.joined ∙ has_front front back q on_front)

      neither : (n : Places) × IsBest (with_list m a front) n → ⊥
      neither (n, best_n) = elim (cases_Bool (is_some (place_of n a))) [
        | inl placed ↦ (let (q, at_q) = somewhere n a placed in unplaced_if_cut best is_best better front back cut n best_n.is_stable q at_q)
        | inr unplaced ↦ placed_if_cut front back cut n best_n.is_stable unplaced
      ]

-- no match that is stable with another list gives the applicant more
pub no_stable_match_gives_more_lem : NoStableMatchGivesMore
no_stable_match_gives_more_lem m a list w best other is_best is_other p there = false_from_ne_true _ (λ better.
    let on = has-until (λ q. at best q a) (list_of m a) p better in
    let (front, back, cut) = cut_below (list_of m a) p on in
    never_better m w a p list other is_other there on best is_best better front back cut)

-- so no applicant gains by another list
pub none_gains_by_another_list_lem : NoneGainsByAnotherList
none_gains_by_another_list_lem m a list w best other is_best is_other = no_stable_match_gives_more_lem m a list w best other is_best is_other.is_stable

-- Two markets have one best match if that of each is stable in the other one, and an applicant that wants more in the
-- first wants it in the second.
same_best : (m k : Market) (b n : Places) → IsBest m b → IsBest k n → IsTrue (stable (singles_market k) b) → IsTrue (stable (singles_market m) n)
    → ((a q : ℕ) → IsTrue (has (better_programs m n a) q) → IsTrue (has (better_programs k n a) q)) → b ≡ n
same_best m k b n best_b best_n b_in_k n_in_m wanted = best_is_unique_lem m b n best_b (record { is_stable = n_in_m; none_better = none_better })
  where
    none_better : (a q : ℕ) → IsTrue (has (better_programs m n a) q) → (s : Places) → IsTrue (stable (singles_market m) s) → IsFalse (at s q a)
    none_better a q better s s_stable = false_from_ne_true _ λ there. by_best (cases_Bool (at b q a)) there
      where
        by_best : (IsTrue (at b q a)) ⊎ (IsFalse (at b q a)) → IsTrue (at s q a) → ⊥
        by_best (inl at_q) there = both_ways _ (best_n.none_better a q (wanted a q better) b b_in_k) at_q
        by_best (inr not_q) there =
            let (r, at_r, above) = passes_before (λ r. at b r a) (list_of m a) q ((stable_facts m s s_stable).on_list a q there)
            (best_is_at_least_lem m b s best_b s_stable a q there) not_q in
            both_ways _ (best_n.none_better a r (wanted a r (until_above (λ x. at n x a) (list_of m a) q r better above)) b b_in_k) at_r

-- programs at the end of the list of an applicant that is placed change nothing
pub longer_list_keeps_best_lem : LongerListKeepsBest
longer_list_keeps_best_lem m a more w_more best is_best placed = subst (λ (n : Places). IsBest k n) (sym same) is_next
  where
    k : Market
    k = with_list m a (list_of m a ++ more)

    next : Places
    next = (best_exists_lem k w_more).0

    is_next : IsBest k next
    is_next = (best_exists_lem k w_more).1

    place : (p : ℕ) × IsTrue (at best p a)
    place = somewhere best a placed

    a_in : a < applicants m
    a_in = omega (arith, lt_of_there best a place.0 place.1, (stable_facts m best is_best.is_stable).one_each)

    on_list : IsTrue (has (list_of m a) place.0)
    on_list = (stable_facts m best is_best.is_stable).on_list a place.0 place.1

    in_longer : IsTrue (stable (singles_market k) best)
    in_longer =
        stable_by_longer m a (list_of m a) more best place.0 a_in place.1
        (subst (λ (n : Market). IsTrue (stable (singles_market n) best)) (sym (with_own_list m a)) is_best.is_stable)

    -- in the match that is best by the longer list, the applicant's place is on its old list too
    next_place : (q : ℕ) × IsTrue (at next q a) × IsTrue (has (list_of m a) q)
    next_place = elim (cases_Bool (at next place.0 a)) [
      | inl there ↦ (place.0, there, on_list)
      | inr elsewhere ↦
          let (q, at_q, above) = passes_before (λ x. at next x a) (list_of m a ++ more) place.0 (has_front (list_of m a) more place.0 on_list)
          (ap (λ ps. has (until (λ x. at next x a) ps) place.0) (sym (list_of-with_list m a (list_of m a ++ more) a_in))
          ∙ best_is_at_least_lem k next best is_next in_longer a place.0 place.1) elsewhere in (
            q,
            at_q,
            has-until (λ x. x == place.0) (list_of m a) q
                (ap (λ ps. has ps q) (sym (until_in_front (λ x. x == place.0) (list_of m a) more place.0 on_list (eq-eqb place.0 place.0 refl))) ∙ above),
          )
    ]

    in_shorter : IsTrue (stable (singles_market m) next)
    in_shorter =
        subst (λ (n : Market). IsTrue (stable (singles_market n) next)) (with_own_list m a)
        (stable_by_shorter m a (list_of m a) more next next_place.0 a_in next_place.1 next_place.2 is_next.is_stable)

    same : best ≡ next
    same = same_best m k best next is_best is_next in_longer in_shorter (λ b q better. elim (cases_eq b a) [
      | inl is_a ↦
          ap (λ c. has (better_programs k next c) q) is_a
          ∙ ap (λ ps. has (until (λ x. at next x a) ps) q) (list_of-with_list m a (list_of m a ++ more) a_in)
          ∙ until_longer (λ x. at next x a) (list_of m a) more q (ap (λ c. has (better_programs m next c) q) (sym is_a) ∙ better)
      | inr other ↦ ap (λ ps. has (until (λ x. at next x b) ps) q) (list_of-with_list_other m a (list_of m a ++ more) b other) ∙ better
    ])
