-- A market that is easier for the applicants: it has no fewer posts, and lists that are cut short. By induction on the
-- events of deferred acceptance, an applicant that is refused in it is excluded there in the harder market.
use Rattle.std.proofs.Common.{◌≡◌, ◌≢◌, ◌⊎◌, ℕ, ◌<◌, ◌≤◌, false, ◌==◌, List, [], ◌∷◌, ◌++◌, length, filter, get_or, IsTrue, IsFalse, refl, ap, sym, ◌∙◌, subst, inl, inr, arith, eq-eqb, eqb-true, ne_eqb}
use Rattle.std.proofs.lemmas.Bool.{cases_Bool, cases_eq, cases_lt, both_ways, false_from_ne_true, or_cases}
use Rattle.std.proofs.lemmas.Bool.Decides.{nat_tests}
use Rattle.std.proofs.lemmas.List.{get_or-set_same, get_or-set_other, length-set, set_past}
use Rattle.mt_terms.specs.Lists.{Set, has, until, above, is_distinct}
use Rattle.mt_terms.specs.Market.{Market, Program, applicants, program_of, couple_of, list_of, live}
use Rattle.mt_terms.specs.Matching.{Places, at}
use Rattle.mt_terms.specs.Choice.{choice}
use Rattle.mt_terms.specs.Best.{IsExcluded, IsBest, better_programs}
use Rattle.mt_terms.specs.WellFormed.{IsMember, IsWellFormed}
use Rattle.mt_terms.specs.Floor.{Floor, held_set, passed_programs, IsStrict, is_due, is_quiet, opening, after, after_all, proposed_at, receives_one, result_of}
use Rattle.mt_terms.specs.declared.events.Event.{Event}
use Rattle.mt_terms.proofs.ListFacts.{has-from_take}
use Rattle.mt_terms.proofs.LiveFacts.{live_parts}
use Rattle.mt_stability_laws.proofs.ListLemmas.{has-until, until-filter}
use Rattle.mt_stability_laws.proofs.ChoiceLemmas.{choice_facts, choice_from_facts}
use Rattle.mt_stability_laws.proofs.SinglesFacts.{stable_facts}
use Rattle.mt_stability_laws.proofs.ExclusionLemmas.{exclusion_lem, best_is_unique_lem, best_is_at_least_lem}
use Rattle.mt_floor_laws.proofs.FloorLists.{has-until-take, has-until-get, has-get}
use Rattle.mt_floor_laws.proofs.FloorEvents.{IsNext, tried_from_passed, tried_from_received, passed_from_front, passed_where_free, after_due, after_not_due, event_keeps_strict_lem, events_keep_strict_lem}
use Rattle.mt_floor_laws.proofs.FloorRuns.{quiet_is_reached_lem, opening_is_strict_lem, result_of_is_result}
use Rattle.mt_floor_laws.proofs.FloorBest.{strict_best_lem, passed_from_better}
use Rattle.mt_applicant_laws.specs.Changes.{with_list, with_quota, HasAtLeast}
use Rattle.mt_applicant_laws.specs.Laws.{MorePostsHurtNone, ShorterListHurtsNoOther, OneLessHurtsNoOther}
use Rattle.mt_applicant_laws.proofs.Fronts.{has_front, distinct_front, until_in_front}
use Rattle.mt_applicant_laws.proofs.ListChanges.{list_of-with_list, list_of-with_list_other, nothing_new, with_list_well_formed}

-- A market is easier than another one if it has the same programs with no fewer posts, and each applicant's list has
-- only what it had, with all that was above.
pub record IsEasier (m k : Market) : Type 0 where
  pub same_rankings : (p : ℕ) → (program_of k p).ranking ≡ (program_of m p).ranking
  pub more_posts : (p : ℕ) → (program_of m p).quota ≤ (program_of k p).quota
  pub on_list : (a p : ℕ) → IsTrue (has (list_of k a) p) → IsTrue (has (list_of m a) p)
  pub same_above : (a p q : ℕ) → IsTrue (has (list_of k a) p) → IsTrue (has (until (λ x. x == p) (list_of m a)) q) → IsTrue (has (until (λ x. x == p) (list_of k a)) q)

-- a program with no fewer posts chooses whom it chose
chosen_with_more : (p q : Program) → q.ranking ≡ p.ranking → p.quota ≤ q.quota → (set : Set) (a : ℕ) → IsTrue (choice p set a) → IsTrue (choice q set a)
chosen_with_more p q same more set a chosen =
    let facts = choice_facts p set a chosen in
    let few = facts.has_few_above in
    choice_from_facts q set a (record {
      is_listed = ap (λ xs. has xs a) same ∙ facts.is_listed;
      is_member = facts.is_member;
      has_few_above = omega (arith, ap (λ xs. above set xs a) same, few);
    })

-- what is above an element of a filtered list is above it on the list
above_unfiltered : (kept : Set) (xs : List ℕ) (p q : ℕ) → IsTrue (kept p) → IsTrue (has (until (λ x. x == p) (filter kept xs)) q) → IsTrue (has (until (λ x. x == p) xs) q)
above_unfiltered kept [] p q keeps before = before
above_unfiltered kept (x ∷ xs) p q keeps before = grind (arith, nat_tests, above_unfiltered kept xs p q)

-- An applicant that a program of the easier market has received and doesn't hold is excluded there in the harder one.
pub record RefusedAreExcluded (m k : Market) (f : Floor) : Type 0 where
  pub refused : (a p : ℕ) → IsTrue (f.received p a) → IsFalse (held_set k f p a) → IsExcluded m a p

-- Below, k is an easier market than m, and f a strict floor of k on which this is so.
module _ (m k : Market) (w : IsWellFormed m) (easier : IsEasier m k) (f : Floor) (strict : IsStrict k f) (shown : RefusedAreExcluded m k f) where
  -- what an applicant has passed is excluded
  passed_out : (a q : ℕ) → IsTrue (has (passed_programs k f a) q) → IsExcluded m a q
  passed_out a q past = shown.refused a q (strict.legal.recorded.receives a q ∙ tried_from_passed k f a q past) (strict.let_go a q past)

  -- what is above a live entry was above it
  live_above : (a p q : ℕ) → IsTrue (has (live k a) p) → IsTrue (has (until (λ x. x == p) (live m a)) q) → IsTrue (has (until (λ x. x == p) (live k a)) q)
  live_above a p q on before =
      let parts = live_parts k a p on in
      let listed_p : IsTrue (has (program_of m p).ranking a) = ap (λ xs. has xs a) (sym (easier.same_rankings p)) ∙ parts.0 in
      let listed_q : IsTrue (has (program_of k q).ranking a) = ap (λ xs. has xs a) (easier.same_rankings q) ∙ (live_parts m a q (has-until (λ x. x == p) (live m a) q before)).0 in
      until-filter (λ r. has (program_of k r).ranking a) (list_of k a) p q
      (easier.same_above a p q parts.1 (above_unfiltered (λ r. has (program_of m r).ranking a) (list_of m a) p q listed_p before)) listed_q

  -- a proposal keeps it so
  module _ (a p : ℕ) (n : IsNext k f a p) where
    on_lists : (b : ℕ) → IsTrue (receives_one f p a b) → IsTrue (has (live k b) p)
    on_lists b on = elim (or_cases (b == a) (f.received p b) on) [
      | inl same ↦ ap (λ c. has (live k c) p) (eqb-true b a same) ∙ has-get (live k a) (f.made a) p n.next
      | inr before ↦ has-from_take (live k b) (f.made b) p (tried_from_received k f strict.legal.recorded b p before)
    ]

    above_out : (q : ℕ) → IsTrue (has (until (λ x. x == p) (live m a)) q) → IsExcluded m a q
    above_out q before =
        passed_out a q
        (ap (λ ps. has ps q) (passed_where_free k f a n.free)
        ∙ has-until-get (λ x. x == p) (live k a) (f.made a) p q n.next (eq-eqb p p refl) (live_above a p q (has-get (live k a) (f.made a) p n.next) before))

    all_above_out : (b q : ℕ) → IsTrue (receives_one f p a b) → IsTrue (has (until (λ x. x == p) (live m b)) q) → IsExcluded m b q
    all_above_out b q on before = elim (or_cases (b == a) (f.received p b) on) [
      | inl same ↦ subst (λ (c : ℕ). IsTrue (has (until (λ x. x == p) (live m c)) q) → IsExcluded m c q) (sym (eqb-true b a same)) (above_out q) before
      | inr earlier ↦
          passed_out b q (passed_from_front k f b q (has-until-take (live k b) (f.made b) p q (tried_from_received k f strict.legal.recorded b p earlier) (live_above b p q (on_lists b on) before)))
    ]

    refused_there : (b : ℕ) → IsTrue (receives_one f p a b) → IsFalse (choice (program_of k p) (receives_one f p a) b) → IsExcluded m b p
    refused_there b on out =
        exclusion_lem m w p (receives_one f p a) (λ c on_c. easier.on_list c p (live_parts k c p (on_lists c on_c)).1) all_above_out b on
        (false_from_ne_true _ (λ chosen. both_ways _ out (chosen_with_more (program_of m p) (program_of k p) (easier.same_rankings p) (easier.more_posts p) (receives_one f p a) b chosen)))

    received_there : (proposed_at k f a p).received p ≡ receives_one f p a
    received_there = rw (eq-eqb p p refl) refl

    received_elsewhere : (q : ℕ) → q ≢ p → (proposed_at k f a p).received q ≡ f.received q
    received_elsewhere q other = rw (ne_eqb q p other) refl

    shown_after_proposal : RefusedAreExcluded m k (proposed_at k f a p)
    shown_after_proposal = record {
      refused = λ b q on out. elim (cases_eq q p) [
        | inl there ↦
            subst (λ (x : ℕ). IsTrue ((proposed_at k f a p).received x b) → IsFalse (held_set k (proposed_at k f a p) x b) → IsExcluded m b x) (sym there)
            (λ on_p out_p.
            refused_there b (ap (λ (set : Set). set b) (sym received_there) ∙ on_p) (ap (λ (set : Set). choice (program_of k p) set b) (sym received_there) ∙ out_p))
            on out
        | inr other ↦
            shown.refused b q (ap (λ (set : Set). set b) (sym (received_elsewhere q other)) ∙ on)
            (ap (λ (set : Set). choice (program_of k q) set b) (sym (received_elsewhere q other)) ∙ out)
      ];
    }

  -- so does each event: a notice changes nobody's holding
  shown_after_event : (e : Event) → RefusedAreExcluded m k (after k f e)
  shown_after_event e = elim (cases_Bool (is_due k f e)) [
    | inl due ↦ after_due k (λ g. RefusedAreExcluded m k g) f strict.legal.recorded shown_after_proposal (λ a j p dropped. record { refused = shown.refused }) e due
    | inr not_due ↦ subst (λ g. RefusedAreExcluded m k g) (sym (after_not_due k f e not_due)) shown
  ]

-- and so do events in a row
shown_after_all : (m k : Market) → IsWellFormed m → IsWellFormed k → IsEasier m k → (f : Floor) → IsStrict k f → RefusedAreExcluded m k f
    → (es : List Event) → RefusedAreExcluded m k (after_all k f es)
shown_after_all m k w w_k easier f strict shown [] = shown
shown_after_all m k w w_k easier f strict shown (e ∷ es) =
    shown_after_all m k w w_k easier (after k f e) (event_keeps_strict_lem k w_k f e strict) (shown_after_event m k w easier f strict shown e) es

-- An applicant whose list is the same in an easier market has at least as much in its best match.
pub easier_gives_at_least : (m k : Market) → IsWellFormed m → IsWellFormed k → IsEasier m k → (best more : Places) → IsBest m best → IsBest k more
    → (a : ℕ) → list_of k a ≡ list_of m a → HasAtLeast m a more best
easier_gives_at_least m k w w_k easier best more is_best is_more a same p there = false_from_ne_true _ (λ better.
    both_ways _ (passed_out m k w easier f strict shown a p (past better) best is_best.is_stable) there)
  where
    start : IsStrict k opening
    start = opening_is_strict_lem k

    run : (es : List Event) × IsTrue (is_quiet k (after_all k opening es))
    run = quiet_is_reached_lem k opening start.legal.recorded

    f : Floor
    f = after_all k opening run.0

    strict : IsStrict k f
    strict = events_keep_strict_lem k w_k opening run.0 start

    shown : RefusedAreExcluded m k f
    shown = shown_after_all m k w w_k easier opening start (record { refused = λ b q on. absurd (both_ways false refl on) }) run.0

    is_result : more ≡ result_of k f
    is_result = best_is_unique_lem k more (result_of k f) is_more (strict_best_lem k w_k f strict run.1 (result_of k f) (result_of_is_result k f))

    listed : IsTrue (has (program_of k p).ranking a)
    listed = ap (λ xs. has xs a) (easier.same_rankings p) ∙ (stable_facts m best is_best.is_stable).listed a p there

    past : IsTrue (has (better_programs m more a) p) → IsTrue (has (passed_programs k f a) p)
    past better =
        passed_from_better k f strict.legal.recorded run.1 (result_of k f) (result_of_is_result k f) a p listed
        (ap (λ places. has (better_programs k places a) p) (sym is_result) ∙ ap (λ ps. has (until (λ q. at more q a) ps) p) same ∙ better)

-- the program has this quota, and each other one is as it was
program_of-with_quota : (m : Market) (p quota q : ℕ)
    → (program_of (with_quota m p quota) q ≡ program_of m q) ⊎ ((q ≡ p) × (program_of (with_quota m p quota) q ≡ record (program_of m p) { quota = quota }))
program_of-with_quota m p quota q = elim (cases_eq q p) [
  | inl same ↦ elim (cases_lt p (length m.programs)) [
    | inl low ↦ inr (same, ap (program_of (with_quota m p quota)) same ∙ get_or-set_same m.programs p (record (program_of m p) { quota = quota }) _ low)
    | inr high ↦ inl (ap (λ (ps : List Program). get_or ps q (record { quota = 0; ranking = [] })) (set_past m.programs p (record (program_of m p) { quota = quota }) high))
  ]
  | inr other ↦ inl (get_or-set_other m.programs p q (record (program_of m p) { quota = quota }) _ other)
]

-- it lists whom it listed
same_ranking : (m : Market) (p quota q : ℕ) → (program_of (with_quota m p quota) q).ranking ≡ (program_of m q).ranking
same_ranking m p quota q = elim (program_of-with_quota m p quota q) [
  | inl same ↦ ap (λ (x : Program). x.ranking) same
  | inr there ↦ ap (λ (x : Program). x.ranking) there.1 ∙ ap (λ (x : ℕ). (program_of m x).ranking) (sym there.0)
]

more_posts_easier : (m : Market) (p quota : ℕ) → (program_of m p).quota ≤ quota → IsEasier m (with_quota m p quota)
more_posts_easier m p quota no_fewer = record {
  same_rankings = same_ranking m p quota;
  more_posts = λ q. elim (program_of-with_quota m p quota q) [
    | inl same ↦ omega (arith, ap (λ (x : Program). x.quota) same)
    | inr there ↦ omega (arith, no_fewer, ap (λ (x : Program). x.quota) there.1, ap (λ (x : ℕ). (program_of m x).quota) there.0)
  ];
  on_list = λ a q on. on;
  same_above = λ a q r on before. before;
}

more_posts_well_formed : (m : Market) → IsWellFormed m → (p quota : ℕ) → IsWellFormed (with_quota m p quota)
more_posts_well_formed m w p quota = record {
  lists_distinct = w.lists_distinct;
  lists_within = λ a q on. omega (arith, w.lists_within a q on, length-set m.programs p (record (program_of m p) { quota = quota }));
  rankings_distinct = λ q. ap is_distinct (same_ranking m p quota q) ∙ w.rankings_distinct q;
  rankings_within = λ q a on. w.rankings_within q a (ap (λ xs. has xs a) (sym (same_ranking m p quota q)) ∙ on);
  first_member = λ c c_in. member c (couple_of m c).first (w.first_member c c_in);
  second_member = λ c c_in. member c (couple_of m c).second (w.second_member c c_in);
  two_members = w.two_members;
}
  where
    member : (c a : ℕ) → IsMember m c a → IsMember (with_quota m p quota) c a
    member c a is = record { within = is.within; no_list = is.no_list; belongs = is.belongs }

-- more posts hurt nobody
pub more_posts_hurt_none_lem : MorePostsHurtNone
more_posts_hurt_none_lem m p quota w no_fewer best more is_best is_more a =
    easier_gives_at_least m (with_quota m p quota) w (more_posts_well_formed m w p quota) (more_posts_easier m p quota no_fewer) best more is_best is_more a refl

-- a market is easier if an applicant's list is cut short
shorter_easier : (m : Market) (a : ℕ) (front back : List ℕ) → a < applicants m → list_of m a ≡ front ++ back → IsEasier m (with_list m a front)
shorter_easier m a front back a_in cut = record {
  same_rankings = λ p. refl;
  more_posts = λ p. omega arith;
  on_list = nothing_new m a front a_in (λ p on. ap (λ ps. has ps p) cut ∙ has_front front back p on);
  same_above = same_above;
}
  where
    of_it : (p q : ℕ) → IsTrue (has (list_of (with_list m a front) a) p) → IsTrue (has (until (λ x. x == p) (list_of m a)) q)
        → IsTrue (has (until (λ x. x == p) (list_of (with_list m a front) a)) q)
    of_it p q on before =
        ap (λ ps. has (until (λ x. x == p) ps) q) (list_of-with_list m a front a_in)
        ∙ ap (λ ps. has ps q) (sym (until_in_front (λ x. x == p) front back p (ap (λ ps. has ps p) (sym (list_of-with_list m a front a_in)) ∙ on) (eq-eqb p p refl)))
        ∙ ap (λ ps. has (until (λ x. x == p) ps) q) (sym cut) ∙ before

    same_above : (b p q : ℕ) → IsTrue (has (list_of (with_list m a front) b) p) → IsTrue (has (until (λ x. x == p) (list_of m b)) q)
        → IsTrue (has (until (λ x. x == p) (list_of (with_list m a front) b)) q)
    same_above b p q on before = elim (cases_eq b a) [
      | inl same ↦
          subst (λ (c : ℕ). IsTrue (has (list_of (with_list m a front) c) p) → IsTrue (has (until (λ x. x == p) (list_of m c)) q)
          → IsTrue (has (until (λ x. x == p) (list_of (with_list m a front) c)) q)) (sym same) (of_it p q) on before
      | inr other ↦ ap (λ ps. has (until (λ x. x == p) ps) q) (list_of-with_list_other m a front b other) ∙ before
    ]

-- a list that is cut short hurts no other applicant
pub shorter_list_hurts_no_other_lem : ShorterListHurtsNoOther
shorter_list_hurts_no_other_lem m a front back w cut best fewer is_best is_fewer b other = elim (cases_lt a (applicants m)) [
  | inl low ↦
      let w_front : IsWellFormed (with_list m a front) =
      with_list_well_formed m w a front low (distinct_front front back (ap is_distinct (sym cut) ∙ w.lists_distinct a)) (λ p on. ap (λ ps. has ps p) cut ∙ has_front front back p on) in
      easier_gives_at_least m (with_list m a front) w w_front (shorter_easier m a front back low cut) best fewer is_best is_fewer b (list_of-with_list_other m a front b other)
  | inr high ↦
      let same : with_list m a front ≡ m = ap (λ (lists : List (List ℕ)). record m { lists = lists }) (set_past m.lists a front high) in
      best_is_at_least_lem m fewer best (subst (λ (k : Market). IsBest k fewer) same is_fewer) is_best.is_stable b
]

-- nor does a list that is emptied
pub one_less_hurts_no_other_lem : OneLessHurtsNoOther
one_less_hurts_no_other_lem m a w = shorter_list_hurts_no_other_lem m a [] (list_of m a) w refl
