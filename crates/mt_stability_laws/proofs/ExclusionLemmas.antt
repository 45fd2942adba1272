-- Where an applicant can be in no stable match, and what the best match is.
use Rattle.std.proofs.Common.{◌≡◌, ℕ, ◌+◌, ◌<◌, ◌≤◌, not, ◌==◌, List, [], ◌∷◌, length, Option, Some, None, slice_set, IsTrue, IsFalse, refl, ap, sym, ◌∙◌, subst, inl, inr, arith, eq-eqb, ext_get_or}
use Rattle.std.proofs.lemmas.Bool.{and_parts, or_left, cases_Bool, cases_lt, cases_eq, both_ways, false_from_ne_true, not-true}
use Rattle.mt_terms.specs.Lists.{Set, has, until, count, above, with_one, is_distinct}
use Rattle.mt_terms.specs.Market.{Market, program_of, list_of, live}
use Rattle.mt_terms.specs.Matching.{Places, at, filled, place_of, is_program}
use Rattle.mt_terms.specs.Choice.{choice}
use Rattle.mt_terms.specs.Best.{better_programs}
use Rattle.mt_terms.specs.WellFormed.{IsWellFormed}
use Rattle.mt_stability_laws.specs.Singles.{IsStableForSingles, Exclusion, ExclusionByQuota, BestIsAtLeast, BestIsUnique}
use Rattle.mt_stability_laws.proofs.ListLemmas.{one_higher, until_nobody, until_eqb_sym, has-until, above-with_one, count-slice_set, one_not_of, above-le, above-lt, until-filter, passes_before, count_agree}
use Rattle.mt_stability_laws.proofs.ChoiceLemmas.{choice_from_facts}
use Rattle.mt_stability_laws.proofs.TakenLemmas.{at-slice_set_other}
use Rattle.mt_stability_laws.proofs.SinglesFacts.{stable_facts, at_past}

-- who is at a program has a place
pub lt_of_there : (places : Places) (a p : ℕ) → IsTrue (at places p a) → a < length places
lt_of_there places a p there =
    elim (cases_lt a (length places)) [ inl low ↦ low | inr high ↦ absurd (both_ways _ (at_past places a p high) there) ]

-- a list without repeats has no more of those at a program than are there
pub count-at : (places : Places) (p : ℕ) (xs : List ℕ) → IsTrue (is_distinct xs) → count (at places p) xs ≤ filled places p
count-at places p [] distinct = omega arith
count-at places p (x ∷ xs) distinct =
    let parts = and_parts (not (has xs x)) (is_distinct xs) distinct in
    let left : Places = slice_set places x None in
    let rest : count (at left p) xs ≤ filled left p = count-at left p xs parts.1 in
    let same : count (at places p) xs ≡ count (at left p) xs =
    count_agree (at places p) (at left p) xs
    (λ b on. sym (at-slice_set_other places x b p None
    (λ is_x. both_ways _ (not-true _ parts.0) (subst (λ (c : ℕ). IsTrue (has xs c)) is_x on)))) in
    elim (cases_Bool (at places p x)) [
      | inl there ↦
          let x_in : x < length places = lt_of_there places x p there in
          let less : filled left p + 1 ≡ filled places p = count-slice_set (is_program p) places x None None x_in there refl in
          rw there (omega arith)
      | inr elsewhere ↦ let after : count (at places p) xs ≤ filled places p = count-at places p xs parts.1 in rw elsewhere (omega arith)
    ]

-- In a stable match a single that a program of its list would choose, and that isn't there, has a program
-- above it on its live list.
has_better : (m : Market) (places : Places) → IsStableForSingles m places
    → (b p : ℕ) → IsTrue (has (list_of m b) p) → IsTrue (choice (program_of m p) (with_one (at places p) b) b) → IsFalse (at places p b)
    → (q : ℕ) × IsTrue (at places q b) × IsTrue (has (until (λ x. x == p) (live m b)) q)
has_better m places facts b p on_list chosen not_there =
    let not_better : IsFalse (has (better_programs m places b) p) = false_from_ne_true _ (λ better. both_ways _ (facts.none_block b p better) chosen) in
    let r = passes_before (λ q. at places q b) (list_of m b) p on_list not_better not_there in
    (r.0, r.1, until-filter (λ q. has (program_of m q).ranking b) (list_of m b) p r.0 r.2 (facts.listed b r.0 r.1))

-- If quota or more of a set are above an applicant that is at the program in a stable match, one of the
-- set isn't there and would be chosen: fewer of those there are above the applicant.
pub record LeftOut (m : Market) (places : Places) (p : ℕ) (set : Set) : Type 0 where
  pub single : ℕ
  pub is_member : IsTrue (set single)
  pub is_elsewhere : IsFalse (at places p single)
  pub is_chosen : IsTrue (choice (program_of m p) (with_one (at places p) single) single)

-- the one left out
one_left_out : (m : Market) → IsWellFormed m → (places : Places) → IsStableForSingles m places → (p : ℕ) (set : Set) (a : ℕ) → IsTrue (at places p a)
    → (program_of m p).quota ≤ above set (program_of m p).ranking a → LeftOut m places p set
one_left_out m well places facts p set a there full =
    let ranking : List ℕ = (program_of m p).ranking in
    let few_above : above (at places p) ranking a < count (at places p) ranking = above-lt (at places p) ranking a (facts.listed a p there) there in
    let few_there : count (at places p) ranking ≤ filled places p = count-at places p ranking (well.rankings_distinct p) in
    let few : filled places p ≤ (program_of m p).quota = facts.within p in
    let r = one_not_of set (at places p) (until (λ x. x == a) ranking) (omega arith) in
    let b : ℕ = r.0 in
    let no_more_above : above (at places p) ranking b ≤ above (at places p) ranking a = above-le (at places p) ranking a b r.1 in
    let same_above : above (with_one (at places p) b) ranking b ≡ above (at places p) ranking b = above-with_one (at places p) ranking b in
    record {
      single = b;
      is_member = r.2;
      is_elsewhere = r.3;
      is_chosen = choice_from_facts (program_of m p) (with_one (at places p) b) b (record {
        is_listed = has-until (λ x. x == a) ranking b r.1;
        is_member = or_left _ _ (eq-eqb b b refl);
        has_few_above = omega arith;
      });
    }

-- who has quota or more of such a set above it is excluded, since the one left out blocks
pub exclusion_by_quota_lem : ExclusionByQuota
exclusion_by_quota_lem m well p set on_lists rest_excluded a full places is_stable = false_from_ne_true _ λ there.
    let facts = stable_facts m places is_stable in
    let left = one_left_out m well places facts p set a there full in
    let r = has_better m places facts left.single p (on_lists left.single left.is_member) left.is_chosen left.is_elsewhere in
    both_ways _ (rest_excluded left.single r.0 left.is_member r.2 places is_stable) r.1

-- of such a set, an applicant that isn't chosen is excluded: it isn't listed, or has quota or more of the set above it
pub exclusion_lem : Exclusion
exclusion_lem m well p set on_lists rest_excluded a in_set not_chosen places is_stable = elim (cases_lt (above set (program_of m p).ranking a) (program_of m p).quota) [
  | inl few ↦ false_from_ne_true _ (λ there. both_ways _ not_chosen (choice_from_facts (program_of m p) set a (record {
    is_listed = (stable_facts m places is_stable).listed a p there;
    is_member = in_set;
    has_few_above = few;
  })))
  | inr full ↦ exclusion_by_quota_lem m well p set on_lists rest_excluded a full places is_stable
]

-- a stable match has no single at a program that it wants more than its place in the best match
pub best_is_at_least_lem : BestIsAtLeast
best_is_at_least_lem m best places is_best is_stable a p there =
    false_from_ne_true _ (λ better. both_ways _ (is_best.none_better a p better places is_stable) there)

-- two places on a list, neither of them better than the other, are one
same_place : (xs : List ℕ) (s t : Option ℕ)
    → ((p : ℕ) → IsTrue (is_program p s) → IsTrue (has xs p)) → ((p : ℕ) → IsTrue (is_program p t) → IsTrue (has xs p))
    → ((p : ℕ) → IsTrue (is_program p s) → IsFalse (has (until (λ q. is_program q t) xs) p))
    → ((p : ℕ) → IsTrue (is_program p t) → IsFalse (has (until (λ q. is_program q s) xs) p))
    → s ≡ t
same_place xs None None on_s on_t s_no_better t_no_better = refl
same_place xs None (Some q) on_s on_t s_no_better t_no_better =
    absurd (both_ways _ (ap (λ ys. has ys q) (sym (until_nobody xs)) ∙ t_no_better q (eq-eqb q q refl)) (on_t q (eq-eqb q q refl)))
same_place xs (Some p) None on_s on_t s_no_better t_no_better =
    absurd (both_ways _ (ap (λ ys. has ys p) (sym (until_nobody xs)) ∙ s_no_better p (eq-eqb p p refl)) (on_s p (eq-eqb p p refl)))
same_place xs (Some p) (Some q) on_s on_t s_no_better t_no_better = elim (cases_eq p q) [
  | inl same ↦ ap Some same
  | inr apart ↦ elim (one_higher xs p q apart (on_s p (eq-eqb p p refl)) (on_t q (eq-eqb q q refl))) [
    | inl q_higher ↦ absurd (both_ways _ (ap (λ ys. has ys q) (sym (until_eqb_sym xs p)) ∙ t_no_better q (eq-eqb q q refl)) q_higher)
    | inr p_higher ↦ absurd (both_ways _ (ap (λ ys. has ys p) (sym (until_eqb_sym xs q)) ∙ s_no_better p (eq-eqb p p refl)) p_higher)
  ]
]

-- no more than one match is best
pub best_is_unique_lem : BestIsUnique
best_is_unique_lem m s t best_s best_t =
    let facts_s = stable_facts m s best_s.is_stable in
    let facts_t = stable_facts m t best_t.is_stable in
    ext_get_or None s t (facts_s.one_each ∙ sym facts_t.one_each)
    (λ a a_in. same_place (list_of m a) (place_of s a) (place_of t a) (facts_s.on_list a) (facts_t.on_list a)
    (λ p there. best_is_at_least_lem m t s best_t best_s.is_stable a p there)
    (λ p there. best_is_at_least_lem m s t best_s best_t.is_stable a p there))
