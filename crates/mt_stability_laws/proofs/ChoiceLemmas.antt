-- A program's choice: what it says, and how it goes with the set.
use Rattle.std.proofs.Common.{◌==◌, ◌≤◌, ℕ, ◌<◌, ◌&&◌, nat_lt, IsTrue, ltb-true, lt-ltb, inl, inr, arith, eqb-true}
use Rattle.std.proofs.lemmas.Bool.{and_parts, and_from, or_cases, or_right}
use Rattle.mt_terms.specs.Lists.{Set, has, above, with_one}
use Rattle.mt_terms.specs.Market.{Program}
use Rattle.mt_terms.specs.Choice.{choice}
use Rattle.mt_stability_laws.specs.Singles.{ChoiceInWords, GrowingChoice, NoneComesBack}
use Rattle.mt_stability_laws.proofs.ListLemmas.{count-le}

-- who is chosen is listed, is of the set, and has fewer than quota of the set above it
pub record IsChosenFrom (p : Program) (set : Set) (a : ℕ) : Type 0 where
  pub is_listed : IsTrue (has p.ranking a)
  pub is_member : IsTrue (set a)
  pub has_few_above : above set p.ranking a < p.quota

-- what the test of a choice says
pub choice_facts : (p : Program) (set : Set) (a : ℕ) → IsTrue (choice p set a) → IsChosenFrom p set a
choice_facts p set a h =
    let parts = and_parts (has p.ranking a && set a) (nat_lt (above set p.ranking a) p.quota) h in
    let first = and_parts (has p.ranking a) (set a) parts.0 in
    record { is_listed = first.0; is_member = first.1; has_few_above = ltb-true _ _ parts.1 }

-- the test of a choice passes if those facts hold
pub choice_from_facts : (p : Program) (set : Set) (a : ℕ) → IsChosenFrom p set a → IsTrue (choice p set a)
choice_from_facts p set a h = and_from _ _ (and_from _ _ h.is_listed h.is_member) (lt-ltb _ _ h.has_few_above)

-- the choice in words
pub choice_in_words_lem : ChoiceInWords
choice_in_words_lem p set a = (
  (λ h. let facts = choice_facts p set a h in (facts.is_listed, facts.is_member, facts.has_few_above)),
  (λ h. choice_from_facts p set a (record { is_listed = h.0; is_member = h.1; has_few_above = h.2 })),
)

-- nobody who fell out comes back as the set grows
pub none_comes_back_lem : NoneComesBack
none_comes_back_lem p s t within a in_s chosen =
    let facts = choice_facts p t a chosen in
    let fewer : above s p.ranking a ≤ above t p.ranking a = count-le s t _ within in
    let few = facts.has_few_above in
    choice_from_facts p s a (record { is_listed = facts.is_listed; is_member = in_s; has_few_above = omega arith })

-- the choice of a set with one member more is of the old choice and that member
pub growing_choice_lem : GrowingChoice
growing_choice_lem p set a b chosen =
    let facts = choice_facts p (with_one set a) b chosen in
    elim (or_cases (b == a) (set b) facts.is_member) [
      | inl same ↦ inl (eqb-true b a same)
      | inr before ↦ inr (none_comes_back_lem p set (with_one set a) (λ c in_set. or_right _ _ in_set) b before chosen)
    ]
