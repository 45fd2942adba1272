use Rattle.std.proofs.Common.{◌≡◌, ℕ, zero, suc, true, false, [], ◌∷◌, Some, None, inl, inr, refl, sym, subst}
use Rattle.std.proofs.lemmas.Bool.{false≢true}
use Rattle.mt_terms.specs.Best.{better_programs}
use Rattle.mt_terms.specs.Examples.Markets.{three_couples, partner_withdraws, nobody}
use Rattle.mt_terms.specs.Rounds.{is_on, has_entered}
use Rattle.mt_terms.specs.Lists.{has}
use Rattle.mt_terms.specs.Market.{agents, members}
use Rattle.mt_terms.specs.Matching.{Places, none_placed}
use Rattle.mt_terms.specs.Stability.{blocks}
use Rattle.mt_terms.specs.declared.numbers.Agent.{Agent}
use Rattle.mt_terms.specs.declared.numbers.Agent.TheVariants.{Single, Couple}
use Rattle.mt_round_laws.proofs.RoundsAgents.{of_list}
use Rattle.mt_round_laws.proofs.RoundsLists.{In}
use Rattle.mt_stability_laws.proofs.WellFormedLemmas.{well_formed_from_test}
use Rattle.mt_budget_laws.proofs.rounds.premises_of_rounds.Goals as goal

-- the single has the one program that it wants, and members want nothing
none_wanted : (a p : ℕ) → has (better_programs partner_withdraws (Some 0 ∷ nobody 4) a) p ≡ true → ⊥
none_wanted zero p h = false≢true h
none_wanted (suc zero) p h = false≢true h
none_wanted (suc (suc zero)) p h = false≢true h
none_wanted (suc (suc (suc zero))) p h = false≢true h
none_wanted (suc (suc (suc (suc zero)))) p h = false≢true h
none_wanted (suc (suc (suc (suc (suc a))))) p h = false≢true h

-- what holds of each of three agents holds of each agent on their list
each_of_three : (P : Agent → Type 0) (f g h : Agent) → P f → P g → P h → (x : Agent) → In x (f ∷ g ∷ h ∷ []) → P x
each_of_three P f g h first second third x (inl e) = subst P e first
each_of_three P f g h first second third x (inr (inl e)) = subst P e second
each_of_three P f g h first second third x (inr (inr (inl e))) = subst P e third
each_of_three P f g h first second third x (inr (inr (inr none))) = absurd none

-- the second couple has moved
abbrev second_moved : Places
second_moved = None ∷ None ∷ None ∷ Some 0 ∷ Some 1 ∷ []

still_waiting : (x : Agent) → In x (Couple 0 ∷ Single 0 ∷ []) → (is_on (agents partner_withdraws) x ≡ true) × (has_entered 1 x ≡ true)
still_waiting x (inl e) = subst (λ y. (is_on (agents partner_withdraws) y ≡ true) × (has_entered 1 y ≡ true)) e (refl, refl)
still_waiting x (inr (inl e)) = subst (λ y. (is_on (agents partner_withdraws) y ≡ true) × (has_entered 1 y ≡ true)) e (refl, refl)
still_waiting x (inr (inr none)) = absurd none

-- the first of three couples is placed
abbrev first_placed : Places
first_placed = Some 0 ∷ Some 2 ∷ None ∷ None ∷ None ∷ None ∷ []

second_enters : (x : Agent) → In x (Couple 1 ∷ []) → (is_on (agents three_couples) x ≡ true) × (has_entered 1 x ≡ true)
second_enters x (inl e) = subst (λ y. (is_on (agents three_couples) y ≡ true) × (has_entered 1 y ≡ true)) e (refl, refl)
second_enters x (inr none) = absurd none

pub returns : goal.returns
returns c = record {
  well_formed = well_formed_from_test partner_withdraws refl;
  best = record { is_stable = refl; none_better = λ a p h. absurd (none_wanted a p h) };
  ends = refl;
  all_entered = record {
    fitting = refl;
    waiting_entered = λ g on. still_waiting g (of_list g (Couple 0 ∷ Single 0 ∷ []) on);
    outside_unplaced = λ g on. each_of_three (λ x. has_entered 1 x ≡ false → none_placed second_moved (members partner_withdraws x) ≡ true)
        (Single 0) (Couple 0) (Couple 1)
        (λ e. absurd (false≢true (sym e))) (λ e. absurd (false≢true (sym e))) (λ e. absurd (false≢true (sym e))) g (of_list g (agents partner_withdraws) on);
    none_blocks = λ g on. each_of_three (λ x. has_entered 1 x ≡ true → is_on (Couple 0 ∷ Single 0 ∷ []) x ≡ false → blocks partner_withdraws second_moved x ≡ false)
        (Single 0) (Couple 0) (Couple 1)
        (λ e f. absurd (false≢true (sym f))) (λ e f. absurd (false≢true (sym f))) (λ e f. refl) g (of_list g (agents partner_withdraws) on);
  };
  one_outside = record {
    fitting = refl;
    waiting_entered = λ g on. second_enters g (of_list g (Couple 1 ∷ []) on);
    outside_unplaced = λ g on. each_of_three (λ x. has_entered 1 x ≡ false → none_placed first_placed (members three_couples x) ≡ true)
        (Couple 0) (Couple 1) (Couple 2)
        (λ e. absurd (false≢true (sym e))) (λ e. absurd (false≢true (sym e))) (λ e. refl) g (of_list g (agents three_couples) on);
    none_blocks = λ g on. each_of_three (λ x. has_entered 1 x ≡ true → is_on (Couple 1 ∷ []) x ≡ false → blocks three_couples first_placed x ≡ false)
        (Couple 0) (Couple 1) (Couple 2)
        (λ e f. refl) (λ e f. absurd (false≢true (sym f))) (λ e f. absurd (false≢true e)) g (of_list g (agents three_couples) on);
  };
}
