-- What a holding answers to a proposal is the reply of its program: whom the answer names by rank is the one applicant
-- that was chosen before and isn't after, and nobody else falls out.
use Rattle.std.proofs.Common.{◌≡◌, ◌≢◌, ◌↔◌, ◌==◌, ℕ, zero, suc, ◌<◌, List, [], ◌∷◌, Bool, true, false, not, ◌&&◌, Some, None, IsTrue, IsFalse, length, get_or, refl, sym, ap, ap₂, ◌∙◌, arith, inl, inr}
use Rattle.std.specs.List.{find, position}
use Rattle.std.proofs.lemmas.Bool.{cases_Bool, and_from, not_from_false}
use Rattle.mt_terms.specs.Lists.{Set, with_one, is_distinct}
use Rattle.mt_terms.specs.Market.{Program}
use Rattle.mt_terms.specs.Choice.{choice}
use Rattle.mt_terms.specs.Floor.{kept_reply}
use Rattle.mt_hold.specs.Holding.{Holding, ranks, has_received, held, receive}
use Rattle.mt_hold.specs.Laws.{IsHoldingOf}
use Rattle.mt_hold.specs.Replies.{reply_from, reply_to}
use Rattle.mt_hold.specs.declared.holding.Taken.{Taken}
use Rattle.mt_hold.specs.declared.holding.Taken.TheVariants.{Kept, KeptInstead, Refused}
use Rattle.mt_hold.proofs.Chosen.{held-chosen, IsChosen-from}
use Rattle.mt_hold.proofs.Lists.{held_is_choice, receive_adds_one}
use Rattle.mt_hold.proofs.ReceivedFacts.{ranked_within, ranked_there}

-- the first element that passes, if none does, and if the one at a place does
find_none : (test : ℕ → Bool) (xs : List ℕ) → ((k : ℕ) → k < length xs → IsFalse (test (get_or xs k 0))) → find test xs ≡ None
find_none test [] none = refl
find_none test (x ∷ xs) none = rw (none 0 (omega arith)) (find_none test xs (λ k h. none (suc k) (omega arith)))

find_at : (test : ℕ → Bool) (xs : List ℕ) (k : ℕ) → k < length xs → IsTrue (test (get_or xs k 0)) → ((j : ℕ) → j < k → IsFalse (test (get_or xs j 0)))
    → find test xs ≡ Some (get_or xs k 0)
find_at test [] k h passes before = absurd (omega arith)
find_at test (x ∷ xs) zero h passes before = rw passes refl
find_at test (x ∷ xs) (suc k) h passes before =
    rw (before 0 (omega arith)) (find_at test xs k (omega arith) passes (λ j l. before (suc j) (omega arith)))

-- What a holding has told of a proposal from a rank.
pub record IsAnswer (h : Holding) (r : ℕ) (answer : Taken) : Type 0 where
  pub refused : (answer ≡ Refused) ↔ IsFalse (held (receive h r) r)
  pub dropped : (other : ℕ) → (answer ≡ KeptInstead other) ↔ (IsTrue (held h other) × IsFalse (held (receive h r) other))

-- A program whose holding has received a set may receive an applicant that has this rank on its list.
pub record MayReceive (p : Program) (set : Set) (h : Holding) (a r : ℕ) : Type 0 where
  pub distinct : IsTrue (is_distinct p.ranking)
  pub holding : IsHoldingOf p set h
  pub found : position (λ x. x == a) p.ranking ≡ Some r

-- after a proposal a rank is held if and only if the program chooses the applicant that has it
pub held_after : (p : Program) (set : Set) (h : Holding) (a r : ℕ) → MayReceive p set h a r → (k : ℕ) → k < length p.ranking
    → held (receive h r) k ≡ choice p (with_one set a) (get_or p.ranking k 0)
held_after p set h a r may k low =
    held_is_choice p (with_one set (get_or p.ranking r 0)) (receive h r) may.distinct (receive_adds_one p set h may.distinct may.holding r (ranked_within p.ranking a r may.found)) k low
    ∙ ap (λ b. choice p (with_one set b) (get_or p.ranking k 0)) (ranked_there p.ranking a r may.found)

-- a rank that is held is on the list
pub held_within : (p : Program) (h : Holding) (k : ℕ) → ranks h ≡ length p.ranking → IsTrue (held h k) → k < length p.ranking
held_within p h k listed on =
    omega (arith, (IsChosen-from h.quota (ranks h) (has_received h) k (sym (held-chosen h (has_received h) (λ j l. refl) k) ∙ on)).within, listed)

-- whether an applicant is chosen before a proposal and not after it
abbrev falls_out : Program → Set → ℕ → ℕ → Bool
falls_out p set a b = choice p set b && not (choice p (with_one set a) b)

-- ranks decide it
falls_out_at : (p : Program) (set : Set) (h : Holding) (a r : ℕ) → MayReceive p set h a r → (k : ℕ) → k < length p.ranking
    → falls_out p set a (get_or p.ranking k 0) ≡ (held h k && not (held (receive h r) k))
falls_out_at p set h a r may k low =
    ap₂ (λ x y. x && not y) (sym (held_is_choice p set h may.distinct may.holding k low)) (sym (held_after p set h a r may k low))

-- an applicant that the answer doesn't name doesn't fall out
stays_in : (p : Program) (set : Set) (h : Holding) (a r : ℕ) (answer : Taken) → MayReceive p set h a r → IsAnswer h r answer
    → (k : ℕ) → k < length p.ranking → answer ≢ KeptInstead k → IsFalse (falls_out p set a (get_or p.ranking k 0))
stays_in p set h a r answer may is k low other =
    falls_out_at p set h a r may k low ∙ by_cases (held h k) (held (receive h r) k) refl refl
  where
    by_cases : (x y : Bool) → held h k ≡ x → held (receive h r) k ≡ y → (x && not y) ≡ false
    by_cases false y ex ey = refl
    by_cases true true ex ey = refl
    by_cases true false ex ey = absurd (other ((is.dropped k).1 (ex, ey)))

-- the proposing applicant's rank is held after the proposal if and only if the program chooses the applicant
pub proposer_held : (p : Program) (set : Set) (h : Holding) (a r : ℕ) → MayReceive p set h a r → held (receive h r) r ≡ choice p (with_one set a) a
proposer_held p set h a r may = held_after p set h a r may r (ranked_within p.ranking a r may.found) ∙ ap (choice p (with_one set a)) (ranked_there p.ranking a r may.found)

-- an applicant that isn't refused is chosen
chosen_if_kept : (p : Program) (set : Set) (h : Holding) (a r : ℕ) (answer : Taken) → MayReceive p set h a r → IsAnswer h r answer → answer ≢ Refused
    → IsTrue (choice p (with_one set a) a)
chosen_if_kept p set h a r answer may is kept =
    elim (cases_Bool (held (receive h r) r)) [
      | inl on ↦ sym (proposer_held p set h a r may) ∙ on
      | inr out ↦ absurd (kept (is.refused.1 out))
    ]

-- nobody falls out if the answer names nobody, and else the applicant whose rank it names
none_dropped : (p : Program) (set : Set) (h : Holding) (a r : ℕ) → MayReceive p set h a r → IsAnswer h r Kept → find (falls_out p set a) p.ranking ≡ None
none_dropped p set h a r may is = find_none (falls_out p set a) p.ranking (λ k low. stays_in p set h a r Kept may is k low not_named)
  where
    not_named : {k : ℕ} → Kept ≢ KeptInstead k
    not_named e = cc

one_dropped : (p : Program) (set : Set) (h : Holding) (a r k : ℕ) → MayReceive p set h a r → IsAnswer h r (KeptInstead k)
    → find (falls_out p set a) p.ranking ≡ Some (get_or p.ranking k 0)
one_dropped p set h a r k may is =
    find_at (falls_out p set a) p.ranking k within
    (falls_out_at p set h a r may k within ∙ and_from (held h k) (not (held (receive h r) k)) facts.0 (not_from_false (held (receive h r) k) facts.1))
    (λ j l. stays_in p set h a r (KeptInstead k) may is j (omega (arith, within)) (λ e. let same : k ≡ j = inj e in omega arith))
  where
    facts : IsTrue (held h k) × IsFalse (held (receive h r) k)
    facts = (is.dropped k).0 refl

    within : k < length p.ranking
    within = held_within p h k may.holding.listed facts.0

    inj : {x y : ℕ} → KeptInstead x ≡ KeptInstead y → x ≡ y
    inj e = cc

-- the answer is the program's reply
pub reply_is : (p : Program) (set : Set) (h : Holding) (a r : ℕ) (answer : Taken) → MayReceive p set h a r → IsAnswer h r answer → reply_from p.ranking answer ≡ reply_to p set a
reply_is p set h a r Kept may is =
    rw chosen (ap kept_reply (sym (none_dropped p set h a r may is)))
  where
    not_refused : Kept ≢ Refused
    not_refused e = cc

    chosen : choice p (with_one set a) a ≡ true
    chosen = chosen_if_kept p set h a r Kept may is not_refused
reply_is p set h a r (KeptInstead k) may is =
    rw chosen (ap kept_reply (sym (one_dropped p set h a r k may is)))
  where
    not_refused : KeptInstead k ≢ Refused
    not_refused e = cc

    chosen : choice p (with_one set a) a ≡ true
    chosen = chosen_if_kept p set h a r (KeptInstead k) may is not_refused
reply_is p set h a r Refused may is =
    let out : choice p (with_one set a) a ≡ false = sym (proposer_held p set h a r may) ∙ is.refused.0 refl in
    rw out refl
