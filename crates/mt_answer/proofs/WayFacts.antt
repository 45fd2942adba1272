-- The first of some orders that ends, in words. With one order the answer is the usual one. An answer is one, since the
-- best match and the first order are.
use Rattle.std.proofs.Common.{◌≡◌, ◌≢◌, ℕ, zero, suc, ◌+◌, ◌<◌, ◌≤◌, Bool, true, false, List, Option, None, Some, inl, inr, refl, sym, ◌∙◌, ap, subst, arith, is_some, if◌then◌else◌}
use Rattle.std.specs.Prelude.{◌↔◌}
use Rattle.std.specs.List.{find, range_with_len}
use Rattle.std.proofs.lemmas.Bool.{cases_lt, true≢false}
use Rattle.mt_terms.specs.Best.{IsBest}
use Rattle.mt_terms.specs.Market.{Market, Registered}
use Rattle.mt_terms.specs.Matching.{Places}
use Rattle.mt_terms.specs.Rounds.{stage}
use Rattle.mt_orders.proofs.MarketFacts.{first_is_own}
use Rattle.mt_stability_laws.proofs.ExclusionLemmas.{best_is_unique_lem}
use Rattle.mt_orders.specs.Fewest.{aside_in_order, fewest_order, others_in_order}
use Rattle.mt_order_laws.specs.Orders.{ends_in_order, first_order, in_order}
use Rattle.mt_answer.specs.Answer.{IsAnswerOfStage}
use Rattle.mt_answer.specs.Ways.{IsAnswerAside, IsAnswerInWays, IsAnswerOfNone, IsAnswerOfOrder}
use Rattle.mt_answer.specs.WayLaws.{FirstOrderInWords, NoOrderInWords, OneAnswerInWays, OneWayIsUsual, SpentInWays}
use Rattle.mt_answer.specs.declared.ways.Ways.{Ways}

-- ---- the first that passes

-- what a search over a range of numbers finds: one that passes, and none before it
found_means : (p : ℕ → Bool) (start n k : ℕ) → find p (range_with_len start n) ≡ Some k
    → (start ≤ k) × (k < start + n) × (p k ≡ true) × ((j : ℕ) → start ≤ j → j < k → p j ≡ false)
found_means p start zero k e = absurd (let none : ◌≡◌ {A = Option ℕ} None (Some k) = e in cc)
found_means p start (suc n) k e = by (p start) refl (λ is. found_means p (start + 1) n k is) e
  where
    by : (b : Bool) → p start ≡ b
        → (find p (range_with_len (start + 1) n) ≡ Some k → (start + 1 ≤ k) × (k < start + 1 + n) × (p k ≡ true) × ((j : ℕ) → start + 1 ≤ j → j < k → p j ≡ false))
        → (if b then Some start else find p (range_with_len (start + 1) n)) ≡ Some k
        → (start ≤ k) × (k < start + suc n) × (p k ≡ true) × ((j : ℕ) → start ≤ j → j < k → p j ≡ false)
    by true passes next is =
        let some : ◌≡◌ {A = Option ℕ} (Some start) (Some k) = is in
        let same : start ≡ k = cc in
        (omega arith, omega arith, subst (λ (x : ℕ). p x ≡ true) same passes, λ j from to. absurd (omega arith))
    by false fails next is =
        let rest = next is in (
          omega (arith, rest.0),
          omega (arith, rest.1),
          rest.2,
          λ j from to.
              elim (cases_lt start j) [
                | inl later ↦ rest.3 j (omega arith) to
                | inr here ↦ (let same : start ≡ j = omega arith in subst (λ (x : ℕ). p x ≡ false) same fails)
              ],
        )

found_from : (p : ℕ → Bool) (start n k : ℕ) → start ≤ k → k < start + n → p k ≡ true → ((j : ℕ) → start ≤ j → j < k → p j ≡ false)
    → find p (range_with_len start n) ≡ Some k
found_from p start zero k from to passes before = absurd (omega arith)
found_from p start (suc n) k from to passes before = elim (cases_lt start k) [
  | inl later ↦ (let fails = before start (omega arith) later in rw fails (found_from p (start + 1) n k (omega arith) (omega arith) passes (λ j low high. before j (omega arith) high)))
  | inr here ↦ (let same : k ≡ start = omega arith in rw (subst (λ (x : ℕ). p x ≡ true) same passes) (ap (λ (x : ℕ). Some x) (sym same)))
]

-- what it means that it finds nothing
none_means : (p : ℕ → Bool) (start n : ℕ) → find p (range_with_len start n) ≡ None → (k : ℕ) → start ≤ k → k < start + n → p k ≡ false
none_means p start zero e k from to = absurd (omega arith)
none_means p start (suc n) e k from to = by (p start) refl (λ is low high. none_means p (start + 1) n is k low high) e
  where
    by : (b : Bool) → p start ≡ b → (find p (range_with_len (start + 1) n) ≡ None → start + 1 ≤ k → k < start + 1 + n → p k ≡ false)
        → (if b then Some start else find p (range_with_len (start + 1) n)) ≡ None → p k ≡ false
    by true passes next is = absurd (let some : ◌≡◌ {A = Option ℕ} (Some start) None = is in cc)
    by false fails next is = elim (cases_lt start k) [
      | inl later ↦ next is (omega arith) (omega arith)
      | inr here ↦ (let same : start ≡ k = omega arith in subst (λ (x : ℕ). p x ≡ false) same fails)
    ]

none_from : (p : ℕ → Bool) (start n : ℕ) → ((k : ℕ) → start ≤ k → k < start + n → p k ≡ false) → find p (range_with_len start n) ≡ None
none_from p start zero h = refl
none_from p start (suc n) h =
    let fails = h start (omega arith) (omega arith) in
    rw fails (none_from p (start + 1) n (λ k from to. h k (omega arith) (omega arith)))

-- ---- whether a stage ends

ends_some : {X : Type 0} (o : Option X) → is_some o ≡ true → o ≢ None
ends_some None h e = true≢false (sym h)
ends_some {X} (Some x) h e = let some : ◌≡◌ {A = Option X} (Some x) None = e in cc

some_ends : {X : Type 0} (o : Option X) → o ≢ None → is_some o ≡ true
some_ends None h = absurd (h refl)
some_ends (Some x) h = refl

ends_none : {X : Type 0} (o : Option X) → is_some o ≡ false → o ≡ None
ends_none None h = refl
ends_none (Some x) h = absurd (true≢false h)

none_ends : {X : Type 0} (o : Option X) → o ≡ None → is_some o ≡ false
none_ends o e = rw e refl

pub first_order_in_words_lem : FirstOrderInWords
first_order_in_words_lem m best budget orders k = (
  (λ e.
      let h = found_means (ends_in_order m best budget) 1 orders k e in
      (h.0, omega (arith, h.1), ends_some (stage (in_order k m) best budget) h.2, λ j from to. ends_none (stage (in_order j m) best budget) (h.3 j from to))),
  (λ h.
      found_from (ends_in_order m best budget) 1 orders k h.0 (omega (arith, h.1)) (some_ends (stage (in_order k m) best budget) h.2)
      (λ j from to. none_ends (stage (in_order j m) best budget) (h.3 j from to))),
)

pub no_order_in_words_lem : NoOrderInWords
no_order_in_words_lem m best budget orders = (
  (λ e k from to. ends_none (stage (in_order k m) best budget) (none_means (ends_in_order m best budget) 1 orders e k from (omega arith))),
  (λ h. none_from (ends_in_order m best budget) 1 orders (λ k from to. none_ends (stage (in_order k m) best budget) (h k from (omega arith)))),
)

-- ---- one order

-- the answer by one order and by none is that of the stage
one_order : (r : Registered) (best : Places) (budget code : ℕ) (text : List ℕ) (s : Option (Places × ℕ)) → stage (in_order 1 r.market) best budget ≡ s
    → IsAnswerOfOrder r best budget (record { orders = 1; set_aside = false }) (if is_some s then Some 1 else None) code text ↔ IsAnswerOfStage r best s code text
one_order r best budget code text None e = ((λ h. h), (λ h. h))
one_order r best budget code text (Some s) e = (
  (λ h. subst (λ (o : Option (Places × ℕ)). IsAnswerOfStage r best o code text) e h),
  (λ h. subst (λ (o : Option (Places × ℕ)). IsAnswerOfStage r best o code text) (sym e) h),
)

usual : (r : Registered) (best : Places) (budget code : ℕ) (text : List ℕ)
    → IsAnswerOfOrder r best budget (record { orders = 1; set_aside = false }) (first_order r.market best budget 1) code text ↔ IsAnswerOfStage r best (stage r.market best budget) code text
usual r best budget code text =
    let same : stage (in_order 1 r.market) best budget ≡ stage r.market best budget = ap (λ (m : Market). stage m best budget) (first_is_own r.market) in
    subst (λ (o : Option (Places × ℕ)). IsAnswerOfOrder r best budget (record { orders = 1; set_aside = false }) (if is_some (stage (in_order 1 r.market) best budget) then Some 1 else None) code text ↔ IsAnswerOfStage r best o code text)
    same (one_order r best budget code text (stage (in_order 1 r.market) best budget) refl)

pub one_way_is_usual_lem : OneWayIsUsual
one_way_is_usual_lem r budget code text = (
  (λ h. record { best = h.best; is_best = h.is_best; ends = (usual r h.best budget code text).0 h.ends }),
  (λ h. record { best = h.best; is_best = h.is_best; ends = (usual r h.best budget code text).1 h.ends }),
)

-- ---- one answer

-- two answers are one: code and text
abbrev pub SameAnswer : ℕ → ℕ → List ℕ → List ℕ → Type 0
SameAnswer c d text other = (c ≡ d) × (text ≡ other)

pub stage_once : (r : Registered) (best : Places) (s : Option (Places × ℕ)) (c d : ℕ) (text other : List ℕ)
    → IsAnswerOfStage r best s c text → IsAnswerOfStage r best s d other → SameAnswer c d text other
stage_once r best None c d text other h k = (h.0 ∙ sym k.0, h.1 ∙ sym k.1)
stage_once r best (Some s) c d text other h k = (h.0 ∙ sym k.0, h.1 ∙ sym k.1)

aside_once : (r : Registered) (best : Places) (aside : List ℕ) (s : Option (Places × ℕ)) (c d : ℕ) (text other : List ℕ)
    → IsAnswerAside r best aside s c text → IsAnswerAside r best aside s d other → SameAnswer c d text other
aside_once r best aside None c d text other h k = absurd h
aside_once r best aside (Some s) c d text other h k = (h.0 ∙ sym k.0, h.1 ∙ sym k.1)

none_once : (r : Registered) (best : Places) (budget orders : ℕ) (set_aside : Bool) (c d : ℕ) (text other : List ℕ)
    → IsAnswerOfNone r best budget orders set_aside c text → IsAnswerOfNone r best budget orders set_aside d other → SameAnswer c d text other
none_once r best budget orders false c d text other h k = (h.0 ∙ sym k.0, h.1 ∙ sym k.1)
none_once r best budget orders true c d text other h k =
    let number = fewest_order r.market best budget orders in
    aside_once r best (aside_in_order number r.market best budget) (stage (others_in_order number r.market best budget) best budget) c d text other h k

order_once : (r : Registered) (best : Places) (budget : ℕ) (ways : Ways) (o : Option ℕ) (c d : ℕ) (text other : List ℕ)
    → IsAnswerOfOrder r best budget ways o c text → IsAnswerOfOrder r best budget ways o d other → SameAnswer c d text other
order_once r best budget ways None c d text other h k = none_once r best budget ways.orders ways.set_aside c d text other h k
order_once r best budget ways (Some n) c d text other h k = stage_once r best (stage (in_order n r.market) best budget) c d text other h k

-- the answer is by any best match, since there is one
pub by_best : (r : Registered) (budget : ℕ) (ways : Ways) (code : ℕ) (text : List ℕ) (best : Places) → IsAnswerInWays r budget ways code text → IsBest r.market best
    → IsAnswerOfOrder r best budget ways (first_order r.market best budget ways.orders) code text
by_best r budget ways code text best h is_best =
    let same : h.best ≡ best = best_is_unique_lem r.market h.best best h.is_best is_best in
    subst (λ (b : Places). IsAnswerOfOrder r b budget ways (first_order r.market b budget ways.orders) code text) same h.ends

pub one_answer_in_ways_lem : OneAnswerInWays
one_answer_in_ways_lem r budget ways c d text other h k =
    order_once r h.best budget ways (first_order r.market h.best budget ways.orders) c d text other h.ends (by_best r budget ways d other h.best k h.is_best)

-- ---- a spent budget

-- a code is one number
pub other_code : {a b : ℕ} (code : ℕ) → code ≡ a → code ≡ b → (a ≡ b → ⊥) → ⊥
other_code code e f differ = differ (sym e ∙ f)

spent_by_none : (r : Registered) (best : Places) (budget orders : ℕ) (set_aside : Bool) (code : ℕ) (text : List ℕ)
    → IsAnswerOfNone r best budget orders set_aside code text → code ≡ 41 → set_aside ≡ false
spent_by_none r best budget orders false code text h is = refl
spent_by_none r best budget orders true code text h is = absurd (by (stage (others_in_order k r.market best budget) best budget) h)
  where
    k : ℕ
    k = fewest_order r.market best budget orders

    by : (s : Option (Places × ℕ)) → IsAnswerAside r best (aside_in_order (fewest_order r.market best budget orders) r.market best budget) s code text → ⊥
    by None h = h
    by (Some s) h = other_code code h.0 is (λ e. omega arith)

spent_by_order : (r : Registered) (best : Places) (budget : ℕ) (ways : Ways) (code : ℕ) (text : List ℕ) (o : Option ℕ) → first_order r.market best budget ways.orders ≡ o
    → IsAnswerOfOrder r best budget ways o code text → code ≡ 41 → (ways.set_aside ≡ false) × (first_order r.market best budget ways.orders ≡ None)
spent_by_order r best budget ways code text None e h is = (spent_by_none r best budget ways.orders ways.set_aside code text h is, e)
spent_by_order r best budget ways code text (Some n) e h is =
    absurd (by (stage (in_order n r.market) best budget) (((first_order_in_words_lem r.market best budget ways.orders n).0 e).2) h)
  where
    by : (s : Option (Places × ℕ)) → s ≢ None → IsAnswerOfStage r best s code text → ⊥
    by None some k = some refl
    by (Some s) some k = other_code code k.0 is (λ e. omega arith)

pub spent_in_ways_lem : SpentInWays
spent_in_ways_lem r budget ways code text best h is_best =
    let ends = by_best r budget ways code text best h is_best in (
      (λ is.
          let spent = spent_by_order r best budget ways code text (first_order r.market best budget ways.orders) refl ends is in
          (spent.0, (no_order_in_words_lem r.market best budget ways.orders).0 spent.1)),
      (λ spent.
          let none = (no_order_in_words_lem r.market best budget ways.orders).1 spent.1 in
          let refused : IsAnswerOfNone r best budget ways.orders false code text =
          subst (λ (b : Bool). IsAnswerOfNone r best budget ways.orders b code text) spent.0
          (subst (λ (o : Option ℕ). IsAnswerOfOrder r best budget ways o code text) none ends) in
          refused.0),
    )
