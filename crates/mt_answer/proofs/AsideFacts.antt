-- Who is set aside, one after another: each time the couple that is entering, which is none of those before it. What is
-- published is stable in the market of those that enter.
use Rattle.std.proofs.Common.{◌≡◌, ◌≢◌, ℕ, zero, suc, ◌≤◌, ◌-◌, Bool, true, false, not, ◌==◌, List, [], ◌∷◌, ◌++◌, map, filter, take, length, get_or, Option, None, Some, inl, inr, refl, sym, ◌∙◌, ap, subst, arith, if◌then◌else◌}
use Rattle.std.specs.Option.{option_map_or}
use Rattle.std.proofs.Math.Seq.{take-append_seam, get_or-append_seam}
use Rattle.std.proofs.lemmas.Bool.{cases_lt}
use Rattle.std.proofs.lemmas.List.{append-nil, append_assoc, length-append}
use Rattle.mt_terms.specs.Best.{IsBest}
use Rattle.mt_terms.specs.Lists.{has, below}
use Rattle.mt_terms.specs.Market.{Market, Partners, Registered}
use Rattle.mt_terms.specs.Matching.{Places}
use Rattle.mt_terms.specs.Rounds.{stage}
use Rattle.mt_terms.specs.Stability.{stable}
use Rattle.mt_terms.specs.WellFormed.{IsWellFormed}
use Rattle.mt_orders.proofs.MarketFacts.{first_is_own}
use Rattle.mt_round_laws.proofs.RoundsStage.{stage_is_stable_lem}
use Rattle.mt_order_laws.specs.Aside.{aside_after, aside_in_turn, entering_at_end, market_of_others}
use Rattle.mt_order_laws.specs.Orders.{first_order, in_order, order_of}
use Rattle.mt_order_laws.specs.Reordered.{reordered, others, set_aside, IsOrderWithout}
use Rattle.mt_order_laws.proofs.EndFacts.{others_end_lem}
use Rattle.mt_order_laws.proofs.FormedFacts.{none_aside_lem, order_of_some, well_formed_in_any_order_lem}
use Rattle.mt_order_laws.proofs.OrderFacts.{orders_are_orders_lem}
use Rattle.mt_order_laws.proofs.StableFacts.{best_in_any_order_lem, stable_in_any_order_lem}
use Rattle.mt_orders.specs.Fewest.{aside_in_order, fewest_order, others_in_order}
use Rattle.mt_orders.proofs.FewestFacts.{aside_in_order_are_couples, fewest_in_words_lem, stable_in_order}
use Rattle.mt_answer.specs.Answer.{IsAnswerOfStage, all_proposals}
use Rattle.mt_answer.specs.Ways.{IsAnswerAside, IsAnswerOfNone, IsAnswerOfOrder}
use Rattle.mt_answer.specs.WayLaws.{AsideAreCouples, AsideInWords, IsStableAside, IsStableIn, PublishedInWaysIsStable}
use Rattle.mt_answer.proofs.WayFacts.{no_order_in_words_lem, other_code}

pub aside_are_couples_lem : AsideAreCouples
aside_are_couples_lem m best budget number = aside_in_order_are_couples m best budget number

-- ---- who is set aside next

-- those that are set aside stay so
goes_on : (m : Market) (best : Places) (budget n : ℕ) (aside : List ℕ) → (rest : List ℕ) × (aside_after m best budget n aside ≡ aside ++ rest)
goes_on m best budget zero aside = ([], sym (append-nil aside))
goes_on m best budget (suc n) aside = by (entering_at_end (market_of_others aside m) best budget) (λ more. goes_on m best budget n more)
  where
    by : (e : Option ℕ) → ((more : List ℕ) → (rest : List ℕ) × (aside_after m best budget n more ≡ more ++ rest))
        → (rest : List ℕ) × (option_map_or (λ k. aside_after m best budget n (aside ++ get_or (others aside m) k 0 ∷ [])) e aside ≡ aside ++ rest)
    by None next = ([], sym (append-nil aside))
    by (Some k) next =
        let x = get_or (others aside m) k 0 in
        let r = next (aside ++ x ∷ []) in
        (x ∷ r.0, r.1 ∙ append_assoc aside (x ∷ []) r.0)

-- the couple with this number is the one that is entering once the others before it are set aside
abbrev IsNext : Market → Places → ℕ → List ℕ → ℕ → Type 0
IsNext m best budget before c =
    (k : ℕ) × (entering_at_end (market_of_others before m) best budget ≡ Some k) × (c ≡ get_or (others before m) k 0)

too_long : (aside before : List ℕ) (c : ℕ) (after : List ℕ) → aside ≡ before ++ c ∷ after → length aside ≤ length before → ⊥
too_long aside before c after e l =
    let same : length aside ≡ length (before ++ c ∷ after) = ap length e in
    omega (arith, same, length-append before (c ∷ after))

next_aside : (m : Market) (best : Places) (budget n : ℕ) (aside before : List ℕ) (c : ℕ) (after : List ℕ)
    → aside_after m best budget n aside ≡ before ++ c ∷ after → length aside ≤ length before → IsNext m best budget before c
next_aside m best budget zero aside before c after e l = absurd (too_long aside before c after e l)
next_aside m best budget (suc n) aside before c after e l =
    by (entering_at_end (market_of_others aside m) best budget) refl (λ more is few. next_aside m best budget n more before c after is few) e
  where
    by : (o : Option ℕ) → entering_at_end (market_of_others aside m) best budget ≡ o
        → ((more : List ℕ) → aside_after m best budget n more ≡ before ++ c ∷ after → length more ≤ length before → IsNext m best budget before c)
        → option_map_or (λ k. aside_after m best budget n (aside ++ get_or (others aside m) k 0 ∷ [])) o aside ≡ before ++ c ∷ after
        → IsNext m best budget before c
    by None is rest h = absurd (too_long aside before c after h l)
    by (Some k) is rest h =
        let x = get_or (others aside m) k 0 in
        elim (cases_lt (length aside) (length before)) [
          | inl later ↦ rest (aside ++ x ∷ []) h (omega (arith, length-append aside (x ∷ [])))
          | inr here ↦
              let more = goes_on m best budget n (aside ++ x ∷ []) in
              let many : length before ≡ length aside = omega (arith, l) in
              let whole : before ++ c ∷ after ≡ aside ++ x ∷ more.0 = sym h ∙ more.1 ∙ append_assoc aside (x ∷ []) more.0 in
              let front : before ≡ aside =
              sym (take-append_seam before (c ∷ after)) ∙ ap (take (length before)) whole ∙ ap (λ (i : ℕ). take i (aside ++ x ∷ more.0)) many ∙ take-append_seam aside (x ∷ more.0) in
              let at : c ≡ x =
              sym (get_or-append_seam before c after 0) ∙ ap (λ (ys : List ℕ). get_or ys (length before) 0) whole ∙ ap (λ (i : ℕ). get_or (aside ++ x ∷ more.0) i 0) many
              ∙ get_or-append_seam aside x more.0 0 in
              subst (λ (ys : List ℕ). IsNext m best budget ys c) (sym front) (k, is, at)
        ]

pub aside_in_words_lem : AsideInWords
aside_in_words_lem m best budget c before after e = next_aside m best budget (length m.couples) [] before c after e (omega arith)

-- ---- what is published

-- the match in which the rounds of an order end is stable in the market in which the others want nothing
stable_of_order : (m : Market) → IsWellFormed m → (aside order : List ℕ) → IsOrderWithout m aside order → (best : Places) → IsBest m best
    → (budget : ℕ) (s : Places × ℕ) → stage (reordered order m) best budget ≡ Some s → stable (set_aside aside m) s.0 ≡ true
stable_of_order m wf aside order o best is_best budget s ends =
    sym (stable_in_any_order_lem m aside order wf o s.0)
    ∙ stage_is_stable_lem (reordered order m) (well_formed_in_any_order_lem m order wf (order_of_some m aside order o)) best (best_in_any_order_lem m order best is_best) budget s ends

stable_in_all : (m : Market) → IsWellFormed m → (number : ℕ) (best : Places) → IsBest m best → (budget : ℕ) (s : Places × ℕ)
    → stage (in_order number m) best budget ≡ Some s → stable m s.0 ≡ true
stable_in_all m wf number best is_best budget s ends =
    subst (λ (x : Market). stable x s.0 ≡ true) (none_aside_lem m)
    (stable_of_order m wf [] (order_of number (length m.couples)) (orders_are_orders_lem m number) best is_best budget s ends)

-- without couples it is the best match
no_order : (number : ℕ) → order_of number 0 ≡ []
no_order number = by (number == 1)
  where
    by : (b : Bool) → (if b then below 0 else []) ≡ []
    by true = refl
    by false = refl

alone_is_best : (m : Market) (number : ℕ) (best : Places) (budget : ℕ) (s : Places × ℕ) → stage (in_order number m) best budget ≡ Some s → m.couples ≡ [] → best ≡ s.0
alone_is_best m number best budget s ends none =
    let order : order_of number (length m.couples) ≡ [] = ap (λ (cs : List Partners). order_of number (length cs)) none ∙ no_order number in
    let alone : ◌≡◌ {A = Option (Places × ℕ)} (Some (best, budget - budget)) (Some s) =
    subst (λ (xs : List ℕ). stage (reordered xs m) best budget ≡ Some s) order ends in
    ap end_of alone
  where
    end_of : Option (Places × ℕ) → Places
    end_of None = []
    end_of (Some e) = e.0

all_kept : (xs : List ℕ) → filter (λ c. not (has [] c)) xs ≡ xs
all_kept [] = refl
all_kept (x ∷ xs) = ap (λ ys. x ∷ ys) (all_kept xs)

-- if the rounds don't end, somebody is set aside
some_in_turn : (m : Market) (best : Places) (budget : ℕ) → stage m best budget ≡ None → aside_in_turn m best budget ≢ []
some_in_turn m best budget spent empty =
    let all : market_of_others [] m ≡ in_order 1 m = ap (λ (order : List ℕ). reordered order m) (all_kept (below (length m.couples))) in
    others_end_lem m best budget
    (ap (λ (aside : List ℕ). stage (market_of_others aside m) best budget) empty ∙ ap (λ (x : Market). stage x best budget) (all ∙ first_is_own m) ∙ spent)

no_image : (f : ℕ → ℕ) (xs : List ℕ) → map f xs ≡ [] → xs ≡ []
no_image f [] e = refl
no_image f (x ∷ xs) e = absurd (let some : ◌≡◌ {A = List ℕ} (f x ∷ map f xs) [] = e in cc)

-- if no order ends, somebody is set aside in each
some_aside : (m : Market) (best : Places) (budget orders : ℕ) → 1 ≤ orders → first_order m best budget orders ≡ None
    → aside_in_order (fewest_order m best budget orders) m best budget ≢ []
some_aside m best budget orders one none empty =
    let k = fewest_order m best budget orders in
    let h = (fewest_in_words_lem m best budget orders k one).0 refl in
    let spent : stage (in_order k m) best budget ≡ None = (no_order_in_words_lem m best budget orders).0 none k h.0 h.1 in
    some_in_turn (in_order k m) best budget spent (no_image (λ c. get_or (order_of k (length m.couples)) c 0) (aside_in_turn (in_order k m) best budget) empty)

module _ (r : Registered) (formed : IsWellFormed r.market) (budget : ℕ) (orders : ℕ) (one : 1 ≤ orders) (best : Places) (is_best : IsBest r.market best) (code : ℕ) (text : List ℕ) where
  of_stage : (number : ℕ) (s : Option (Places × ℕ)) → stage (in_order number r.market) best budget ≡ s → IsAnswerOfStage r best s code text → code ≡ 0 → IsStableIn r text
  of_stage number None ends h is = absurd (other_code code h.0 is (λ e. omega arith))
  of_stage number (Some s) ends h is = record {
    places = s.0;
    proposals = all_proposals r best;
    is_text = h.1;
    is_stable = stable_in_all r.market formed number best is_best budget s ends;
    best = λ none. subst (IsBest r.market) (alone_is_best r.market number best budget s ends none) is_best;
  }

  not_of_aside : (aside : List ℕ) (s : Option (Places × ℕ)) → IsAnswerAside r best aside s code text → code ≡ 0 → ⊥
  not_of_aside aside None h is = h
  not_of_aside aside (Some s) h is = other_code code h.0 is (λ e. omega arith)

  not_of_none : (set_aside : Bool) → IsAnswerOfNone r best budget orders set_aside code text → code ≡ 0 → ⊥
  not_of_none false h is = other_code code h.0 is (λ e. omega arith)
  not_of_none true h is =
      let k = fewest_order r.market best budget orders in
      not_of_aside (aside_in_order k r.market best budget) (stage (others_in_order k r.market best budget) best budget) h is

  pub published_whole : (set_aside : Bool) (o : Option ℕ) → IsAnswerOfOrder r best budget (record { orders = orders; set_aside = set_aside }) o code text → code ≡ 0 → IsStableIn r text
  published_whole set_aside None h is = absurd (not_of_none set_aside h is)
  published_whole set_aside (Some number) h is = of_stage number (stage (in_order number r.market) best budget) refl h is

  of_others : (number : ℕ) → aside_in_order number r.market best budget ≢ [] → (s : Option (Places × ℕ)) → stage (others_in_order number r.market best budget) best budget ≡ s
      → IsAnswerAside r best (aside_in_order number r.market best budget) s code text → IsStableAside r text
  of_others number some None ends h = absurd h
  of_others number some (Some s) ends h = record {
    aside = aside_in_order number r.market best budget;
    some = some;
    are_couples = aside_are_couples_lem r.market best budget number;
    places = s.0;
    proposals = all_proposals r best;
    is_text = h.1;
    is_stable = stable_in_order r.market formed best is_best budget number s ends;
  }

  not_of_stage : (s : Option (Places × ℕ)) → IsAnswerOfStage r best s code text → code ≡ 6 → ⊥
  not_of_stage None h is = other_code code h.0 is (λ e. omega arith)
  not_of_stage (Some s) h is = other_code code h.0 is (λ e. omega arith)

  of_none : (set_aside : Bool) → first_order r.market best budget orders ≡ None → IsAnswerOfNone r best budget orders set_aside code text → code ≡ 6
      → (set_aside ≡ true) × IsStableAside r text
  of_none false e h is = absurd (other_code code h.0 is (λ x. omega arith))
  of_none true e h is =
      let k = fewest_order r.market best budget orders in
      (refl, of_others k (some_aside r.market best budget orders one e) (stage (others_in_order k r.market best budget) best budget) refl h)

  pub published_without : (set_aside : Bool) (o : Option ℕ) → first_order r.market best budget orders ≡ o
      → IsAnswerOfOrder r best budget (record { orders = orders; set_aside = set_aside }) o code text → code ≡ 6 → (set_aside ≡ true) × IsStableAside r text
  published_without set_aside None e h is = of_none set_aside e h is
  published_without set_aside (Some number) e h is = absurd (not_of_stage (stage (in_order number r.market) best budget) h is)

pub published_in_ways_is_stable_lem : PublishedInWaysIsStable
published_in_ways_is_stable_lem r budget ways code text formed one h = (
  (λ is. published_whole r formed.well_formed budget ways.orders one h.best h.is_best code text ways.set_aside (first_order r.market h.best budget ways.orders) h.ends is),
  (λ is. published_without r formed.well_formed budget ways.orders one h.best h.is_best code text ways.set_aside (first_order r.market h.best budget ways.orders) refl h.ends is),
)
