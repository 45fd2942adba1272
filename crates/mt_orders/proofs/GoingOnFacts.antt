-- The first couples of an order enter alike whatever comes after them. So the others go on from the match that they have
-- entered, and what ends there or not does so among the others alone.
use Rattle.std.proofs.Common.{◌≡◌, ℕ, suc, ◌+◌, ◌-◌, ◌<◌, ◌≤◌, Bool, true, false, not, ◌&&◌, ◌||◌, ◌==◌, nat_lt, List, [], ◌∷◌, ◌++◌, map, take, drop, length, get_or, Option, Some, None, inl, inr, refl, ap, ap₂, sym, ◌∙◌, arith, subst, eq-eqb, lt-ltb, option_map, option_and_then}
use Rattle.std.specs.List.{range_with_len, remove}
use Rattle.std.proofs.lemmas.Bool.{and_from, and_parts, cases_Bool, both_ways, not-true, not_from_false, or_from, or_left, or_right}
use Rattle.std.proofs.lemmas.List.{append_assoc, append-nil, get_or_append_left, get_or_default, length-append, length-map, length-take-le, take-append-drop, take-append-le, take_all}
use Rattle.std.proofs.lemmas.List.Edits.{length-remove, remove-append_left}
use Rattle.std.proofs.lemmas.List.Folds.{list_any-append}
use Rattle.mt_terms.specs.Best.{IsBest}
use Rattle.mt_terms.specs.Lists.{has, below, is_distinct}
use Rattle.mt_terms.specs.Market.{Market, couple_of}
use Rattle.mt_terms.specs.Matching.{Places}
use Rattle.mt_terms.specs.Rounds.{after_entries, after_rounds, stage}
use Rattle.mt_terms.specs.Stability.{fits}
use Rattle.mt_terms.specs.WellFormed.{IsWellFormed}
use Rattle.mt_terms.specs.declared.numbers.Agent.TheVariants.{Couple}
use Rattle.mt_round_laws.proofs.RoundsStage.{singles_fit}
use Rattle.mt_entry.specs.Reaching.{IsStuck, Leads}
use Rattle.mt_entry.specs.declared.ends.Reached.{Reached}
use Rattle.mt_order_laws.specs.Aside.{aside_after, aside_in_turn, entering_at_end}
use Rattle.mt_order_laws.specs.Reordered.{others, reordered, IsOrderOfSome, IsOrderWithout}
use Rattle.mt_order_laws.proofs.EndFacts.{entering_in_words_lem}
use Rattle.mt_order_laws.proofs.EntryFacts.{entries_before_alike_lem, range_append, entries_go_on}
use Rattle.mt_order_laws.proofs.FormedFacts.{none_aside_lem, order_of_some, others_are_order_lem}
use Rattle.mt_order_laws.proofs.StableFacts.{fits_in_any_order_lem}
use Rattle.mt_orders.proofs.AsideCouples.{one_more}
use Rattle.mt_orders.proofs.WithoutFacts.{all_are_others, all_turns, others_some, turn, turns_end}

-- The first n couples of a list have entered: this is the match, and what is left of the budget.
abbrev pub HaveEntered : Market → Places → ℕ → List ℕ → ℕ → Places → ℕ → Type 0
HaveEntered m best budget xs n places left = after_entries (reordered (take n xs) m) (below n) budget best ≡ Some (places, left)

-- ---- numbers that enter, in two parts

below_in_two : (n k : ℕ) → below (n + k) ≡ below n ++ range_with_len n k
below_in_two n k = let here : 0 + n ≡ n = omega arith in range_append 0 n k ∙ ap (λ s. below n ++ range_with_len s k) here

entries_on : (m : Market) (budget n k left : ℕ) (best places : Places) → after_entries m (below n) budget best ≡ Some (places, left)
    → after_entries m (below (n + k)) budget best ≡ after_entries m (range_with_len n k) left places
entries_on m budget n k left best places e =
    ap (λ ks. after_entries m ks budget best) (below_in_two n k)
    ∙ entries_go_on m (below n) (range_with_len n k) budget best
    ∙ ap (option_and_then (λ r. after_entries m (range_with_len n k) r.1 r.0)) e

-- the rounds of one couple end if its entry does
one_ends : (o : Option (Places × ℕ)) → option_and_then {U = Places × ℕ} (λ r. Some (r.0, r.1)) o ≡ None → o ≡ None
one_ends None e = refl
one_ends (Some r) e = absurd (let no : ◌≡◌ {A = Option (Places × ℕ)} (Some (r.0, r.1)) None = e in cc)

-- ---- the first couples of an order

module _ (m : Market) (wf : IsWellFormed m) (best : Places) (is : IsBest m best) (budget : ℕ) where
  first_alike : (zs : List ℕ) → IsOrderOfSome m zs → (n : ℕ) → n ≤ length zs
      → after_entries (reordered zs m) (below n) budget best ≡ after_entries (reordered (take n zs) m) (below n) budget best
  first_alike zs o n le =
      let parts : take n zs ++ drop n zs ≡ zs = take-append-drop n zs in
      let long : length (take n zs) ≡ n = length-take-le n zs le in
      ap₂ (λ ys k. after_entries (reordered ys m) (below k) budget best) (sym parts) (sym long)
      ∙ entries_before_alike_lem m (take n zs) (drop n zs) wf (subst (IsOrderOfSome m) (sym parts) o) best is budget
      ∙ ap (λ k. after_entries (reordered (take n zs) m) (below k) budget best) long

  -- at first none has entered
  pub none_entered : (xs : List ℕ) → HaveEntered m best budget xs 0 best budget
  none_entered xs = refl

  module _ (xs ys : List ℕ) (o : IsOrderOfSome m (xs ++ ys)) where
    of_whole : (k : ℕ) → k ≤ length xs
        → after_entries (reordered (xs ++ ys) m) (below k) budget best ≡ after_entries (reordered (take k xs) m) (below k) budget best
    of_whole k le =
        let fits_in : k ≤ length (xs ++ ys) = omega (arith, length-append xs ys) in
        first_alike (xs ++ ys) o k fits_in ∙ ap (λ zs. after_entries (reordered zs m) (below k) budget best) (take-append-le k xs ys le)

    -- they go on in an order with others after them
    pub more_entered : (n k : ℕ) (places next : Places) (left left' : ℕ) → n ≤ k → k ≤ length xs → HaveEntered m best budget xs n places left
        → after_entries (reordered (xs ++ ys) m) (range_with_len n (k - n)) left places ≡ Some (next, left') → HaveEntered m best budget xs k next left'
    more_entered n k places next left left' low high so_far on =
        let here : after_entries (reordered (xs ++ ys) m) (below n) budget best ≡ Some (places, left) = of_whole n (omega arith) ∙ so_far in
        let whole : n + (k - n) ≡ k = omega arith in
        sym (of_whole k high)
        ∙ ap (λ j. after_entries (reordered (xs ++ ys) m) (below j) budget best) (sym whole)
        ∙ entries_on (reordered (xs ++ ys) m) budget n (k - n) left best places here ∙ on

    -- if the rounds of the next one don't end, it is the one that is entering among the others alone
    pub next_enters : IsOrderOfSome m xs → (n : ℕ) (places : Places) (left : ℕ) → n < length xs → HaveEntered m best budget xs n places left
        → after_rounds (reordered (xs ++ ys) m) n left places (Couple n ∷ []) ≡ None → entering_at_end (reordered xs m) best budget ≡ Some n
    next_enters among n places left low so_far stuck =
        let whole = reordered (xs ++ ys) m in
        let alone = reordered xs m in
        let here : after_entries whole (below n) budget best ≡ Some (places, left) = of_whole n (omega arith) ∙ so_far in
        let there : after_entries alone (below n) budget best ≡ Some (places, left) = first_alike xs among n (omega arith) ∙ so_far in
        let none : after_entries alone (below (n + 1)) budget best ≡ None =
        first_alike xs among (n + 1) (omega arith) ∙ sym (of_whole (n + 1) (omega arith))
        ∙ entries_on whole budget n 1 left best places here ∙ ap (option_and_then {U = Places × ℕ} (λ (r : Places × ℕ). Some (r.0, r.1))) stuck in
        let within : n < length (map (couple_of m) xs) = omega (arith, length-map xs (couple_of m)) in
        (entering_in_words_lem alone best budget n).1
        (within, ((places, left), there, one_ends (after_rounds alone n left places (Couple n ∷ [])) (sym (entries_on alone budget n 1 left best places there) ∙ none)))

  -- once all of them have entered, their rounds end
  pub all_entered : (xs : List ℕ) → IsOrderOfSome m xs → (n : ℕ) (places : Places) (left : ℕ) → n ≡ length xs → HaveEntered m best budget xs n places left
      → stage (reordered xs m) best budget ≡ Some (places, budget - left)
  all_entered xs among n places left all so_far =
      let many : length (map (couple_of m) xs) ≡ n = length-map xs (couple_of m) ∙ sym all in
      ap (option_map (λ r. (r.0, budget - r.1)))
      (ap (λ k. after_entries (reordered xs m) (below k) budget best) many ∙ first_alike xs among n (omega arith) ∙ so_far)

-- ---- a couple is set aside

-- those before it stay
pub before_it_stay : (xs : List ℕ) (n : ℕ) → n < length xs → take n (remove xs n) ≡ take n xs
before_it_stay xs n low =
    let long : length (take n xs) ≡ n = length-take-le n xs (omega arith) in
    take-append-le n (take n xs) (drop (suc n) xs) (omega arith) ∙ take_all n (take n xs) (omega arith)

-- it goes to the end of the order
pub to_the_end : (xs ys : List ℕ) (n x : ℕ) → n < length xs → remove (xs ++ ys) n ++ x ∷ [] ≡ remove xs n ++ (ys ++ x ∷ [])
to_the_end xs ys n x low = ap (λ zs. zs ++ x ∷ []) (remove-append_left xs ys n low) ∙ append_assoc (remove xs n) ys (x ∷ [])

-- ---- the order of the others and then those set aside

distinct_both : (xs ys : List ℕ) → is_distinct xs ≡ true → is_distinct ys ≡ true → ((c : ℕ) → has xs c ≡ true → has ys c ≡ false)
    → is_distinct (xs ++ ys) ≡ true
distinct_both [] ys d e apart = e
distinct_both (x ∷ xs) ys d e apart =
    let parts = and_parts (not (has xs x)) (is_distinct xs) d in
    let free : has (xs ++ ys) x ≡ false =
    list_any-append (λ z. z == x) xs ys
    ∙ or_from (has xs x) (has ys x) (not-true (has xs x) parts.0) (apart x (or_left (x == x) (has xs x) (eq-eqb x x refl))) in
    and_from (not (has (xs ++ ys) x)) (is_distinct (xs ++ ys)) (not_from_false _ free)
    (distinct_both xs ys parts.1 e (λ c on. apart c (or_right (x == c) (has xs c) on)))

pub all_in_turn : (m : Market) (aside : List ℕ) → IsOrderOfSome m aside → IsOrderWithout m [] (others aside m ++ aside)
all_in_turn m aside o =
    let xs = others aside m in
    let w = others_are_order_lem m aside in
    record {
      distinct = distinct_both xs aside w.distinct o.distinct (λ c on.
          not-true (has aside c) (and_parts (nat_lt c (length m.couples)) (not (has aside c)) (sym (w.of_others c) ∙ on)).1);
      of_others = λ c. list_any-append (λ z. z == c) xs aside ∙ elim (cases_Bool (has aside c)) [
        | inl on ↦
            or_right (has xs c) (has aside c) on
            ∙ sym (and_from (nat_lt c (length m.couples)) true (lt-ltb c (length m.couples) (o.within c on)) refl)
        | inr off ↦ ap (λ b. b || has aside c) (w.of_others c) ∙ split (nat_lt c (length m.couples)) (has aside c) off
      ];
    }
  where
    split : (p q : Bool) → q ≡ false → ((p && not q) || q) ≡ (p && true)
    split true false e = refl
    split false false e = refl
    split p true e = absurd (both_ways true e refl)

-- whether a match fits is the same in an order of all couples
pub fits_in_turn : (m : Market) → IsWellFormed m → (order : List ℕ) → IsOrderWithout m [] order → (places : Places) → fits (reordered order m) places ≡ fits m places
fits_in_turn m wf order o places = fits_in_any_order_lem m [] order wf o places ∙ ap (λ x. fits x places) (none_aside_lem m)

-- ---- the turns

-- Some couples are set aside, and the order has the others and then these. The first n of the others have entered.
pub record IsTurn (m : Market) (best : Places) (budget : ℕ) (order aside : List ℕ) (n : ℕ) (places : Places) (left : ℕ) : Type 0 where
  pub some : IsOrderOfSome m aside
  pub order_is : order ≡ others aside m ++ aside
  pub same : aside_after m best budget (length (others aside m)) aside ≡ aside_in_turn m best budget
  pub low : n ≤ length (others aside m)
  pub reached : HaveEntered m best budget (others aside m) n places left
  pub fitting : fits m places ≡ true

pub order_of_turn : (m : Market) (order aside : List ℕ) → IsOrderOfSome m aside → order ≡ others aside m ++ aside → IsOrderWithout m [] order
order_of_turn m order aside o is = subst (IsOrderWithout m []) (sym is) (all_in_turn m aside o)

-- how many others there are
pub others_many : (m : Market) (order aside : List ℕ) → order ≡ others aside m ++ aside → length order ≡ length (others aside m) + length aside
others_many m order aside is = ap length is ∙ length-append (others aside m) aside

pub first_turn : (m : Market) → IsWellFormed m → (best : Places) → IsBest m best → (budget n : ℕ) (xs none : List ℕ) → none ≡ [] → xs ≡ below n → n ≡ length m.couples
    → IsTurn m best budget xs none 0 best budget
first_turn m wf best is budget n xs none empty all many =
    let own = all_are_others m n xs all many in
    subst (λ aside. IsTurn m best budget xs aside 0 best budget) (sym empty) (record {
      some = record { distinct = refl; within = λ c h. cc };
      order_is = own ∙ sym (append-nil (others [] m));
      same = ap (λ ys. aside_after m best budget (length ys) []) (sym own) ∙ all_turns m best budget n xs all many;
      low = omega arith;
      reached = refl;
      fitting = singles_fit m wf best is.is_stable;
    })

module _ (m : Market) (wf : IsWellFormed m) (best : Places) (is : IsBest m best) (budget : ℕ) (order aside : List ℕ) where
  whole_some : IsOrderOfSome m aside → IsOrderOfSome m (others aside m ++ aside)
  whole_some o = order_of_some m [] (others aside m ++ aside) (all_in_turn m aside o)

  pub turn_goes_on : (n k : ℕ) (places next : Places) (left left' : ℕ) → IsTurn m best budget order aside n places left → n ≤ k → k ≤ length (others aside m)
      → after_entries (reordered order m) (range_with_len n (k - n)) left places ≡ Some (next, left') → fits m next ≡ true
      → IsTurn m best budget order aside k next left'
  turn_goes_on n k places next left left' t up high on fit = record {
    some = t.some;
    order_is = t.order_is;
    same = t.same;
    low = high;
    reached = more_entered m wf best is budget (others aside m) aside (whole_some t.some) n k places next left left' up high t.reached
        (ap (λ zs. after_entries (reordered zs m) (range_with_len n (k - n)) left places) (sym t.order_is) ∙ on);
    fitting = fit;
  }

  pub turns_done : (n : ℕ) (places : Places) (left : ℕ) → IsTurn m best budget order aside n places left → n ≡ length (others aside m)
      → stage (reordered (others aside m) m) best budget ≡ Some (places, budget - left)
  turns_done n places left t all = all_entered m wf best is budget (others aside m) (others_some m aside (others aside m) refl) n places left all t.reached

  pub all_aside : (n : ℕ) (places : Places) (left : ℕ) → IsTurn m best budget order aside n places left → n ≡ length (others aside m)
      → aside ≡ aside_in_turn m best budget
  all_aside n places left t all =
      sym (turns_end m best budget (length (others aside m)) aside (others aside m) (places, budget - left) refl (turns_done n places left t all)) ∙ t.same

  pub one_aside : (order' aside' : List ℕ) (k x : ℕ) (places : Places) (left : ℕ) → IsTurn m best budget order aside k places left → k < length (others aside m)
      → after_rounds (reordered order m) k left places (Couple k ∷ []) ≡ None → x ≡ get_or order k x → order' ≡ remove order k ++ x ∷ [] → aside' ≡ aside ++ x ∷ []
      → IsTurn m best budget order' aside' k places left
  one_aside order' aside' k x places left t low stuck at order_is aside_is =
      let xs = others aside m in
      let entering = next_enters m wf best is budget xs aside (whole_some t.some) (others_some m aside xs refl) k places left low t.reached
      (ap (λ zs. after_rounds (reordered zs m) k left places (Couple k ∷ [])) (sym t.order_is) ∙ stuck) in
      let here : x ≡ get_or xs k x = at ∙ ap (λ zs. get_or zs k x) t.order_is ∙ get_or_append_left xs aside x k low in
      let zero_here : get_or xs k 0 ≡ x = sym (here ∙ get_or_default xs k x 0 low) in
      let next = turn m best budget k x aside xs (remove xs k) refl entering low here refl in
      let long : length (remove xs k) + 1 ≡ length xs = length-remove xs k low in
      subst (λ ys. IsTurn m best budget order' ys k places left) (sym aside_is) (record {
        some = subst (λ y. IsOrderOfSome m (aside ++ y ∷ [])) zero_here (one_more m aside k t.some low);
        order_is = order_is ∙ ap (λ zs. remove zs k ++ x ∷ []) t.order_is ∙ to_the_end xs aside k x low ∙ ap (λ zs. zs ++ (aside ++ x ∷ [])) next.0;
        same = ap (λ zs. aside_after m best budget (length zs) (aside ++ x ∷ [])) (sym next.0) ∙ next.1 ∙ t.same;
        low = subst (λ zs. k ≤ length zs) next.0 (omega arith);
        reached = ap (λ zs. after_entries (reordered zs m) (below k) budget best) (ap (take k) (sym next.0) ∙ before_it_stay xs k low) ∙ t.reached;
        fitting = t.fitting;
      })

  -- the couples below a number have gone on to enter the market of the order
  pub turn_leads : (whole : Market) (start end : Reached) → whole ≡ reordered order m → IsTurn m best budget order aside start.entered start.matched.places start.left
      → Leads whole start end → end.entered ≤ length order - length aside → fits whole end.matched.places ≡ true
      → IsTurn m best budget order aside end.entered end.matched.places end.left
  turn_leads whole start end same t leads high fit =
      turn_goes_on start.entered end.entered start.matched.places end.matched.places start.left end.left t leads.order
      (omega (arith, others_many m order aside t.order_is))
      (ap (λ x. after_entries x (range_with_len start.entered (end.entered - start.entered)) start.left start.matched.places) (sym same) ∙ leads.entries)
      (sym (fits_in_turn m wf order (order_of_turn m order aside t.some t.order_is) end.matched.places) ∙ ap (λ x. fits x end.matched.places) (sym same) ∙ fit)

  -- the next couple is stuck in the market of the order, and is set aside
  pub turn_stuck : (whole : Market) (r : Reached) (order' aside' : List ℕ) (x : ℕ) → whole ≡ reordered order m
      → IsTurn m best budget order aside r.entered r.matched.places r.left → r.entered < length order - length aside → IsStuck whole r → x ≡ get_or order r.entered x
      → order' ≡ remove order r.entered ++ x ∷ [] → aside' ≡ aside ++ x ∷ [] → IsTurn m best budget order' aside' r.entered r.matched.places r.left
  turn_stuck whole r order' aside' x same t low stuck at order_is aside_is =
      one_aside order' aside' r.entered x r.matched.places r.left t (omega (arith, others_many m order aside t.order_is))
      (ap (λ z. after_rounds z r.entered r.left r.matched.places (Couple r.entered ∷ [])) (sym same) ∙ stuck) at order_is aside_is
