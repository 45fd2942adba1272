-- Whose pairs are indexed, and how many pairs a couple wants more than what it has.
use Rattle.std.proofs.Common.{◌≡◌, ◌∙◌, ℕ, ◌<◌, ◌≤◌, true, false, not, ◌&&◌, ◌==◌, nat_le, List, Vec, Global, ◌∷◌, map, length, get_or, refl, ap, ap₂, sym, subst, inl, inr, arith}
use Rattle.std.proofs.lemmas.Bool.{and_from, and_parts, both_ways, cases_Bool, cases_lt, eq-eqb, false_from_ne_true, not-true, not_from_false, or_from, or_left, or_parts, or_right}
use Rattle.std.proofs.lemmas.List.{get_or_past}
use Rattle.mt_terms.specs.Lists.{has, until}
use Rattle.mt_terms.specs.Market.{Market, Pair, Partners, agent_of, couple_of, members}
use Rattle.mt_terms.specs.Matching.{Places, Placement, better, holds, is_same_place, place_of, send}
use Rattle.mt_terms.specs.Rounds.{displaced, is_on, is_same_agent}
use Rattle.mt_terms.specs.declared.numbers.Agent.{Agent}
use Rattle.mt_terms.specs.declared.numbers.Agent.TheVariants.{Couple}
use Rattle.mt_terms.proofs.ListFacts.{until-le}
use Rattle.mt_round_laws.proofs.RoundsLists.{In, in_has, of_image}
use Rattle.mt_round_laws.proofs.RoundsAgents.{IsAgent, agent_of_applicant, of_list, option_movers, same_agent}
use Rattle.mt_round_laws.proofs.RoundsMove.{IsMove, match_after, displaced_agents, is_displaced, untouched}
use Rattle.mt_assignment.specs.Assigned.{Assigned, pair_of}
use Rattle.mt_watch.specs.Watching.{AreIndexed, AreCounted, CountsAll, IsCounted, IsIndexed}
use Rattle.mt_assignment.specs.Moves.{IsTaking}
use Rattle.mt_assignment.specs.Watched.{better_pairs}
use Rattle.mt_stage_tables.specs.Named.{indexed_count}
use Rattle.mt_watch.specs.declared.watch.Watch.{Watch}
use Rattle.mt_assignment.proofs.MoveFacts.{is_move}

-- a couple wants no more pairs than it lists
pub counted_within : (s : Assigned) (counts : List ℕ) (c : ℕ) → AreCounted s counts → c < length s.market.couples → get_or counts c 0 ≤ length (couple_of s.market c).pairs
counted_within s counts c counted known =
    omega (arith, counted.each c known, until-le (λ pair. holds s.places (pair_of s c pair)) (couple_of s.market c).pairs)

-- who has a pair on its list is a couple of the market
pub couple_with_pair : (m : Market) (c : ℕ) (x : Pair) → In x (couple_of m c).pairs → c < length m.couples
couple_with_pair m c x on = elim (cases_lt c (length m.couples)) [
  | inl within ↦ within
  | inr past ↦ absurd (subst (λ (k : Partners). In x k.pairs) (get_or_past m.couples c _ past) on)
]

-- A couple that has entered and doesn't wait has its better pairs indexed. So it is if more are indexed, and if an agent
-- that has its better pairs indexed waits no more.
pub indexed_more : (k : ℕ) (ws : List Agent) (w next : Watch) → next.better ≡ w.better
    → ((c : ℕ) → indexed_count w.couples c ≤ indexed_count next.couples c) → AreIndexed k ws w → AreIndexed k ws next
indexed_more k ws w next better keeps indexed c idle =
    let same : get_or next.better.items c 0 ≡ get_or w.better.items c 0 = ap (λ (v : Vec ℕ Global). get_or v.items c 0) better in
    omega (arith, same, keeps c, indexed c idle)

pub indexed_without : (k : ℕ) (g : Agent) (ws : List Agent) (w : Watch) → ((c : ℕ) → g ≡ Couple c → IsIndexed w c) → AreIndexed k (g ∷ ws) w → AreIndexed k ws w
indexed_without k g ws w own indexed c idle =
    let parts = and_parts (nat_le c k) (not (is_on ws (Couple c))) idle in
    elim (cases_Bool (is_same_agent (Couple c) g)) [
      | inl same ↦ own c (sym (same_agent (Couple c) g same))
      | inr other ↦ indexed c (and_from _ _ parts.0 (not_from_false _ (or_from (is_same_agent (Couple c) g) (is_on ws (Couple c)) other (not-true _ parts.1))))
    ]

-- these pairs, by the members' places
pub same_pairs : (m : Market) (s t : Places) (c : ℕ) → place_of s (couple_of m c).first ≡ place_of t (couple_of m c).first
    → place_of s (couple_of m c).second ≡ place_of t (couple_of m c).second
    → better_pairs (record { market = m; places = s }) c ≡ better_pairs (record { market = m; places = t }) c
same_pairs m s t c first second = ap₂ (λ u v. until (λ (pair : Pair). is_same_place u pair.0 && (is_same_place v pair.1 && true)) (couple_of m c).pairs) first second

-- Below, an agent takes an option: it is counted again for the couples that have another place after that.
module _ {m : Market} {old : Places} {g : Agent} {sent : Placement} (taking : IsTaking m old g sent) where
  abbrev before : Assigned
  before = record { market = m; places = old }

  abbrev after : Assigned
  after = record { market = m; places = match_after m old sent }

  mv : IsMove m old g sent
  mv = is_move taking

  agent : (c : ℕ) → c < length m.couples → IsAgent m (Couple c)
  agent c known =
      let first = mv.well_formed.first_member c known in
      subst (IsAgent m) first.belongs (agent_of_applicant m mv.well_formed (couple_of m c).first first.within)

  -- a couple that neither takes the option nor is displaced by it wants the same pairs as before
  same_better : (c : ℕ) → c < length m.couples → is_displaced m old sent (Couple c) ≡ false → is_same_agent (Couple c) g ≡ false → better_pairs before c ≡ better_pairs after c
  same_better c known stay other =
      let a = (couple_of m c).first in
      let b = (couple_of m c).second in
      let same = untouched mv (Couple c) (agent c known) stay other in
      same_pairs m old (match_after m old sent) c (sym (same a (or_left (a == a) _ (eq-eqb a a refl)))) (sym (same b (or_right (a == b) _ (or_left (b == b) false (eq-eqb b b refl)))))

  pub counted_after : (w mid new : Watch) → AreCounted before w.better.items → CountsAll after w mid (map (λ s. s.0) sent)
      → CountsAll after mid new (displaced m (send sent old) sent) → AreCounted after new.better.items
  counted_after w mid new counted first second = record {
    one_each = second.as_many ∙ first.as_many ∙ counted.one_each;
    each = λ c known. elim (cases_Bool (is_displaced m old sent (Couple c))) [
      | inl out ↦ goes c known (of_image (agent_of m) (Couple c) (displaced m (send sent old) sent) (of_list (Couple c) (displaced_agents m old sent) out))
      | inr stay ↦ elim (cases_Bool (is_same_agent (Couple c) g)) [
        | inl same ↦ moves c known (same_agent (Couple c) g same)
        | inr other ↦ stays c known stay other
      ]
    ];
  }
    where
      goes : (c : ℕ) → c < length m.couples → (z : ℕ) × In z (displaced m (send sent old) sent) × (agent_of m z ≡ Couple c) → IsCounted after new.better.items c
      goes c known z = second.counted z.0 (in_has z.0 _ z.1) c z.2 (omega (arith, first.as_many, counted.one_each))

      moves : (c : ℕ) → c < length m.couples → Couple c ≡ g → IsCounted after new.better.items c
      moves c known is =
          let a = (couple_of m c).first in
          let member = subst (λ x. has (members m x) a ≡ true) is (or_left (a == a) _ (eq-eqb a a refl)) in
          let on = ap (λ xs. has xs a) (option_movers m g sent mv.option) ∙ member in
          second.keeps c (first.counted a on c (mv.well_formed.first_member c known).belongs (omega (arith, counted.one_each)))

      stays : (c : ℕ) → c < length m.couples → is_displaced m old sent (Couple c) ≡ false → is_same_agent (Couple c) g ≡ false → IsCounted after new.better.items c
      stays c known stay other = second.keeps c (first.keeps c (counted.each c known ∙ ap (λ (ps : List Pair). length ps) (same_better c known stay other)))

  -- a couple has all better pairs indexed after that, if it doesn't wait: the agent by what is indexed now, and others
  -- since they want the same pairs as before
  pub indexed_after : (k : ℕ) (ws now : List Agent) (w next : Watch) → AreCounted before w.better.items → AreCounted after next.better.items → AreIndexed k (g ∷ ws) w
      → ((c : ℕ) → g ≡ Couple c → IsIndexed next c) → ((c : ℕ) → indexed_count w.couples c ≤ indexed_count next.couples c)
      → ((h : Agent) → is_on ws h ≡ true → is_on now h ≡ true) → ((h : Agent) → is_on (displaced_agents m old sent) h ≡ true → is_on now h ≡ true) → AreIndexed k now next
  indexed_after k ws now w next counted recounted indexed own keeps stay_on come_on = indexed_without k g now next own (λ c idle.
      let parts = and_parts (nat_le c k) (not (is_on (g ∷ now) (Couple c))) idle in
      let off = or_parts (is_same_agent (Couple c) g) (is_on now (Couple c)) (not-true _ parts.1) in
      let not_out : is_displaced m old sent (Couple c) ≡ false = false_from_ne_true _ (λ on. both_ways (is_on now (Couple c)) off.1 (come_on (Couple c) on)) in
      let not_there : is_on ws (Couple c) ≡ false = false_from_ne_true _ (λ on. both_ways (is_on now (Couple c)) off.1 (stay_on (Couple c) on)) in
      let enough = indexed c (and_from _ _ parts.0 (not_from_false _ (or_from (is_same_agent (Couple c) g) (is_on ws (Couple c)) off.0 not_there))) in
      elim (cases_lt c (length m.couples)) [
        | inl known ↦
            let same : length (better_pairs before c) ≡ length (better_pairs after c) = ap (λ (ps : List Pair). length ps) (same_better c known not_out off.0) in
            omega (arith, counted.each c known, recounted.each c known, same, enough, keeps c)
        | inr past ↦ (let none = get_or_past next.better.items c 0 (omega (arith, recounted.one_each)) in omega (arith, none))
      ])
