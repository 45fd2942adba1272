-- The agents of a market, their members and their options.
use Rattle.std.proofs.Common.{◌≡◌, ℕ, suc, ◌+◌, ◌<◌, true, false, ◌==◌, List, [], ◌∷◌, filter, length, ◌⊎◌, inl, inr, refl, ap, sym, arith, subst, slice_index_or, eq-eqb, eqb-true, Option, ◌∙◌}
use Rattle.std.specs.List.{list_any}
use Rattle.std.proofs.lemmas.Bool.{cases_Bool, or_cases, or_left, or_right, false≢true, ne_eqb, false_from_ne_true, both_ways}
use Rattle.mt_terms.specs.Lists.{has, below, is_distinct}
use Rattle.mt_terms.specs.Market.{Market, Partners, applicants, list_of, couple_of, is_member, agent_from, agent_of, members, leads, agents}
use Rattle.mt_terms.specs.Matching.{Placement, single_placement, couple_placement, options, Places, place_of, send}
use Rattle.mt_terms.specs.WellFormed.{IsWellFormed}
use Rattle.mt_terms.specs.Rounds.{is_same_agent}
use Rattle.mt_terms.specs.declared.numbers.Agent.{Agent}
use Rattle.mt_terms.specs.declared.numbers.Agent.TheVariants.{Single, Couple}
use Rattle.mt_terms.proofs.AgentFacts.{agent_from_single}
use Rattle.mt_round_laws.proofs.RoundsLists.{In, in_image, of_image, in_kept, of_kept, in_below, of_below, found, finds, has_in, in_has}
use Rattle.mt_round_laws.proofs.RoundsSets.{has_head}
use Rattle.mt_round_laws.proofs.RoundsPlaces.{movers, send_there, send_elsewhere}
pub use Rattle.mt_terms.proofs.AgentFacts.{is_same_agent_refl, same_agent}

-- whether an agent stands on a list of agents
pub on_list : (g : Agent) (gs : List Agent) → In g gs → list_any (is_same_agent g) gs ≡ true
on_list g gs i = finds (is_same_agent g) g gs i (is_same_agent_refl g)

-- and the other way round
pub of_list : (g : Agent) (gs : List Agent) → list_any (is_same_agent g) gs ≡ true → In g gs
of_list g gs h = let w = found (is_same_agent g) gs h in subst (λ x. In x gs) (sym (same_agent g w.0 w.2)) w.1

-- An agent of the market: its members are applicants that belong to it alone.
pub record IsAgent (m : Market) (g : Agent) : Type 0 where
  pub within : (a : ℕ) → has (members m g) a ≡ true → a < applicants m
  pub belongs : (a : ℕ) → has (members m g) a ≡ true → agent_of m a ≡ g
  pub distinct : is_distinct (members m g) ≡ true

-- the couple to which an applicant belongs, and that has it as a member
abbrev HasMember : List Partners → ℕ → ℕ → ℕ → Partners → Type 0
HasMember xs c a d none = (k : ℕ) × (k < length xs) × (d ≡ c + k) × (is_member (slice_index_or xs k none) a ≡ true)

agent_from_couple : (xs : List Partners) (c a d : ℕ) (none : Partners) → agent_from xs c a ≡ Couple d → HasMember xs c a d none
agent_from_couple [] c a d none e = absurd cc
agent_from_couple (x ∷ xs) c a d none e = elim (cases_Bool (is_member x a)) [
  | inl t ↦ here t
  | inr t ↦ later (agent_from_couple xs (c + 1) a d none (rw t at e))
]
  where
    here : is_member x a ≡ true → HasMember (x ∷ xs) c a d none
    here t =
        let both : Couple c ≡ Couple d = rw t at e in
        let is : c ≡ d = cc in
        (0, omega arith, omega arith, t)

    later : HasMember xs (c + 1) a d none → HasMember (x ∷ xs) c a d none
    later w = (suc w.0, omega arith, omega arith, w.3)

-- who stands on a list of one
only_one : (x a : ℕ) → has (x ∷ []) a ≡ true → x ≡ a
only_one x a h = elim (or_cases (x == a) false h) [ inl e ↦ eqb-true x a e | inr e ↦ absurd (false≢true e) ]

-- who stands on a list of two
pub one_of_two : (x y a : ℕ) → has (x ∷ y ∷ []) a ≡ true → (x ≡ a) ⊎ (y ≡ a)
one_of_two x y a h = elim (or_cases (x == a) (has (y ∷ []) a) h) [ inl e ↦ inl (eqb-true x a e) | inr e ↦ inr (only_one y a e) ]

-- the two members of a couple
pub couple_members : (m : Market) → IsWellFormed m → (c : ℕ) → c < length m.couples → IsAgent m (Couple c)
couple_members m wf c l =
    let one = wf.first_member c l in
    let two = wf.second_member c l in
    let apart = wf.two_members c l in
    record {
      within = λ a i. elim (one_of_two _ _ a i) [
        | inl e ↦ subst (λ x. x < applicants m) e one.within
        | inr e ↦ subst (λ x. x < applicants m) e two.within
      ];
      belongs = λ a i. elim (one_of_two _ _ a i) [
        | inl e ↦ subst (λ x. agent_of m x ≡ Couple c) e one.belongs
        | inr e ↦ subst (λ x. agent_of m x ≡ Couple c) e two.belongs
      ];
      distinct = rw (ne_eqb (couple_of m c).second (couple_of m c).first (λ e. apart (sym e))) refl;
    }

-- a single is an agent of the market
pub single_member : (m : Market) (a : ℕ) → a < applicants m → agent_of m a ≡ Single a → IsAgent m (Single a)
single_member m a l e = record {
  within = λ b i. subst (λ x. x < applicants m) (only_one a b i) l;
  belongs = λ b i. subst (λ x. agent_of m x ≡ Single a) (only_one a b i) e;
  distinct = refl;
}

-- a couple that is an agent of the market is one of its couples
pub couple_number : (m : Market) (c : ℕ) → IsAgent m (Couple c) → c < length m.couples
couple_number m c h =
    let a = (couple_of m c).first in
    let w = agent_from_couple m.couples 0 a c (record { first = 0; second = 0; pairs = [] }) (h.belongs a (has_head a ((couple_of m c).second ∷ []))) in
    omega arith

-- an applicant belongs to an agent of the market
pub agent_of_applicant : (m : Market) → IsWellFormed m → (a : ℕ) → a < applicants m → IsAgent m (agent_of m a)
agent_of_applicant m wf a l = by_kind (agent_of m a) refl
  where
    by_kind : (g : Agent) → agent_of m a ≡ g → IsAgent m g
    by_kind (Single b) e =
        let is : b ≡ a = agent_from_single m.couples 0 a b e in
        single_member m b (subst (λ x. x < applicants m) (sym is) l) (subst (λ x. agent_of m x ≡ Single b) (sym is) e)
    by_kind (Couple c) e =
        let w = agent_from_couple m.couples 0 a c (record { first = 0; second = 0; pairs = [] }) e in
        couple_members m wf c (omega arith)

-- who is one of a couple's two members stands on their list
pub either_member : (p : Partners) (a : ℕ) → is_member p a ≡ true → has (p.first ∷ p.second ∷ []) a ≡ true
either_member p a h = elim (or_cases (p.first == a) (p.second == a) h) [
  | inl e ↦ or_left (p.first == a) (has (p.second ∷ []) a) e
  | inr e ↦ or_right (p.first == a) (has (p.second ∷ []) a) (or_left (p.second == a) false e)
]

-- and is a member of it
pub member_of_agent : (m : Market) (a : ℕ) → has (members m (agent_of m a)) a ≡ true
member_of_agent m a = by_kind (agent_of m a) refl
  where
    by_kind : (g : Agent) → agent_of m a ≡ g → has (members m g) a ≡ true
    by_kind (Single b) e = or_left (b == a) false (eq-eqb b a (agent_from_single m.couples 0 a b e))
    by_kind (Couple c) e =
        let w = agent_from_couple m.couples 0 a c (record { first = 0; second = 0; pairs = [] }) e in
        let is : w.0 ≡ c = omega arith in
        either_member (couple_of m c) a (subst (λ k. is_member (couple_of m k) a ≡ true) is w.3)

-- the agents of the market are those that it lists
leader_on_list : (m : Market) (g : Agent) (a : ℕ) → a < applicants m → leads m a ≡ true → agent_of m a ≡ g → In g (agents m)
leader_on_list m g a within leading is =
    subst (λ h. In h (agents m)) is
    (in_image (agent_of m) a (filter (leads m) (below (applicants m))) (in_kept (leads m) a (below (applicants m)) (in_below a (applicants m) within) leading))

-- an agent of the market is on its list of agents
pub agent_on_list : (m : Market) (g : Agent) → IsAgent m g → In g (agents m)
agent_on_list m (Single a) h =
    let is = h.belongs a (has_head a []) in
    leader_on_list m (Single a) a (h.within a (has_head a [])) (rw is refl) is
agent_on_list m (Couple c) h =
    let a = (couple_of m c).first in
    let i = has_head a ((couple_of m c).second ∷ []) in
    let is = h.belongs a i in
    leader_on_list m (Couple c) a (h.within a i) (rw is (eq-eqb a a refl)) is

-- and the other way round
pub agent_from_list : (m : Market) → IsWellFormed m → (g : Agent) → In g (agents m) → IsAgent m g
agent_from_list m wf g i =
    let w = of_image (agent_of m) g (filter (leads m) (below (applicants m))) i in
    let v = of_kept (leads m) w.0 (below (applicants m)) w.1 in
    subst (IsAgent m) w.2 (agent_of_applicant m wf w.0 (of_below w.0 (applicants m) v.0))

-- an option names its agent's members
pub option_movers : (m : Market) (g : Agent) (sent : Placement) → In sent (options m g) → movers sent ≡ members m g
option_movers m (Single a) sent i = let w = of_image (single_placement a) sent (list_of m a) i in sym (ap movers w.2)
option_movers m (Couple c) sent i =
    let w = of_image (couple_placement (couple_of m c).first (couple_of m c).second) sent (couple_of m c).pairs i in sym (ap movers w.2)

-- two agents share no member
pub apart : {m : Market} {g h : Agent} → IsAgent m g → IsAgent m h → is_same_agent h g ≡ false
    → (a : ℕ) → has (members m h) a ≡ true → has (members m g) a ≡ false
apart {m} {g} {h} of_g of_h other a i = false_from_ne_true (has (members m g) a) (λ j.
    both_ways (is_same_agent h g) other (ap (is_same_agent h) (sym (of_g.belongs a j) ∙ of_h.belongs a i) ∙ is_same_agent_refl h))

-- where an option sends a member of its agent
pub option_entry : (m : Market) (h : Agent) (o : Placement) → In o (options m h) → (a : ℕ) → has (members m h) a ≡ true
    → (v : Option ℕ) × In (a, v) o
option_entry m h o i a member =
    let named : has (movers o) a ≡ true = subst (λ xs. has xs a ≡ true) (sym (option_movers m h o i)) member in
    let s = of_image (λ (s : ℕ × Option ℕ). s.0) a o (has_in a (movers o) named) in
    (s.0.1, subst (λ b. In (b, s.0.1) o) s.2 s.1)

-- whom an option names is a member of its agent
pub option_member : (m : Market) (h : Agent) (o : Placement) → In o (options m h) → (a : ℕ) (v : Option ℕ) → In (a, v) o → has (members m h) a ≡ true
option_member m h o i a v sends =
    subst (λ xs. has xs a ≡ true) (option_movers m h o i) (in_has a (movers o) (in_image (λ (s : ℕ × Option ℕ). s.0) (a, v) o sends))

-- once an agent's members are sent by an option, each is where the option sends it
pub option_there : {m : Market} {h : Agent} → IsAgent m h → (o : Placement) → In o (options m h) → (places : Places) → length places ≡ applicants m
    → (a : ℕ) (v : Option ℕ) → In (a, v) o → place_of (send o places) a ≡ v
option_there {m} {h} of_h o i places one_each a v sends =
    let within = of_h.within a (option_member m h o i a v sends) in
    let distinct : is_distinct (movers o) ≡ true = subst (λ xs. is_distinct xs ≡ true) (sym (option_movers m h o i)) of_h.distinct in
    send_there o places a v distinct (omega arith) sends

-- and nobody else is moved
pub option_elsewhere : (m : Market) (h : Agent) (o : Placement) → In o (options m h) → (places : Places) (a : ℕ) → has (members m h) a ≡ false
    → place_of (send o places) a ≡ place_of places a
option_elsewhere m h o i places a other = send_elsewhere o places a (subst (λ xs. has xs a ≡ false) (sym (option_movers m h o i)) other)
