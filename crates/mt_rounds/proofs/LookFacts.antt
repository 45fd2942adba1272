-- Who is found when programs that were left are rechecked, and who is passed over.
use Rattle.std.proofs.Common.{◌≡◌, ◌∙◌, ℕ, zero, suc, ◌+◌, ◌<◌, ◌≤◌, Bool, true, false, not, ◌&&◌, ◌==◌, List, [], ◌∷◌, ◌++◌, filter, drop, length, get_or, Some, refl, ap, sym, subst, inl, inr, arith, ap₂}
use Rattle.std.proofs.lemmas.List.{drop_more}
use Rattle.std.proofs.lemmas.Bool.{cases_lt, and_parts, and_from, or_left, eq-eqb, both_ways, false≢true, false_from_ne_true, not_from_false, not-true, cases_Bool}
use Rattle.mt_terms.specs.Lists.{Set, has, until}
use Rattle.mt_terms.specs.Market.{Market, applicants, agent_of, couple_of, members, program_of, list_of}
use Rattle.mt_terms.specs.Matching.{at}
use Rattle.mt_terms.specs.Rounds.{has_entered, is_on, joined}
use Rattle.mt_terms.specs.WellFormed.{IsWellFormed}
use Rattle.mt_terms.specs.declared.numbers.Agent.{Agent}
use Rattle.mt_terms.specs.declared.numbers.Agent.TheVariants.{Single, Couple}
use Rattle.mt_ranks.specs.Ranked.{rank_of}
use Rattle.mt_round_laws.proofs.RoundsLists.{found, finds, has_in}
use Rattle.mt_round_laws.proofs.RoundsAgents.{member_of_agent, one_of_two, IsAgent, agent_of_applicant, couple_number}
use Rattle.mt_bits.specs.Members.{IsFirstFrom}
use Rattle.mt_stage_tables.specs.Waiting.{with_agents, Waiting}
use Rattle.mt_assignment.specs.Assigned.{has_post, Assigned, AreApplicantsOf, IsAssigned}
use Rattle.mt_rounds.specs.Looking.{Adds, HaveReopened}
use Rattle.mt_rounds.specs.Waiting.{agents_of}
use Rattle.mt_assignment.specs.Moves.{opens}
use Rattle.mt_assignment.specs.Blocking.{is_reopened}
use Rattle.mt_assignment.specs.Watched.{wanted, better_entries}
use Rattle.mt_terms.proofs.ListFacts.{has_front}
use Rattle.mt_assignment.proofs.LiveFacts.{post_for, opens_live}
use Rattle.mt_assignment.proofs.RankFacts.{has_rank, index_of, any_default, at_rank, rank_at_place}
use Rattle.mt_stage_tables.proofs.OrderFacts.{has_at}
use Rattle.mt_stage_tables.proofs.GrowingFacts.{has_end, has_parts}
use Rattle.mt_rounds.proofs.JoinFacts.{next_mapped}
use Rattle.mt_rounds.proofs.QuietFacts.{blocking, is_agent, looking_joins, looking_skips, IsLooking}
use Rattle.mt_terms.proofs.AgentFacts.{single_is_itself}
use Rattle.mt_ranks.specs.declared.entries.Live.{Live}
use Rattle.mt_assignment.proofs.EntryFacts.{entry_in, entry_wanted}

-- who is reopened while more wait was so before
pub reopened_before : (k : ℕ) (s : Assigned) (ps : List ℕ) (old now : List Agent) (g : Agent) → ((h : Agent) → is_on old h ≡ true → is_on now h ≡ true)
    → is_reopened k s ps now g ≡ true → is_reopened k s ps old g ≡ true
reopened_before k s ps old now g grows reopened =
    let parts = and_parts (has_entered k g && not (is_on now g)) (opens s ps g) reopened in
    let out = and_parts (has_entered k g) (not (is_on now g)) parts.0 in
    let off : is_on old g ≡ false = false_from_ne_true _ (λ on. both_ways (is_on now g) (not-true _ out.1) (grows g on)) in
    and_from _ _ (and_from _ _ out.0 (not_from_false _ off)) parts.1

-- Below, a program's list is rechecked from one place to another. The agents between them aren't reopened.
module _ (k : ℕ) (s : Assigned) (ps : List ℕ) (wf : IsWellFormed s.market) (start : Waiting) (all : List Agent) where
  abbrev pub Rest : List ℕ → Waiting → ℕ → Type 0
  Rest xs now i = IsLooking k s ps start now (filter (blocking k s) (agents_of s (drop i xs))) all

  pub passing : (xs : List ℕ) → ((a : ℕ) → has xs a ≡ true → a < applicants s.market) → (now : Waiting) (n i : ℕ) → i + n ≤ length xs
      → ((x : ℕ) → i ≤ x → x < i + n → is_reopened k s ps now.agents (agent_of s.market (get_or xs x 0)) ≡ false) → Rest xs now i → Rest xs now (i + n)
  passing xs known now zero i within none looking = let e : i ≡ i + 0 = omega arith in subst (Rest xs now) e looking
  passing xs known now (suc n) i within none looking =
      let a = get_or xs i 0 in
      let a_in : a < applicants s.market = known a (has_at xs i 0 (omega arith)) in
      let split : agents_of s (drop i xs) ≡ agent_of s.market a ∷ agents_of s (drop (i + 1) xs) = ap (agents_of s) (drop_more xs i 0 (omega arith)) in
      let now_at : IsLooking k s ps start now (filter (blocking k s) (agent_of s.market a ∷ agents_of s (drop (i + 1) xs))) all =
      subst (λ gs. IsLooking k s ps start now (filter (blocking k s) gs) all) split looking in
      let next = looking_skips k s ps start now (agent_of s.market a) (agents_of s (drop (i + 1) xs)) all now_at (is_agent s.market wf a a_in) (none i (omega arith) (omega arith)) in
      let e : i + 1 + n ≡ i + suc n = omega arith in
      subst (Rest xs now) e (passing xs known now n (i + 1) (omega arith) (λ x low high. none x (omega arith) (omega arith)) next)

  -- the one at a place is rechecked, and joins or doesn't
  pub passes_joined : (xs : List ℕ) → (now new : Waiting) (i a : ℕ) → i < length xs → a ≡ get_or xs i a → Rest xs now i → is_reopened k s ps now.agents (agent_of s.market a) ≡ true
      → new ≡ with_agents now (joined now.agents (agent_of s.market a)) → Rest xs new (i + 1)
  passes_joined xs now new i a within read looking reopened is =
      let split : agents_of s (drop i xs) ≡ agent_of s.market a ∷ agents_of s (drop (i + 1) xs) = next_mapped (agent_of s.market) xs i a within read in
      looking_joins k s ps start now new (agent_of s.market a) (agents_of s (drop (i + 1) xs)) all
      (subst (λ gs. IsLooking k s ps start now (filter (blocking k s) gs) all) split looking) reopened is

  pub passes_skipped : (xs : List ℕ) → (now : Waiting) (i a : ℕ) → i < length xs → a ≡ get_or xs i a → a < applicants s.market → Rest xs now i
      → is_reopened k s ps now.agents (agent_of s.market a) ≡ false → Rest xs now (i + 1)
  passes_skipped xs now i a within read known looking other =
      let split : agents_of s (drop i xs) ≡ agent_of s.market a ∷ agents_of s (drop (i + 1) xs) = next_mapped (agent_of s.market) xs i a within read in
      looking_skips k s ps start now (agent_of s.market a) (agents_of s (drop (i + 1) xs)) all
      (subst (λ gs. IsLooking k s ps start now (filter (blocking k s) gs) all) split looking) (is_agent s.market wf a known) other

  -- between the ranks that were passed and those to come nobody is reopened
  pub none_between : (p : ℕ) (now : Waiting) (ranks : List ℕ) (i next bound x : ℕ) → HaveReopened k s p ps start.agents ranks
      → ((g : Agent) → is_on start.agents g ≡ true → is_on now.agents g ≡ true) → ((j : ℕ) → j < i → get_or ranks j 0 < next)
      → ((j : ℕ) → i ≤ j → j < length ranks → bound ≤ get_or ranks j 0) → next ≤ x → x < bound → x < length (program_of s.market p).ranking
      → is_reopened k s ps now.agents (agent_of s.market (get_or (program_of s.market p).ranking x 0)) ≡ false
  none_between p now ranks i next bound x have grows passed coming low high within =
      let ranking = (program_of s.market p).ranking in
      let a = get_or ranking x 0 in
      false_from_ne_true _ (λ reopened.
      let known = wf.rankings_within p a (has_at ranking x 0 within) in
      let ranked = rank_at_place ranking x a (wf.rankings_distinct p) within (any_default ranking x 0 a within) in
      let on = have.all a x known (reopened_before k s ps start.agents now.agents (agent_of s.market a) grows reopened) ranked in
      let w = index_of x ranks (has_in x ranks on) in
      let is : x ≡ get_or ranks w.0 0 = w.2 ∙ any_default ranks w.0 x 0 w.1 in
      elim (cases_lt w.0 i) [
        | inl before ↦ (let l = passed w.0 before in omega arith)
        | inr after ↦ (let l = coming w.0 after w.1 in omega arith)
      ])

-- Below, a single at a rank of a program's list is found if it has a better option there that would be taken.
module _ (s : Assigned) (p : ℕ) where
  abbrev pub IsFoundAt : List ℕ → ℕ → Type 0
  IsFoundAt found r = (a : ℕ) → rank_of s.market p a ≡ Some r → agent_of s.market a ≡ Single a → opens s (p ∷ []) (Single a) ≡ true → has found a ≡ true

  same_there : (r x a : ℕ) → r < length (program_of s.market p).ranking → x ≡ get_or (program_of s.market p).ranking r x → rank_of s.market p a ≡ Some r → x ≡ a
  same_there r x a within read ranked = read ∙ any_default (program_of s.market p).ranking r x 0 within ∙ (at_rank (program_of s.market p).ranking a r ranked).1

  pub found_at : (found : List ℕ) (r x : ℕ) → r < length (program_of s.market p).ranking → x ≡ get_or (program_of s.market p).ranking r x → IsFoundAt (found ++ x ∷ []) r
  found_at found r x within read a ranked single opened = subst (λ y. has (found ++ x ∷ []) y ≡ true) (same_there r x a within read ranked) (has_end found x)

  -- what is found at each rank of a set below a number, and below one past its next rank
  pub found_below : (ranks : Set) (found more : List ℕ) (number r : ℕ) → IsFirstFrom ranks number r → ((a : ℕ) → has found a ≡ true → has more a ≡ true)
      → ((q : ℕ) → ranks q ≡ true → q < number → IsFoundAt found q) → IsFoundAt more r → (q : ℕ) → ranks q ≡ true → q < r + 1 → IsFoundAt more q
  found_below ranks found more number r next keeps before here q on low = elim (cases_lt q number) [
    | inl earlier ↦ (λ a ranked single opened. keeps a (before q on earlier a ranked single opened))
    | inr later ↦ elim (cases_lt q r) [
      | inl between ↦ absurd (both_ways (ranks q) (next.first q later between) on)
      | inr past ↦ (let e : r ≡ q = omega arith in subst (IsFoundAt more) e here)
    ]
  ]

  -- a single with a rank for which the program has no post has no such option there
  pub closed_at : (found : List ℕ) (r : ℕ) → IsAssigned s → has_post s p r ≡ false → IsFoundAt found r
  closed_at found r ok none a ranked single opened = absurd (both_ways (has_post s p r) none (post_for s ok a (within_at a ranked) p r ranked opened))
    where
      within_at : (a : ℕ) → rank_of s.market p a ≡ Some r → a < applicants s.market
      within_at a ranked = ok.well_formed.rankings_within p a (has_rank (program_of s.market p).ranking a r ranked)

-- the members of a couple are found
abbrev pub AreFound : Assigned → List ℕ → ℕ → Type 0
AreFound s found c = (a : ℕ) → agent_of s.market a ≡ Couple c → has found a ≡ true

-- so they are once both were put at the end
pub found_both : (s : Assigned) (found : List ℕ) (c x y : ℕ) → x ≡ (couple_of s.market c).first → y ≡ (couple_of s.market c).second → AreFound s ((found ++ x ∷ []) ++ y ∷ []) c
found_both s found c x y is_first is_second a of_a =
    elim (one_of_two (couple_of s.market c).first (couple_of s.market c).second a (subst (λ g. has (members s.market g) a ≡ true) of_a (member_of_agent s.market a))) [
      | inl first ↦ has_front (found ++ x ∷ []) (y ∷ []) a (subst (λ z. has (found ++ x ∷ []) z ≡ true) (is_first ∙ first) (has_end found x))
      | inr second ↦ subst (λ z. has ((found ++ x ∷ []) ++ y ∷ []) z ≡ true) (is_second ∙ second) (has_end (found ++ x ∷ []) y)
    ]

-- applicants of a market, and one more
pub within_more : (m : Market) (xs : List ℕ) (x : ℕ) → AreApplicantsOf m xs → x < applicants m → AreApplicantsOf m (xs ++ x ∷ [])
within_more m xs x all within a on = elim (has_parts xs x a on) [ inl earlier ↦ all a earlier | inr here ↦ subst (λ y. y < applicants m) here within ]

-- one more is added
pub adds_one : (m : Market) (old now : List ℕ) (x : ℕ) → Adds m old now → x < applicants m → Adds m old (now ++ x ∷ [])
adds_one m old now x so_far within = record {
  keeps = λ a on. has_front now (x ∷ []) a (so_far.keeps a on);
  within = λ all. within_more m now x (so_far.within all) within;
}

-- some are added after others
pub adds_more : (m : Market) (old mid new : List ℕ) → Adds m old mid → Adds m mid new → Adds m old new
adds_more m old mid new first second = record { keeps = λ a on. second.keeps a (first.keeps a on); within = λ all. second.within (first.within all) }

-- a single that wants a program more than what it has, and that has a post for it, has an option there
pub opens_there : (s : Assigned) → IsAssigned s → (a p r : ℕ) → a < applicants s.market → has (wanted s a) p ≡ true → rank_of s.market p a ≡ Some r
    → has_post s p r ≡ true → opens s (p ∷ []) (Single a) ≡ true
opens_there s ok a p r within wants ranked post =
    let e = entry_in (better_entries s a) p r (entry_wanted s ok a within p r ranked ∙ wants) in
    let here : has (p ∷ []) e.0.program ≡ true = or_left (p == e.0.program) false (eq-eqb p e.0.program (sym e.2)) in
    let passes : has_post s e.0.program e.0.rank ≡ true = ap₂ (has_post s) e.2 e.3 ∙ post in
    sym (opens_live s ok a within (p ∷ []))
    ∙ finds (λ (x : Live). has (p ∷ []) x.program && has_post s x.program x.rank) e.0 (better_entries s a) e.1 (and_from _ _ here passes)

-- an applicant that wants a program is a single: a couple's members have no lists
pub wants_single : (s : Assigned) → IsWellFormed s.market → (a p : ℕ) → a < applicants s.market → has (wanted s a) p ≡ true → agent_of s.market a ≡ Single a
wants_single s wf a p within wants = by_agent (agent_of s.market a) refl
  where
    no_list : (c : ℕ) → agent_of s.market a ≡ Couple c → list_of s.market a ≡ []
    no_list c of_a =
        let known = couple_number s.market c (subst (IsAgent s.market) of_a (agent_of_applicant s.market wf a within)) in
        let member = subst (λ g. has (members s.market g) a ≡ true) of_a (member_of_agent s.market a) in
        elim (one_of_two (couple_of s.market c).first (couple_of s.market c).second a member) [
          | inl is_first ↦ ap (list_of s.market) (sym is_first) ∙ (wf.first_member c known).no_list
          | inr is_second ↦ ap (list_of s.market) (sym is_second) ∙ (wf.second_member c known).no_list
        ]

    by_agent : (g : Agent) → agent_of s.market a ≡ g → agent_of s.market a ≡ Single a
    by_agent (Single b) is = single_is_itself s.market a b is
    by_agent (Couple c) is = absurd (false≢true (ap (λ ps. has (until (λ q. at s.places q a) ps) p) (sym (no_list c is)) ∙ wants))

-- who waits already doesn't join again
joins_again : (w : Waiting) (g : Agent) → is_on w.agents g ≡ true → with_agents w (joined w.agents g) ≡ w
joins_again w g waits = rw waits refl

-- a single at a place of a list that has an option is put on the list of who waits, if it doesn't wait yet
pub passes_found : (k : ℕ) (s : Assigned) (ps : List ℕ) (wf : IsWellFormed s.market) (start : Waiting) (all : List Agent) (xs : List ℕ)
    → (now new : Waiting) (i a : ℕ) → i < length xs → a ≡ get_or xs i a → a < applicants s.market → Rest k s ps wf start all xs now i
    → agent_of s.market a ≡ Single a → opens s ps (Single a) ≡ true → new ≡ with_agents now (joined now.agents (Single a))
    → Rest k s ps wf start all xs new (i + 1)
passes_found k s ps wf start all xs now new i a within read a_in looking single opened is = elim (cases_Bool (is_on now.agents (Single a))) [
  | inl waits ↦
      let idle : (true && not (is_on now.agents (Single a))) ≡ false = ap not waits in
      let other : is_reopened k s ps now.agents (agent_of s.market a) ≡ false =
      ap (is_reopened k s ps now.agents) single ∙ ap (λ (b : Bool). b && opens s ps (Single a)) idle in
      subst (λ (w : Waiting). Rest k s ps wf start all xs w (i + 1)) (sym (is ∙ joins_again now (Single a) waits))
      (passes_skipped k s ps wf start all xs now i a within read a_in looking other)
  | inr off ↦
      let reopened : is_reopened k s ps now.agents (agent_of s.market a) ≡ true =
      ap (is_reopened k s ps now.agents) single ∙ and_from (true && not (is_on now.agents (Single a))) (opens s ps (Single a)) (not_from_false _ off) opened in
      passes_joined k s ps wf start all xs now new i a within read looking reopened (is ∙ ap (λ g. with_agents now (joined now.agents g)) (sym single))
]
