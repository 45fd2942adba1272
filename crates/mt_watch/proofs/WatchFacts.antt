-- Who is watched where, once an agent has moved.
use Rattle.std.proofs.Common.{◌≡◌, ◌∙◌, ℕ, ◌<◌, Bool, true, false, ◌==◌, List, [], ◌∷◌, ◌++◌, map, length, refl, ap, sym, subst, inl, inr, arith}
use Rattle.std.proofs.lemmas.List.Folds.{list_any-append}
use Rattle.std.proofs.lemmas.Bool.{cases_Bool, or_cases, or_parts, eqb-true, both_ways, false_from_ne_true}
use Rattle.std.proofs.Math.Bool.{or-false}
use Rattle.mt_terms.specs.Lists.{has, until}
use Rattle.mt_terms.specs.Market.{Market, applicants, agent_of, couple_of, list_of, members, program_of}
use Rattle.mt_terms.specs.Matching.{Places, Placement, place_of, is_program, at, send}
use Rattle.mt_terms.specs.Rounds.{displaced, is_same_agent}
use Rattle.mt_terms.specs.declared.numbers.Agent.{Agent}
use Rattle.mt_terms.specs.declared.numbers.Agent.TheVariants.{Single, Couple}
use Rattle.mt_terms.proofs.ListFacts.{has_front}
use Rattle.mt_round_laws.proofs.RoundsLists.{In, has_in, in_has, of_image, of_until}
use Rattle.mt_round_laws.proofs.RoundsAgents.{IsAgent, agent_of_applicant, couple_number, member_of_agent, of_list, one_of_two, option_movers, same_agent}
use Rattle.mt_round_laws.proofs.RoundsMove.{IsMove, match_after, displaced_agents, is_displaced, untouched}
use Rattle.mt_assignment.specs.Assigned.{Assigned}
use Rattle.mt_assignment.specs.Moves.{IsTaking}
use Rattle.mt_assignment.specs.Watched.{wanted, AreWatched, Follows, IsWatched, IsWithinList, KeepsOthers}
use Rattle.mt_watch.specs.Watching.{Counts, CountsAll, FollowsAll}
use Rattle.mt_watch.specs.declared.watch.Watch.{Watch}
use Rattle.mt_assignment.proofs.MoveFacts.{is_move}
use Rattle.mt_stage_tables.proofs.GrowingFacts.{has_parts}
use Rattle.mt_assignment.proofs.RankFacts.{has_rank}
use Rattle.mt_assignment.proofs.EntryFacts.{watched_still}

-- an applicant is watched at programs of its list alone
pub watched_within : (s : Assigned) (rows : List (List Bool)) (a : ℕ) → IsWatched s rows a → IsWithinList s.market rows a
watched_within s rows a is p r known ranked here =
    in_has p (list_of s.market a) (of_until (λ q. at s.places q a) p (list_of s.market a) (has_in p (wanted s a) (sym (is p r known ranked) ∙ here)))

pub within_still : (m : Market) (old new : List (List Bool)) (xs : List ℕ) (a : ℕ) → KeepsOthers m old new xs → has xs a ≡ false → IsWithinList m old a → IsWithinList m new a
within_still m old new xs a keeps other is p r known ranked here = is p r known ranked (sym (keeps a p r other known ranked) ∙ here)

-- some are watched anew, and one more
pub follows_more : (s : Assigned) (old mid new : List (List Bool)) (xs : List ℕ) (x : ℕ) → FollowsAll s old mid xs → Follows s mid new x → FollowsAll s old new (xs ++ x ∷ [])
follows_more s old mid new xs x first second = record {
  as_many = second.as_many ∙ first.as_many;
  others = λ many b p r other known ranked.
      let parts = or_parts (has xs b) (has (x ∷ []) b) (sym (list_any-append (λ z. z == b) xs (x ∷ [])) ∙ other) in
      second.others (first.as_many ∙ many) b p r parts.1 known ranked ∙ first.others many b p r parts.0 known ranked;
  watched = λ many inside a on.
      let before : has xs a ≡ true → IsWatched s mid a = first.watched many (λ b there. inside b (has_front xs (x ∷ []) b there)) a in
      let inside_mid : IsWithinList s.market mid a = elim (cases_Bool (has xs a)) [
        | inl there ↦ watched_within s mid a (before there)
        | inr other ↦ within_still s.market old mid xs a (first.others many) other (inside a on)
      ] in
      elim (cases_Bool (has (x ∷ []) a)) [
        | inl now ↦ subst (IsWatched s new) (eqb-true x a (sym (or-false (x == a)) ∙ now))
            (second.watched (first.as_many ∙ many) (subst (IsWithinList s.market mid) (sym (eqb-true x a (sym (or-false (x == a)) ∙ now))) inside_mid))
        | inr other ↦ watched_still s mid new (x ∷ []) a (second.others (first.as_many ∙ many)) other (before (was a on other))
      ];
}
  where
    was : (a : ℕ) → has (xs ++ x ∷ []) a ≡ true → has (x ∷ []) a ≡ false → has xs a ≡ true
    was a on other = elim (or_cases (has xs a) (has (x ∷ []) a) (sym (list_any-append (λ z. z == a) xs (x ∷ [])) ∙ on)) [
      | inl earlier ↦ earlier
      | inr now ↦ absurd (both_ways (has (x ∷ []) a) other now)
    ]

-- couples are counted again for some, and for one more
pub counts_more : (s : Assigned) (old mid new : Watch) (xs : List ℕ) (x : ℕ) → CountsAll s old mid xs → Counts s mid new x → CountsAll s old new (xs ++ x ∷ [])
counts_more s old mid new xs x first second = record {
  as_many = second.as_many ∙ first.as_many;
  keeps = λ c is. second.keeps c (first.keeps c is);
  counted = λ a on c of_a low. elim (has_parts xs x a on) [
    | inl earlier ↦ second.keeps c (first.counted a earlier c of_a low)
    | inr here ↦ second.counted c (ap (agent_of s.market) here ∙ of_a) (omega (arith, first.as_many, low))
  ];
}

-- Below, an agent takes an option: the applicants that have another place after that are watched anew, so all are
-- watched by where they are.
module _ {m : Market} {old : Places} {g : Agent} {sent : Placement} (taking : IsTaking m old g sent) where
  abbrev before : Assigned
  before = record { market = m; places = old }

  abbrev after : Assigned
  after = record { market = m; places = match_after m old sent }

  pub watched_after : (rows mid new : List (List Bool)) → AreWatched before rows → FollowsAll after rows mid (map (λ s. s.0) sent)
      → FollowsAll after mid new (displaced m (send sent old) sent) → AreWatched after new
  watched_after rows mid new watched first second = record {
    one_each = second.as_many ∙ first.as_many ∙ watched.one_each;
    each = λ a within. elim (cases_Bool (has gone a)) [
      | inl out ↦ second.watched many (λ b there. inside_mid b) a out
      | inr stay ↦ watched_still after mid new gone a (second.others many) stay (elim (cases_Bool (has movers a)) [
        | inl moves ↦ first.watched watched.one_each (λ b there. inside b) a moves
        | inr other ↦ watched_still after rows mid movers a (first.others watched.one_each) other (λ p r known ranked.
            watched.each a within p r known ranked ∙ ap (λ ps. has ps p) (same_wish a within stay other))
      ])
    ];
  }
    where
      mv : IsMove m old g sent
      mv = is_move taking

      gone : List ℕ
      gone = displaced m (send sent old) sent

      movers : List ℕ
      movers = map (λ s. s.0) sent

      many : length mid ≡ length m.programs
      many = first.as_many ∙ watched.one_each

      inside : (a : ℕ) → IsWithinList m rows a
      inside a p r known ranked here =
          watched_within before rows a (watched.each a (mv.well_formed.rankings_within p a (has_rank (program_of m p).ranking a r ranked))) p r known ranked here

      inside_mid : (a : ℕ) → IsWithinList m mid a
      inside_mid a = elim (cases_Bool (has movers a)) [
        | inl moves ↦ watched_within after mid a (first.watched watched.one_each (λ b there. inside b) a moves)
        | inr other ↦ within_still m rows mid movers a (first.others watched.one_each) other (inside a)
      ]

      no_list : (a c : ℕ) → a < applicants m → agent_of m a ≡ Couple c → list_of m a ≡ []
      no_list a c within of_a =
          let known = couple_number m c (subst (IsAgent m) of_a (agent_of_applicant m mv.well_formed a within)) in
          elim (one_of_two (couple_of m c).first (couple_of m c).second a (subst (λ x. has (members m x) a ≡ true) of_a (member_of_agent m a))) [
            | inl is_first ↦ ap (list_of m) (sym is_first) ∙ (mv.well_formed.first_member c known).no_list
            | inr is_second ↦ ap (list_of m) (sym is_second) ∙ (mv.well_formed.second_member c known).no_list
          ]

      -- who isn't displaced and isn't sent anywhere wants what it wanted
      same_wish : (a : ℕ) → a < applicants m → has gone a ≡ false → has movers a ≡ false → wanted before a ≡ wanted after a
      same_wish a within stay other = by_agent (agent_of m a) refl
        where
          by_agent : (h : Agent) → agent_of m a ≡ h → wanted before a ≡ wanted after a
          by_agent (Couple c) of_a =
              let none = no_list a c within of_a in
              ap (until (λ q. is_program q (place_of old a))) none ∙ sym (ap (until (λ q. is_program q (place_of (match_after m old sent) a))) none)
          by_agent (Single b) of_a =
              let own : has (members m (Single b)) a ≡ true = subst (λ x. has (members m x) a ≡ true) of_a (member_of_agent m a) in
              let here : b ≡ a = eqb-true b a (sym (or-false (b == a)) ∙ own) in
              let unmoved : is_displaced m old sent (Single b) ≡ false = false_from_ne_true _ (λ out.
              let z = of_image (agent_of m) (Single b) gone (of_list (Single b) (displaced_agents m old sent) out) in
              let there : b ≡ z.0 = eqb-true b z.0 (sym (or-false (b == z.0)) ∙ subst (λ x. has (members m x) z.0 ≡ true) z.2 (member_of_agent m z.0)) in
              both_ways (has gone a) stay (in_has a gone (subst (λ x. In x gone) (sym there ∙ here) z.1))) in
              let another : is_same_agent (Single b) g ≡ false = false_from_ne_true _ (λ same.
              both_ways (has movers a) other (ap (λ xs. has xs a) (option_movers m g sent mv.option) ∙ subst (λ x. has (members m x) a ≡ true) (same_agent (Single b) g same) own)) in
              let same = untouched mv (Single b) (subst (IsAgent m) of_a (agent_of_applicant m mv.well_formed a within)) unmoved another a own in
              ap (λ v. until (λ q. is_program q v) (list_of m a)) (sym same)
