-- An agent's better options: a couple's by its pairs, and a single's by its live entries, which have its ranks.
use Rattle.std.proofs.Common.{◌≡◌, ◌∙◌, ℕ, ◌+◌, ◌<◌, Bool, true, false, ◌&&◌, ◌||◌, ◌==◌, List, [], ◌∷◌, map, filter, take, length, get_or, Option, Some, None, is_some, unwrap_or, refl, ap, ap₂, sym, subst, inl, inr, arith, le-ltb, nat_lt, if◌then◌else◌}
use Rattle.std.specs.Option.{option_map}
use Rattle.std.specs.List.{find, list_any}
use Rattle.std.proofs.Math.Bool.{and-true, or-false}
use Rattle.std.proofs.lemmas.Bool.{cases_Bool, both_ways, and_parts, and_right, eqb-true}
use Rattle.mt_terms.specs.Lists.{has, until, count, above}
use Rattle.mt_terms.specs.Market.{applicants, couple_of, list_of, live, live_market, program_of}
use Rattle.mt_terms.specs.Matching.{place_of, is_program, at, better, holds, send, single_placement}
use Rattle.mt_terms.specs.Stability.{would_be_taken}
use Rattle.mt_terms.specs.declared.numbers.Agent.TheVariants.{Single, Couple}
use Rattle.mt_terms.proofs.BelowFacts.{map_below_at}
use Rattle.mt_terms.proofs.ListFacts.{distinct-take, has-take-position, until_position, list_any-map}
use Rattle.mt_stability_laws.proofs.ListLemmas.{until-map}
use Rattle.mt_ranks.specs.Ranked.{rank_of, ranked_entry}
use Rattle.mt_ranks.specs.declared.entries.Live.{Live}
use Rattle.mt_round_laws.proofs.RoundsFits.{listing_program}
use Rattle.mt_round_laws.proofs.RoundsLists.{In, found, of_image, of_kept, same_until}
use Rattle.mt_assignment.specs.Assigned.{Assigned, has_post, pair_of, taken_by, AreSent, IsAssigned}
use Rattle.mt_assignment.specs.Moves.{names_one_of, opens}
use Rattle.mt_assignment.specs.Watched.{better_entries, better_pairs, wanted}
use Rattle.mt_stage_tables.proofs.ListFacts.{is_some-find, is_some-option_map}
use Rattle.mt_assignment.proofs.RankFacts.{has_rank, has_no_rank}
use Rattle.mt_round_laws.proofs.SentCounts.{comes, leaves, count_sent, in_read}
use Rattle.mt_assignment.proofs.SentFacts.{sent_there}
use Rattle.mt_terms.proofs.AgentFacts.{holds_single}

-- if what stops is kept, a filter keeps what stands before it
until-filter : {X : Type 0} (test keep : X → Bool) (xs : List X) → ((x : X) → test x ≡ true → keep x ≡ true) → until test (filter keep xs) ≡ filter keep (until test xs)
until-filter {X} test keep [] h = refl
until-filter {X} test keep (x ∷ xs) h = by_head (test x) (keep x) refl refl (until-filter test keep xs h)
  where
    by_head : (t k : Bool) → test x ≡ t → keep x ≡ k → until test (filter keep xs) ≡ filter keep (until test xs) → until test (filter keep (x ∷ xs)) ≡ filter keep (until test (x ∷ xs))
    by_head true true stops stays later = rw (stops, stays, stops) refl
    by_head true false stops out later = absurd (both_ways (keep x) out (h x stops))
    by_head false true goes stays later = rw (goes, stays, goes) (ap (λ ys. x ∷ ys) later)
    by_head false false goes out later = rw (goes, out) later

-- what stands before the first that passes doesn't pass
before_stop : {X : Type 0} (test : X → Bool) (x : X) (xs : List X) → In x (until test xs) → test x ≡ false
before_stop {X} test x [] i = absurd i
before_stop {X} test x (y ∷ ys) i = by_head (test y) refl (before_stop test x ys)
  where
    by_head : (t : Bool) → test y ≡ t → (In x (until test ys) → test x ≡ false) → test x ≡ false
    by_head true stops later = absurd (rw stops at i)
    by_head false goes later =
        let here : In x (y ∷ until test ys) = rw goes at i in
        elim here [ inl is ↦ ap test (sym is) ∙ goes | inr rest ↦ later rest ]

pub find-map : {X Y : Type 0} (test : Y → Bool) (f : X → Y) (xs : List X) → find test (map f xs) ≡ option_map f (find (λ x. test (f x)) xs)
find-map test f [] = refl
find-map test f (x ∷ xs) = elim (cases_Bool (test (f x))) [ inl t ↦ rw t refl | inr t ↦ rw t (find-map test f xs) ]

-- a couple's better options are the pairs that it wants more than what it has
pub better_couple : (s : Assigned) (c : ℕ) → better s.market s.places (Couple c) ≡ map (pair_of s c) (better_pairs s c)
better_couple s c = until-map (holds s.places) (pair_of s c) (couple_of s.market c).pairs

-- Below, of the programs of a list those that are kept have an entry each, and one is taken if its entry passes.
module _ (taken keep : ℕ → Bool) (post : Live → Bool) (entry : ℕ → Live) (named : (q : ℕ) → (entry q).program ≡ q) where
  first_kept : (xs : List ℕ) → ((q : ℕ) → In q xs → taken q ≡ (keep q && post (entry q)))
      → find taken xs ≡ option_map (λ (e : Live). e.program) (find post (map entry (filter keep xs)))
  first_kept [] same = refl
  first_kept (x ∷ xs) same = by_head (keep x) (post (entry x)) refl refl (first_kept xs (λ q i. same q (inr i)))
    where
      by_head : (k p : Bool) → keep x ≡ k → post (entry x) ≡ p → find taken xs ≡ option_map (λ (e : Live). e.program) (find post (map entry (filter keep xs)))
          → find taken (x ∷ xs) ≡ option_map (λ (e : Live). e.program) (find post (map entry (filter keep (x ∷ xs))))
      by_head true true kept passes later =
          let t : taken x ≡ true = same x (inl refl) ∙ ap₂ (λ (a b : Bool). a && b) kept passes in
          rw (t, kept, passes) (ap Some (sym (named x)))
      by_head true false kept fails later =
          let t : taken x ≡ false = same x (inl refl) ∙ ap₂ (λ (a b : Bool). a && b) kept fails in
          rw (t, kept, fails) later
      by_head false p out is later =
          let t : taken x ≡ false = same x (inl refl) ∙ ap (λ (k : Bool). k && post (entry x)) out in
          rw (t, out) later

  any_kept : (xs : List ℕ) → ((q : ℕ) → In q xs → taken q ≡ (keep q && post (entry q))) → list_any post (map entry (filter keep xs)) ≡ list_any taken xs
  any_kept xs same =
      is_some-find post (map entry (filter keep xs)) ∙ is_some-option_map (λ (e : Live). e.program) (find post (map entry (filter keep xs)))
      ∙ ap is_some (sym (first_kept xs same)) ∙ sym (is_some-find taken xs)

-- a single's better options are the programs that it wants more than what it has
pub better_single : (s : Assigned) (a : ℕ) → better s.market s.places (Single a) ≡ map (single_placement a) (wanted s a)
better_single s a =
    until-map (holds s.places) (single_placement a) (list_of s.market a)
    ∙ ap (map (single_placement a)) (same_until (λ q. holds s.places (single_placement a q)) (λ q. at s.places q a) (list_of s.market a) (λ q i. holds_single q (place_of s.places a)))

-- Below, a is an applicant.
module _ (s : Assigned) (ok : IsAssigned s) (a : ℕ) (within : a < applicants s.market) where
  abbrev lists_it : ℕ → Bool
  lists_it q = has (program_of s.market q).ranking a

  abbrev passes : Live → Bool
  passes e = has_post s e.program e.rank

  abbrev takes_it : ℕ → Bool
  takes_it q = would_be_taken s.market s.places (single_placement a q)

  pub entries_are : better_entries s a ≡ map (ranked_entry s.market a) (filter lists_it (wanted s a))
  entries_are =
      let m = s.market in
      let lists : list_of (live_market m) a ≡ live m a = map_below_at (live m) (applicants m) a [] within in
      ap (λ ps. until (λ (e : Live). at s.places e.program a) (map (ranked_entry (live_market m) a) ps)) lists
      ∙ until-map (λ (e : Live). at s.places e.program a) (ranked_entry (live_market m) a) (live m a)
      ∙ ap (map (ranked_entry m a)) (until-filter (λ q. at s.places q a) lists_it (list_of m a) (λ q there. ok.listed a q there))

  is_sent : (q : ℕ) → AreSent s.market (single_placement a q)
  is_sent q = record {
    distinct = refl;
    within = λ b on. subst (λ x. x < applicants s.market) (eqb-true a b (sym (or-false (a == b)) ∙ on)) within;
    few = omega arith;
  }

  -- a program takes the single if it lists it and has a post for its rank
  takes_listed : (q : ℕ) → In q (wanted s a) → takes_it q ≡ (lists_it q && passes (ranked_entry s.market a q))
  takes_listed q i = by_rank (rank_of s.market q a) refl
    where
      by_rank : (o : Option ℕ) → rank_of s.market q a ≡ o → takes_it q ≡ (lists_it q && passes (ranked_entry s.market a q))
      by_rank None none = rw (has_no_rank (program_of s.market q).ranking a none) refl
      by_rank (Some r) found =
          let p = program_of s.market q in
          let sent = single_placement a q in
          let set = at (send sent s.places) q in
          let front = take r p.ranking in
          let there : set a ≡ true = sent_there s.market s.places sent a q (is_sent q) ok.are_places.one_each (inl refl) in
          let gone : at s.places q a ≡ false = before_stop (λ x. at s.places x a) q (list_of s.market a) i in
          let own : has front a ≡ false = has-take-position p.ranking a r r found ∙ le-ltb r r (omega arith) in
          let none_leaves : count (leaves s.places q front) sent ≡ 0 = rw gone refl in
          let none_comes : count (comes q front) sent ≡ 0 = ap (λ (b : Bool). (if b then 1 else 0) + 0) (and_right (is_program q (Some q)) (has front a) own) in
          let same : count set front ≡ count (at s.places q) front =
          omega (
            arith,
            none_leaves,
            none_comes,
            count_sent s.places q front sent (distinct-take p.ranking r (ok.well_formed.rankings_distinct q)) (is_sent q).distinct
                (λ b on. omega (arith, ok.are_places.one_each, (is_sent q).within b on)),
          ) in
          let above_is : above set p.ranking a ≡ count set front = ap (count set) (until_position p.ranking a r found) in
          rw (has_rank p.ranking a r found, there, found) (and-true _ ∙ ap (λ n. nat_lt n p.quota) (above_is ∙ same))

  -- the first live entry with a post is the option that the single takes
  pub first_live : option_map (single_placement a) (option_map (λ (e : Live). e.program) (find passes (better_entries s a))) ≡ taken_by s (Single a)
  first_live =
      ap (λ es. option_map (single_placement a) (option_map (λ (e : Live). e.program) (find passes es))) entries_are
      ∙ ap (option_map (single_placement a)) (sym (first_kept takes_it lists_it passes (ranked_entry s.market a) (λ q. refl) (wanted s a) takes_listed))
      ∙ sym (find-map (would_be_taken s.market s.places) (single_placement a) (wanted s a))
      ∙ ap (find (would_be_taken s.market s.places)) (sym (better_single s a))

  -- whether there is one at some programs
  pub opens_live : (ps : List ℕ) → list_any (λ (e : Live). has ps e.program && passes e) (better_entries s a) ≡ opens s ps (Single a)
  opens_live ps =
      ap (list_any (λ (e : Live). has ps e.program && passes e)) entries_are
      ∙ any_kept (λ q. names_one_of ps (single_placement a q) && takes_it q) lists_it (λ (e : Live). has ps e.program && passes e) (ranked_entry s.market a) (λ q. refl) (wanted s a) both
      ∙ sym (list_any-map (λ o. names_one_of ps o && would_be_taken s.market s.places o) (single_placement a) (wanted s a))
      ∙ ap (list_any (λ o. names_one_of ps o && would_be_taken s.market s.places o)) (sym (better_single s a))
    where
      turned : (n k p : Bool) → ((n || false) && (k && p)) ≡ (k && (n && p))
      turned true k p = refl
      turned false k p = sym (and_right k false refl)

      both : (q : ℕ) → In q (wanted s a)
          → (names_one_of ps (single_placement a q) && takes_it q) ≡ (lists_it q && (has ps q && passes (ranked_entry s.market a q)))
      both q i =
          ap (λ (b : Bool). names_one_of ps (single_placement a q) && b) (takes_listed q i) ∙ turned (has ps q) (lists_it q) (passes (ranked_entry s.market a q))

  -- each entry names a program of the market
  pub entry_known : (entries : List Live) (i : ℕ) (e : Live) → entries ≡ better_entries s a → i < length entries → e ≡ get_or entries i e → e.program < length s.market.programs
  entry_known entries i e are inside read =
      let on = subst (λ (es : List Live). In e es) (are ∙ entries_are) (in_read entries i e inside read) in
      let w = of_image (ranked_entry s.market a) e (filter lists_it (wanted s a)) on in
      subst (λ (x : Live). x.program < length s.market.programs) w.2 (listing_program s.market w.0 a (of_kept lists_it w.0 (wanted s a) w.1).1)

  -- a program by whose option the single is reopened has a post for the single's rank there
  pub post_for : (p r : ℕ) → rank_of s.market p a ≡ Some r → opens s (p ∷ []) (Single a) ≡ true → has_post s p r ≡ true
  post_for p r ranked opened =
      let o = found (λ (e : Live). has (p ∷ []) e.program && passes e) (better_entries s a) (opens_live (p ∷ []) ∙ opened) in
      let parts = and_parts (has (p ∷ []) o.0.program) (passes o.0) o.2 in
      let same : p ≡ o.0.program = eqb-true p o.0.program (sym (or-false (p == o.0.program)) ∙ parts.0) in
      let on = subst (λ (es : List Live). In o.0 es) entries_are o.1 in
      let w = of_image (ranked_entry s.market a) o.0 (filter lists_it (wanted s a)) on in
      let rank : o.0.rank ≡ r = ap (λ (e : Live). e.rank) (sym w.2) ∙ ap (λ q. unwrap_or (rank_of s.market q a) 0) (ap (λ (e : Live). e.program) w.2 ∙ sym same) ∙ ap (λ v. unwrap_or v 0) ranked in
      subst (λ x. has_post s p x ≡ true) rank (subst (λ q. has_post s q o.0.rank ≡ true) (sym same) parts.1)
