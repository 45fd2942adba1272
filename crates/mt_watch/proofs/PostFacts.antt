-- For whom a program has a post, and who blocks if none has one for a watched rank.
use Rattle.std.proofs.Common.{◌≡◌, ◌∙◌, ℕ, zero, suc, ◌<◌, ◌≤◌, Bool, true, false, not, ◌&&◌, ◌==◌, nat_lt, List, [], ◌∷◌, take, length, Option, Some, None, refl, ap, sym, subst, arith, is_some}
use Rattle.std.proofs.lemmas.Bool.{and_parts, and_from, or_left, eq-eqb, both_ways, false_from_ne_true, not-true}
use Rattle.std.proofs.lemmas.Bool.Decides.{nat_tests}
use Rattle.mt_terms.specs.Lists.{count, below}
use Rattle.mt_terms.specs.Market.{applicants, agent_of, program_of, list_of}
use Rattle.mt_terms.specs.Matching.{Placement, at, better, single_placement}
use Rattle.mt_terms.specs.Stability.{would_be_taken}
use Rattle.mt_terms.specs.declared.numbers.Agent.{Agent}
use Rattle.mt_terms.specs.declared.numbers.Agent.TheVariants.{Single, Couple}
use Rattle.mt_round_laws.proofs.RoundsLists.{In, found, finds, each, has_in, in_has, of_image, of_until, all_pass, in_below, of_below}
use Rattle.mt_assignment.specs.Assigned.{ahead, has_post, Assigned, IsAssigned}
use Rattle.mt_assignment.specs.Moves.{names_one_of, opens}
use Rattle.mt_assignment.specs.Watched.{ranks_at, wanted, AreWatched}
use Rattle.mt_assignment.proofs.LiveFacts.{better_single, post_for}
use Rattle.mt_assignment.proofs.RankFacts.{rank_there, at_rank}
use Rattle.mt_watch.proofs.OpenFacts.{open_at, open_single}
use Rattle.std.specs.List.{list_all}
use Rattle.std.specs.Prelude.{IfNone, IfSome}
use Rattle.mt_terms.proofs.AgentFacts.{single_is_itself}
use Rattle.mt_watch.specs.Posts.{has_wanted_post, IsClosed, IsOpenFrom}
use Rattle.mt_assignment.specs.Blocking.{is_quiet_single, singles_quiet}

-- if a program has no post for a rank, it has none for a later one
pub later_closed : (s : Assigned) (p r q : ℕ) → r ≤ q → has_post s p r ≡ false → has_post s p q ≡ false
later_closed s p r q later none = more (ahead s p r) (ahead s p q) (program_of s.market p).quota (counts (at s.places p) (program_of s.market p).ranking r q later) none
  where
    counts : (test : ℕ → Bool) (xs : List ℕ) (i j : ℕ) → i ≤ j → count test (take i xs) ≤ count test (take j xs)
    counts test xs zero j low = omega arith
    counts test [] (suc i) j low = omega arith
    counts test (x ∷ xs) (suc i) zero low = absurd (omega arith)
    counts test (x ∷ xs) (suc i) (suc j) low = (let later = counts test xs i j (omega arith) in omega arith)

    more : (a b quota : ℕ) → a ≤ b → nat_lt a quota ≡ false → nat_lt b quota ≡ false
    more a b quota le none = grind (arith, nat_tests, le, none)

-- whether a program has a post for somebody who is watched there, by the first of them that it has one for
pub wanted_post_is : (s : Assigned) (rows : List (List Bool)) (p : ℕ) (o : Option ℕ) → IfSome o (IsOpenFrom s p (ranks_at rows p) 0)
    → IfNone o ((r : ℕ) → 0 ≤ r → IsClosed s p (ranks_at rows p) r) → is_some o ≡ has_wanted_post s rows p
wanted_post_is s rows p (Some r) opened none =
    sym (finds (λ x. ranks_at rows p x && has_post s p x) r (below (length (program_of s.market p).ranking)) (in_below r _ opened.within) (and_from _ _ opened.first.there opened.has_post))
wanted_post_is s rows p None opened none = sym (false_from_ne_true _ (λ h.
    let w = found (λ x. ranks_at rows p x && has_post s p x) (below (length (program_of s.market p).ranking)) h in
    let parts = and_parts (ranks_at rows p w.0) (has_post s p w.0) w.2 in
    both_ways (has_post s p w.0) (none w.0 (omega arith) parts.0 (of_below w.0 _ w.1)) parts.1))

-- if no program has one, no single blocks
pub quiet_by_posts : (s : Assigned) → IsAssigned s → (rows : List (List Bool)) → AreWatched s rows
    → list_all (λ p. not (has_wanted_post s rows p)) (below (length s.market.programs)) ≡ true → singles_quiet s ≡ true
quiet_by_posts s ok rows watched none =
    all_pass (λ a. is_quiet_single s (agent_of s.market a)) (below (applicants s.market)) (λ a on. by_agent a (of_below a _ on) (agent_of s.market a) refl)
  where
    taken : Placement → Bool
    taken o = would_be_taken s.market s.places o

    single : (a : ℕ) → a < applicants s.market → is_quiet_single s (Single a) ≡ true
    single a within = ap not (false_from_ne_true _ (λ blocks_it.
        let o = found taken (better s.market s.places (Single a)) blocks_it in
        let w = of_image (single_placement a) o.0 (wanted s a) (subst (λ (xs : List Placement). In o.0 xs) (better_single s a) o.1) in
        let q = w.0 in
        let named : names_one_of (q ∷ []) o.0 ≡ true = subst (λ x. names_one_of (q ∷ []) x ≡ true) w.2 (or_left _ false (or_left (q == q) false (eq-eqb q q refl))) in
        let opened : opens s (q ∷ []) (Single a) ≡ true = finds (λ x. names_one_of (q ∷ []) x && taken x) o.0 (better s.market s.places (Single a)) o.1 (and_from _ _ named o.2) in
        let lists = open_single s q a (open_at s q (Single a) opened) in
        let xs = (program_of s.market q).ranking in
        let rank = rank_there xs a lists.1 in
        let known : q < length s.market.programs =
        ok.well_formed.lists_within a q (in_has q (list_of s.market a) (of_until (λ p. at s.places p a) q (list_of s.market a) (has_in q (wanted s a) lists.0))) in
        let there : ranks_at rows q rank.0 ≡ true = watched.each a within q rank.0 known rank.1 ∙ lists.0 in
        let post = post_for s ok a within q rank.0 rank.1 opened in
        let some = finds (λ r. ranks_at rows q r && has_post s q r) rank.0 (below (length xs)) (in_below rank.0 (length xs) (at_rank xs a rank.0 rank.1).0) (and_from _ _ there post) in
        both_ways (has_wanted_post s rows q) (not-true _ (each (λ p. not (has_wanted_post s rows p)) q (below (length s.market.programs)) none (in_below q _ known))) some))

    by_agent : (a : ℕ) → a < applicants s.market → (g : Agent) → agent_of s.market a ≡ g → is_quiet_single s g ≡ true
    by_agent a within (Single b) is = subst (λ g. is_quiet_single s g ≡ true) (sym (single_is_itself s.market a b is) ∙ is) (single a within)
    by_agent a within (Couple c) is = refl
