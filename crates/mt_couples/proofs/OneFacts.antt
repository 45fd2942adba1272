-- Which couples the index finds at a program that was left, and who joins if it is the only one and the index finds none:
-- the singles at the ranks that are watched there.
use Rattle.std.proofs.Common.{◌≡◌, ◌∙◌, ℕ, ◌+◌, ◌-◌, ◌<◌, ◌≤◌, Bool, true, false, not, ◌&&◌, ◌==◌, List, [], ◌∷◌, length, get_or, Some, refl, ap, sym, subst, arith, vec_len, Vec, filter}
use Rattle.std.proofs.lemmas.Bool.{and_parts, both_ways, eqb-true, false≢true, false_from_ne_true}
use Rattle.std.proofs.lemmas.List.{nil_from_length}
use Rattle.mt_terms.specs.Lists.{has}
use Rattle.mt_terms.specs.Market.{applicants, agent_of, program_of}
use Rattle.mt_terms.specs.Rounds.{has_entered, is_on, joined}
use Rattle.mt_terms.specs.declared.numbers.Agent.{Agent}
use Rattle.mt_terms.specs.declared.numbers.Agent.TheVariants.{Single, Couple}
use Rattle.mt_terms.proofs.AgentFacts.{single_is_itself}
use Rattle.mt_ranks.specs.Ranked.{rank_of}
use Rattle.mt_round_laws.proofs.RoundsLists.{In, found, has_in, in_has, of_image, in_image, in_kept, of_kept}
use Rattle.mt_stage_tables.specs.Waiting.{with_agents, Waiting}
use Rattle.mt_stage_tables.proofs.OrderFacts.{has_at}
use Rattle.mt_assignment.specs.Assigned.{has_post, Assigned, IsAssigned}
use Rattle.mt_watch.specs.Posts.{IsClosed, IsOpenFrom}
use Rattle.mt_couples.specs.Rechecks.{market_of, reopened_couples, IsIndexedFor, which_at}
use Rattle.mt_couples.specs.declared.recheck.Recheck.{Recheck}
use Rattle.mt_rounds.specs.Waiting.{blockers}
use Rattle.mt_assignment.specs.Moves.{opens}
use Rattle.mt_assignment.specs.Blocking.{is_reopened}
use Rattle.mt_assignment.specs.Watched.{ranks_at, wanted, AreWatched}
use Rattle.mt_assignment.proofs.LiveFacts.{post_for}
use Rattle.mt_assignment.proofs.RankFacts.{any_default, rank_at_place, index_of}
use Rattle.mt_watch.proofs.OpenFacts.{open_at, open_single}
use Rattle.mt_rounds.proofs.LookFacts.{passing, reopened_before, Rest, opens_there, wants_single, passes_found}
use Rattle.mt_watch.proofs.FoundFacts.{AddsCouples, open_pairs}
use Rattle.mt_stage_tables.proofs.PlaceFacts.{has_read}
use Rattle.mt_watch.specs.Watching.{AreIndexed, IsWatching}
use Rattle.mt_stage_tables.specs.Named.{row_at}
use Rattle.mt_stage_tables.proofs.NamedFacts.{named_within}
use Rattle.mt_stage_tables.specs.declared.couple_list.NamedPairs.{NamedPairs}

-- what the index and the work list of a recheck have to be together
pub watching_by : (t : Recheck) (ws : List Agent) → AreIndexed t.last ws t.watch.now → IsWatching t.last t.assignment.now ws t.watch.now
watching_by t ws indexed = record { watched = t.watched; named = t.named; counted = t.counted; indexed = indexed }

-- Below, the couples that are reopened at a program are found by its index.
module _ (t : Recheck) (p : ℕ) (w : Waiting) where
  -- each couple that is reopened by an option there is one of them
  pub reopened_in : IsIndexedFor t w → p < length (market_of t).programs → (c : ℕ) → is_reopened t.last t.assignment.now (p ∷ []) w.agents (Couple c) ≡ true
      → has (reopened_couples t p w) c ≡ true
  reopened_in indexed known c reopened =
      let n = open_pairs t.last t.assignment.now t.watch.now p w.agents c (watching_by t w.agents indexed) known reopened in
      let kept = in_kept (which_at t p w) n.0 (row_at t.watch.now.couples.rows p) n.1 n.3 in
      in_has c (reopened_couples t p w) (subst (λ d. In d (reopened_couples t p w)) n.2 (in_image (λ (x : NamedPairs). x.couple) n.0 (filter (which_at t p w) (row_at t.watch.now.couples.rows p)) kept))

  -- they are of the market
  pub reopened_within : (c : ℕ) → has (reopened_couples t p w) c ≡ true → c < length (market_of t).couples
  reopened_within c on =
      let named = row_at t.watch.now.couples.rows p in
      let n = of_image (λ (x : NamedPairs). x.couple) c (filter (which_at t p w) named) (has_in c (reopened_couples t p w) on) in
      let at = index_of n.0 named (of_kept (which_at t p w) n.0 named n.1).0 in
      subst (λ d. d < length (market_of t).couples) n.2 (named_within (market_of t) t.watch.now.couples p named at.0 n.0 t.named refl at.1 at.2)

-- if no couple is found by the index, no couple is reopened
pub no_couples : {Z : Type 0} (t : Recheck) (p : ℕ) (w : Waiting) (couples : Vec ℕ Z) (is_none : Bool) → is_none ≡ (vec_len couples == 0) → is_none ≡ true
    → couples.items ≡ reopened_couples t p w → IsIndexedFor t w → p < length (market_of t).programs → AddsCouples t.last t.assignment.now p w.agents []
no_couples t p w couples is_none is none found indexed known c a reopened of_a =
    let empty : vec_len couples ≡ 0 = eqb-true (vec_len couples) 0 (sym is ∙ none) in
    let nobody : couples.items ≡ [] = nil_from_length couples.items (omega (arith, couples.ok.0, empty)) in
    absurd (false≢true (ap (λ xs. has xs c) (sym nobody ∙ found) ∙ reopened_in t p w indexed known c reopened))

-- Below, the singles are watched, and no couple is reopened by an option at program p.
module _ (k : ℕ) (s : Assigned) (p : ℕ) (ok : IsAssigned s) (known : p < length s.market.programs) (rows : List (List Bool))
    (watched : AreWatched s rows) (start : Waiting) (couples : AddsCouples k s p start.agents []) where
  abbrev pub list : List ℕ
  list = (program_of s.market p).ranking

  abbrev pub RestOfList : Waiting → ℕ → Type 0
  RestOfList now i = Rest k s (p ∷ []) ok.well_formed start (blockers s k p) list now i

  -- who stands at a rank that isn't watched, or for which there is no post, isn't reopened
  none_at : (now : Waiting) (x : ℕ) → ((g : Agent) → is_on start.agents g ≡ true → is_on now.agents g ≡ true) → x < length list
      → (ranks_at rows p x ≡ true → has_post s p x ≡ false) → is_reopened k s (p ∷ []) now.agents (agent_of s.market (get_or list x 0)) ≡ false
  none_at now x grows within closed = false_from_ne_true _ (λ reopened. by_agent reopened (agent_of s.market a) refl)
    where
      a : ℕ
      a = get_or list x 0

      a_in : a < applicants s.market
      a_in = ok.well_formed.rankings_within p a (has_at list x 0 within)

      ranked : rank_of s.market p a ≡ Some x
      ranked = rank_at_place list x a (ok.well_formed.rankings_distinct p) within (any_default list x 0 a within)

      by_agent : is_reopened k s (p ∷ []) now.agents (agent_of s.market a) ≡ true → (g : Agent) → agent_of s.market a ≡ g → ⊥
      by_agent reopened (Single b) is =
          let here : is_reopened k s (p ∷ []) now.agents (Single a) ≡ true =
          subst (λ g. is_reopened k s (p ∷ []) now.agents g ≡ true) (single_is_itself s.market a b is) reopened in
          let opened = (and_parts (has_entered k (Single a) && not (is_on now.agents (Single a))) (opens s (p ∷ []) (Single a)) here).1 in
          let wants = (open_single s p a (open_at s p (Single a) opened)).0 in
          both_ways (has_post s p x) (closed (watched.each a a_in p x known ranked ∙ wants)) (post_for s ok a a_in p x ranked opened)
      by_agent reopened (Couple c) is =
          let before = reopened_before k s (p ∷ []) start.agents now.agents (agent_of s.market a) grows reopened in
          false≢true (couples c a (subst (λ g. is_reopened k s (p ∷ []) start.agents g ≡ true) is before) is)

  -- up to a rank none is reopened
  passes_up_to : (now : Waiting) (next end : ℕ) → next ≤ end → end ≤ length list → ((g : Agent) → is_on start.agents g ≡ true → is_on now.agents g ≡ true)
      → ((x : ℕ) → next ≤ x → x < end → ranks_at rows p x ≡ true → has_post s p x ≡ false) → RestOfList now next → RestOfList now end
  passes_up_to now next end low high grows closed looking =
      let whole : next + (end - next) ≡ end = omega arith in
      let wf = ok.well_formed in
      subst (RestOfList now) whole
      (passing k s (p ∷ []) wf start (blockers s k p) list (λ a on. wf.rankings_within p a on) now (end - next) next (omega arith)
      (λ x above under. none_at now x grows (omega arith) (closed x above (omega arith))) looking)

  -- the single at the next watched rank with a post joins
  pub passes_next : (now new : Waiting) (next r a : ℕ) → IsOpenFrom s p (ranks_at rows p) next r → a ≡ get_or list r a
      → ((g : Agent) → is_on start.agents g ≡ true → is_on now.agents g ≡ true) → new ≡ with_agents now (joined now.agents (Single a))
      → RestOfList now next → RestOfList new (r + 1)
  passes_next now new next r a opened read grows is looking =
      let wf = ok.well_formed in
      let a_in : a < applicants s.market = wf.rankings_within p a (has_read list r a opened.within read) in
      let ranked = rank_at_place list r a (wf.rankings_distinct p) opened.within read in
      let wants : has (wanted s a) p ≡ true = sym (watched.each a a_in p r known ranked) ∙ opened.first.there in
      let reached = passes_up_to now next r opened.first.not_below (omega (arith, opened.within)) grows
      (λ x low high on. absurd (both_ways (ranks_at rows p x) (opened.first.first x low high) on)) looking in
      passes_found k s (p ∷ []) wf start (blockers s k p) list now new r a opened.within read a_in reached (wants_single s wf a p a_in wants)
      (opens_there s ok a p r a_in wants ranked opened.has_post) is

  -- past the last one nobody does
  pub passes_last : (now : Waiting) (next : ℕ) → next ≤ length list → ((g : Agent) → is_on start.agents g ≡ true → is_on now.agents g ≡ true)
      → ((r : ℕ) → next ≤ r → IsClosed s p (ranks_at rows p) r) → RestOfList now next → RestOfList now (length list)
  passes_last now next low grows closed looking =
      passes_up_to now next (length list) low (omega arith) grows (λ x above under on. closed x above on under) looking
