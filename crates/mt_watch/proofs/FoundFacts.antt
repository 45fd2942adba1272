-- Who is found by the index at a program that was left.
use Rattle.std.proofs.Common.{◌≡◌, ◌∙◌, ℕ, ◌<◌, ◌≤◌, true, false, not, ◌&&◌, ◌==◌, nat_le, List, [], ◌∷◌, length, get_or, Option, Some, None, refl, ap, sym, subst, arith}
use Rattle.std.proofs.lemmas.Bool.{and_parts, and_from, or_left, eq-eqb, eqb-true, false≢true}
use Rattle.std.proofs.lemmas.Bool.Decides.{nat_tests}
use Rattle.std.proofs.Math.Bool.{or-false}
use Rattle.mt_terms.specs.Lists.{has}
use Rattle.mt_terms.specs.Market.{agent_of, couple_of, members, program_of}
use Rattle.mt_terms.specs.Matching.{better, holds}
use Rattle.mt_terms.specs.Rounds.{has_entered, is_on}
use Rattle.mt_terms.specs.Stability.{would_be_taken}
use Rattle.mt_terms.specs.declared.numbers.Agent.{Agent}
use Rattle.mt_terms.specs.declared.numbers.Agent.TheVariants.{Single, Couple}
use Rattle.mt_round_laws.proofs.RoundsLists.{In, found, finds, of_until}
use Rattle.mt_round_laws.proofs.RoundsAgents.{member_of_agent}
use Rattle.mt_assignment.specs.Assigned.{pair_of, Assigned}
use Rattle.mt_watch.specs.Found.{is_couple_reopened, AddsSingles, Covers}
use Rattle.mt_watch.specs.Watching.{IsWatching}
use Rattle.mt_assignment.specs.Moves.{names_one_of, opens, some_has}
use Rattle.mt_assignment.specs.Blocking.{is_idle, is_reopened}
use Rattle.mt_stage_tables.specs.Indexing.{end_of, is_before, is_indexed, names_pair}
use Rattle.mt_assignment.specs.Watched.{better_pairs, opens_between, ranks_at, wanted}
use Rattle.mt_stage_tables.specs.Named.{names, row_at}
use Rattle.mt_stage_tables.proofs.NamedFacts.{any_between}
use Rattle.mt_stage_tables.specs.declared.couple_list.NamedPairs.{NamedPairs}
use Rattle.mt_watch.specs.declared.watch.Watch.{Watch}
use Rattle.mt_stage_tables.proofs.FrontFacts.{until_front}
use Rattle.mt_stage_tables.proofs.IndexFacts.{before_end}
use Rattle.mt_watch.proofs.IndexFacts.{couple_with_pair}
use Rattle.mt_assignment.proofs.RankFacts.{rank_there, index_of}
use Rattle.mt_watch.proofs.OpenFacts.{open_at, open_single, open_couple}

-- The indexed pairs by which a couple is found that is reopened by an option at a program: they begin no later than the
-- option.
pub open_pairs : (k : ℕ) (s : Assigned) (w : Watch) (p : ℕ) (ws : List Agent) (c : ℕ) → IsWatching k s ws w → p < length s.market.programs
    → is_reopened k s (p ∷ []) ws (Couple c) ≡ true → (n : NamedPairs) × In n (row_at w.couples.rows p) × (n.couple ≡ c) × (is_couple_reopened k s w p ws n ≡ true)
open_pairs k s w p ws c watching known reopened =
    let named = row_at w.couples.rows p in
    let counts = w.better.items in
    let parts = and_parts (nat_le c k && not (is_on ws (Couple c))) (opens s (p ∷ []) (Couple c)) reopened in
    let pair = open_couple s p c (open_at s p (Couple c) parts.1) in
    let place = index_of pair.0 (better_pairs s c) pair.1 in
    let i = place.0 in
    let pairs = (couple_of s.market c).pairs in
    let front = until_front (λ x. holds s.places (pair_of s c x)) pairs i pair.0 place.1 in
    let at_p = and_parts (names p pair.0) (would_be_taken s.market s.places (pair_of s c pair.0)) pair.2 in
    let counted = watching.counted.each c (couple_with_pair s.market c pair.0 (of_until (λ x. holds s.places (pair_of s c x)) pair.0 pairs pair.1)) in
    let indexed : is_indexed named c i ≡ true =
    watching.named.each c p i pair.0 known (omega (arith, watching.indexed c parts.0, counted, place.1)) front.0 (place.2 ∙ front.1) at_p.0 in
    let n = found (names_pair c i) named indexed in
    let is = and_parts (n.0.couple == c) (nat_le n.0.from i && is_before i n.0.until) n.2 in
    let between = and_parts (nat_le n.0.from i) (is_before i n.0.until) is.1 in
    let of_couple : n.0.couple ≡ c = eqb-true n.0.couple c is.0 in
    let end = end_of n.0.until (get_or counts c 0) in
    let opened : opens_between s c p n.0.from end ≡ true =
    any_between (λ x. names p x && would_be_taken s.market s.places (pair_of s c x)) pairs pair.0 i n.0.from end (no_later n.0.from i between.0)
    (before_end i n.0.until (get_or counts c 0) between.1 (omega (arith, counted, place.1))) front.0 (place.2 ∙ front.1) pair.2 in (
      n.0,
      n.1,
      of_couple,
      subst (λ d. (is_idle k ws (Couple d) && opens_between s d p n.0.from (end_of n.0.until (get_or counts d 0))) ≡ true) (sym of_couple)
          (and_from (is_idle k ws (Couple c)) (opens_between s c p n.0.from end) parts.0 opened),
    )
  where
    no_later : (a b : ℕ) → nat_le a b ≡ true → a ≤ b
    no_later a b le = grind (arith, nat_tests, le)

-- the members of each couple are found that is reopened by an option at a program
abbrev pub AddsCouples : ℕ → Assigned → ℕ → List Agent → List ℕ → Type 0
AddsCouples k s p ws found = (c a : ℕ) → is_reopened k s (p ∷ []) ws (Couple c) ≡ true → agent_of s.market a ≡ Couple c → has found a ≡ true

-- Each agent that is reopened by an option at a program is found there.
pub covers_one : (k : ℕ) (s : Assigned) (w : Watch) (p : ℕ) (ws : List Agent) (mid new : List ℕ) → IsWatching k s ws w → p < length s.market.programs
    → AddsSingles s p (ranks_at w.singles p) mid → ((a : ℕ) → has mid a ≡ true → has new a ≡ true) → AddsCouples k s p ws new → Covers k s (p ∷ []) ws new
covers_one k s w p ws mid new watching known singles keeps couples a within reopened = by_agent (agent_of s.market a) refl
  where
    by_agent : (g : Agent) → agent_of s.market a ≡ g → has new a ≡ true
    by_agent (Single b) is =
        let now : is_reopened k s (p ∷ []) ws (Single b) ≡ true = subst (λ g. is_reopened k s (p ∷ []) ws g ≡ true) is reopened in
        let here : b ≡ a = eqb-true b a (sym (or-false (b == a)) ∙ subst (λ g. has (members s.market g) a ≡ true) is (member_of_agent s.market a)) in
        let parts = and_parts (has_entered k (Single b) && not (is_on ws (Single b))) (opens s (p ∷ []) (Single b)) now in
        let o = open_single s p b (open_at s p (Single b) parts.1) in
        let wants : has (wanted s a) p ≡ true = subst (λ x. has (wanted s x) p ≡ true) here o.0 in
        let rank = rank_there (program_of s.market p).ranking a (subst (λ x. has (program_of s.market p).ranking x ≡ true) here o.1) in
        let single : agent_of s.market a ≡ Single a = is ∙ ap Single here in
        keeps a (singles rank.0 a (watching.watched.each a within p rank.0 known rank.1 ∙ wants) rank.1 single (subst (λ x. opens s (p ∷ []) (Single x) ≡ true) here parts.1))
    by_agent (Couple c) is =
        let now : is_reopened k s (p ∷ []) ws (Couple c) ≡ true = subst (λ g. is_reopened k s (p ∷ []) ws g ≡ true) is reopened in
        couples c a now is

-- an agent that is reopened by an option at some of these programs is so by one at one of them
pub covers_all : (k : ℕ) (s : Assigned) (ps : List ℕ) (ws : List Agent) (xs : List ℕ) → ((p : ℕ) → has ps p ≡ true → Covers k s (p ∷ []) ws xs) → Covers k s ps ws xs
covers_all k s ps ws xs at_each a within reopened =
    let g = agent_of s.market a in
    let parts = and_parts (has_entered k g && not (is_on ws g)) (opens s ps g) reopened in
    let o = found (λ o. names_one_of ps o && would_be_taken s.market s.places o) (better s.market s.places g) parts.1 in
    let named = and_parts (names_one_of ps o.0) (would_be_taken s.market s.places o.0) o.2 in
    let seat = found (λ (x : ℕ × Option ℕ). some_has ps x.1) o.0 named.0 in
    let p = some_program ps seat.0.1 seat.2 in
    let at_p : names_one_of (p.0 ∷ []) o.0 ≡ true = finds (λ (x : ℕ × Option ℕ). some_has (p.0 ∷ []) x.1) seat.0 o.0 seat.1
    (ap (some_has (p.0 ∷ [])) p.2 ∙ or_left (p.0 == p.0) false (eq-eqb p.0 p.0 refl)) in
    at_each p.0 p.1 a within (and_from _ _ parts.0 (finds (λ o. names_one_of (p.0 ∷ []) o && would_be_taken s.market s.places o) o.0 (better s.market s.places g) o.1 (and_from _ _ at_p named.1)))
  where
    some_program : (ps : List ℕ) (v : Option ℕ) → some_has ps v ≡ true → (p : ℕ) × (has ps p ≡ true) × (v ≡ Some p)
    some_program ps None h = absurd (false≢true h)
    some_program ps (Some p) h = (p, h, refl)
