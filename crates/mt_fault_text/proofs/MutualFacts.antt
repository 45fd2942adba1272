-- What loops over pairs, applicants and couples have counted so far.
-- Each step adds the last term of a sum, or the last place of a list of pairs.
use Rattle.std.proofs.Common.{◌≡◌, ℕ, zero, suc, ◌+◌, ◌-◌, ◌<◌, ◌≤◌, Bool, true, false, ◌||◌, ◌&&◌, List, [], ◌∷◌, ◌++◌, length, take, get_or, Option, Some, None, refl, sym, ap, ◌∙◌, add-one, arith}
use Rattle.std.specs.Prelude.{if◌then◌else◌}
use Rattle.std.specs.List.{cons_option}
use Rattle.std.proofs.lemmas.List.{append-nil, length-map, take_more}
use Rattle.std.proofs.lemmas.List.Elements.{filter_map-append}
use Rattle.mt_terms.specs.Lists.{Set, has, total_below}
use Rattle.mt_terms.specs.Market.{Market, Pair, applicants, couple_of, list_of, live, program_of}
use Rattle.mt_ranks.specs.Ranked.{IsRanked, Ranked, ranked_entry, ranked_list, ranked_of}
use Rattle.mt_ranks.specs.declared.entries.Live.{Live}
use Rattle.mt_terms.proofs.ListFacts.{has_push}
use Rattle.mt_terms.proofs.Totals.{total_below-same}
use Rattle.mt_terms.proofs.LiveFacts.{applicants-live_market}
use Rattle.mt_fault_text.specs.Mutual.{listed_by, place_in, sent_by}
use Rattle.mt_fault_text.specs.Wanted.{AreWanted, is_place, set_of}

-- a list with a place, if there is one
abbrev with_place : List ℕ → Option ℕ → List ℕ
with_place xs place = xs ++ cons_option place []

one_sent : (is_first : Bool) (pairs : List Pair) (i : ℕ) (d : Pair) → i < length pairs
    → sent_by is_first (take (i + 1) pairs) ≡ with_place (sent_by is_first (take i pairs)) (place_in is_first (get_or pairs i d))
one_sent is_first pairs i d within =
    ap (sent_by is_first) (take_more pairs i d within) ∙ filter_map-append (place_in is_first) (take i pairs) (get_or pairs i d ∷ [])

has_place : (xs : List ℕ) (place : Option ℕ) (p : ℕ) → has (with_place xs place) p ≡ (has xs p || is_place place p)
has_place xs None p = ap (λ (ys : List ℕ). has ys p) (append-nil xs) ∙ or_none (has xs p)
  where
    or_none : (b : Bool) → b ≡ (b || false)
    or_none true = refl
    or_none false = refl
has_place xs (Some program) p = has_push xs program p

-- the programs of the first pairs, and of one more
pub sent_more : (is_first : Bool) (pairs : List Pair) (i p : ℕ) (pair : Pair) → i < length pairs → pair ≡ get_or pairs i pair
    → has (sent_by is_first (take (i + 1) pairs)) p ≡ (has (sent_by is_first (take i pairs)) p || is_place (place_in is_first pair) p)
sent_more is_first pairs i p pair within is =
    ap (λ (xs : List ℕ). has xs p) (one_sent is_first pairs i pair within)
    ∙ has_place (sent_by is_first (take i pairs)) (place_in is_first (get_or pairs i pair)) p
    ∙ ap (λ (x : Pair). has (sent_by is_first (take i pairs)) p || is_place (place_in is_first x) p) (sym is)

-- the same set counts alike
pub listed_same : (m : Market) (s t : Set) (a : ℕ) → ((p : ℕ) → p < length m.programs → s p ≡ t p) → listed_by m s a ≡ listed_by m t a
listed_same m s t a same =
    total_below-same (λ p. if s p && has (program_of m p).ranking a then 1 else 0) (λ p. if t p && has (program_of m p).ranking a then 1 else 0) (length m.programs)
    (λ p low. ap (λ (b : Bool). if b && has (program_of m p).ranking a then 1 else 0) (same p low))

-- a sum over the first numbers, with one more
pub total_more : (f : ℕ → ℕ) (i : ℕ) → total_below f (i + 1) ≡ total_below f i + f i
total_more f i = rw add-one (omega arith)

total_le : (f : ℕ → ℕ) (n k : ℕ) → total_below f n ≤ total_below f (n + k)
total_le f n zero = let e : n + 0 ≡ n = omega arith in rw e (omega arith)
total_le f n (suc k) = let e : n + suc k ≡ suc (n + k) = omega arith in rw e (omega (arith, total_le f n k))

pub total_within : (f : ℕ → ℕ) (i n : ℕ) → i < n → total_below f i + f i ≤ total_below f n
total_within f i n low =
    let e : suc i + (n - suc i) ≡ n = omega arith in
    let le : f i + total_below f i ≤ total_below f (suc i + (n - suc i)) = total_le f (suc i) (n - suc i) in
    let all : f i + total_below f i ≤ total_below f n = rw e at le in
    omega arith

-- an applicant's live list, as rank tables give it
pub live_length : (r : Ranked) (a : ℕ) (list : List Live) → IsRanked r → list ≡ ranked_list r.market a → length list ≡ length (live r.market a)
live_length r a list ranked is = ap length is ∙ length-map (list_of r.market a) (ranked_entry r.market a) ∙ ap length (sym (ranked.all_live a))

-- the programs of a set that list a member of a couple, by rank tables or by the market
pub listed_by_tables : (m : Market) (r : Ranked) (flags : List Bool) (is_first : Bool) (c a : ℕ) → r ≡ ranked_of m
    → AreWanted (length m.programs) (has (sent_by is_first (couple_of m c).pairs)) flags
    → listed_by r.market (set_of flags) a ≡ listed_by m (has (sent_by is_first (couple_of m c).pairs)) a
listed_by_tables m r flags is_first c a is wanted =
    ap (λ (x : Ranked). listed_by x.market (set_of flags) a) is ∙ listed_same m (set_of flags) (has (sent_by is_first (couple_of m c).pairs)) a wanted.said

-- members are applicants of the tables
pub member_there : (m : Market) (r : Ranked) (a : ℕ) → r ≡ ranked_of m → a < applicants m → a < applicants r.market
member_there m r a is low = omega (arith, ap (λ (x : Ranked). applicants x.market) is, applicants-live_market m)
