-- The lines of options one after another: each line has its option's number, so the lines with a number are those of
-- one option. A line's place is open exactly if the program would choose the member, so an option's lines are.
use Rattle.std.proofs.Common.{◌≡◌, ◌≢◌, ℕ, zero, suc, ◌+◌, ◌<◌, Bool, true, false, ◌&&◌, ◌||◌, ◌==◌, nat_lt, List, [], ◌∷◌, ◌++◌, length, get_or, Option, Some, None, is_some, IsTrue, refl, ap, sym, ◌∙◌, inl, inr, arith, eq-eqb, ne_eqb}
use Rattle.std.specs.List.{flat_map, list_all, list_any, position}
use Rattle.std.specs.Option.{option_map}
use Rattle.std.proofs.lemmas.Bool.{cases_Bool}
use Rattle.std.proofs.lemmas.List.Elements.{filter-append}
use Rattle.std.proofs.lemmas.List.Folds.{list_any-append}
use Rattle.mt_terms.specs.Lists.{Set, above, has}
use Rattle.mt_terms.specs.Market.{Market, program_of}
use Rattle.mt_terms.specs.Matching.{Places, Placement, at, send}
use Rattle.mt_terms.specs.Choice.{choice}
use Rattle.mt_terms.specs.Stability.{is_chosen}
use Rattle.mt_ranks.proofs.Positions.{has-position}
use Rattle.mt_explain.specs.Lines.{is_open, line_at, lines_at, lines_from, lines_of, option_lines, says_open, why}
use Rattle.mt_explain.specs.declared.line.Line.{Line}

-- the lines of a placement's members
abbrev pub placed_lines : Market → Places → ℕ → Placement → List Line
placed_lines m moved k sent = flat_map (λ s. lines_at m moved k s.0 s.1) sent

-- the lines of an option that have its number are all of them
same_number : (m : Market) (moved : Places) (k : ℕ) (sent : Placement) → lines_of k (placed_lines m moved k sent) ≡ placed_lines m moved k sent
same_number m moved k [] = refl
same_number m moved k ((a, None) ∷ rest) = same_number m moved k rest
same_number m moved k ((a, Some p) ∷ rest) = rw (eq-eqb k k refl) (ap (λ lines. line_at m moved k a p ∷ lines) (same_number m moved k rest))

-- and none has another number
other_number : (m : Market) (moved : Places) (j k : ℕ) → k ≢ j → (sent : Placement) → lines_of j (placed_lines m moved k sent) ≡ []
other_number m moved j k other [] = refl
other_number m moved j k other ((a, None) ∷ rest) = other_number m moved j k other rest
other_number m moved j k other ((a, Some p) ∷ rest) = rw (ne_eqb k j other) (other_number m moved j k other rest)

-- options that are numbered from k on have no lower number
lower_number : (m : Market) (places : Places) (j k : ℕ) → j < k → (opts : List Placement) → lines_of j (lines_from m places k opts) ≡ []
lower_number m places j k low [] = refl
lower_number m places j k low (sent ∷ rest) =
    let first = other_number m (send sent places) j k (λ same. omega arith) sent in
    let later = lower_number m places j (k + 1) (omega arith) rest in
    filter-append (λ (line : Line). line.option == j) (option_lines m places k sent) (lines_from m places (k + 1) rest)
    ∙ ap (λ lines. lines ++ lines_of j (lines_from m places (k + 1) rest)) first ∙ later

append_nothing : (xs : List Line) → xs ++ [] ≡ xs
append_nothing [] = refl
append_nothing (x ∷ xs) = ap (λ ys. x ∷ ys) (append_nothing xs)

-- so the lines with a number are those of the option with it
pub lines_with_number : (m : Market) (places : Places) (k : ℕ) (opts : List Placement) (i j : ℕ) → j ≡ k + i
    → lines_of j (lines_from m places k opts) ≡ option_lines m places j (get_or opts i [])
lines_with_number m places k [] i j is = refl
lines_with_number m places k (sent ∷ rest) zero j is =
    let same : j ≡ k = omega arith in
    let first = same_number m (send sent places) k sent in
    let later = lower_number m places k (k + 1) (omega arith) rest in
    ap (λ n. lines_of n (lines_from m places k (sent ∷ rest))) same
    ∙ filter-append (λ (line : Line). line.option == k) (option_lines m places k sent) (lines_from m places (k + 1) rest)
    ∙ ap (λ lines. lines ++ lines_of k (lines_from m places (k + 1) rest)) first
    ∙ ap (λ lines. option_lines m places k sent ++ lines) later
    ∙ append_nothing (option_lines m places k sent)
    ∙ ap (λ n. option_lines m places n sent) (sym same)
lines_with_number m places k (sent ∷ rest) (suc i) j is =
    let first = other_number m (send sent places) j k (λ same. omega arith) sent in
    filter-append (λ (line : Line). line.option == j) (option_lines m places k sent) (lines_from m places (k + 1) rest)
    ∙ ap (λ lines. lines ++ lines_of j (lines_from m places (k + 1) rest)) first
    ∙ lines_with_number m places (k + 1) rest i j (omega arith)

-- a program's reason by a rank that it may have
open_by_rank : (quota n : ℕ) (rank : Option ℕ)
    → says_open (why quota (option_map (λ r. record { rank = r; ahead = n }) rank)) ≡ (is_some rank && nat_lt n quota)
open_by_rank quota n None = refl
open_by_rank quota n (Some r) = elim (cases_Bool (nat_lt n quota)) [ inl here ↦ rw here refl | inr other ↦ rw other refl ]

both_parts : (x y z : Bool) → IsTrue y → (x && z) ≡ (x && y && z)
both_parts x y z here = rw here (with_true x z)
  where
    with_true : (x z : Bool) → (x && z) ≡ (x && true && z)
    with_true true z = refl
    with_true false z = refl

-- a post is open exactly if the program would choose the member that is there
pub open_if_chosen : (m : Market) (moved : Places) (k a p : ℕ) → IsTrue (at moved p a)
    → is_open (line_at m moved k a p) ≡ choice (program_of m p) (at moved p) a
open_if_chosen m moved k a p there =
    let ranking : List ℕ = (program_of m p).ranking in
    open_by_rank (program_of m p).quota (above (at moved p) ranking a) (position (λ x. x == a) ranking)
    ∙ ap (λ (b : Bool). b && nat_lt (above (at moved p) ranking a) (program_of m p).quota) (sym (has-position ranking a))
    ∙ both_parts (has ranking a) (at moved p a) (nat_lt (above (at moved p) ranking a) (program_of m p).quota) there

-- a member is where it is sent
abbrev pub IsThere : Places → ℕ → Option ℕ → Type 0
IsThere moved a None = Unit {0}
IsThere moved a (Some p) = IsTrue (at moved p a)

-- and so is each member of a placement
abbrev pub AreThere : Places → Placement → Type 0
AreThere moved [] = Unit {0}
AreThere moved (s ∷ rest) = IsThere moved s.0 s.1 × AreThere moved rest

pub open_if_all_chosen : (m : Market) (moved : Places) (k : ℕ) (sent : Placement) → AreThere moved sent
    → list_all is_open (placed_lines m moved k sent) ≡ list_all (λ s. is_chosen m moved s.0 s.1) sent
open_if_all_chosen m moved k [] there = refl
open_if_all_chosen m moved k ((a, None) ∷ rest) there = open_if_all_chosen m moved k rest there.1
open_if_all_chosen m moved k ((a, Some p) ∷ rest) there =
    ap (λ (b : Bool). b && list_all is_open (placed_lines m moved k rest)) (open_if_chosen m moved k a p there.0)
    ∙ ap (λ (b : Bool). choice (program_of m p) (at moved p) a && b) (open_if_all_chosen m moved k rest there.1)

-- whether a placement names a program
abbrev pub names_program : Placement → Bool
names_program sent = list_any (λ s. is_some s.1) sent

-- the lines of an option have one with a property of numbers if the option names a program and its number has it
any_of_option : (m : Market) (moved : Places) (test : Set) (k : ℕ) (sent : Placement)
    → list_any (λ (line : Line). test line.option) (placed_lines m moved k sent) ≡ (names_program sent && test k)
any_of_option m moved test k [] = refl
any_of_option m moved test k ((a, None) ∷ rest) = any_of_option m moved test k rest
any_of_option m moved test k ((a, Some p) ∷ rest) =
    ap (λ (b : Bool). test k || b) (any_of_option m moved test k rest) ∙ absorbed (test k) (names_program rest)
  where
    absorbed : (x y : Bool) → (x || (y && x)) ≡ x
    absorbed true y = refl
    absorbed false true = refl
    absorbed false false = refl

-- so the lines of options that all name a program have a line with the property exactly if some option's number has it
pub any_of_options : (m : Market) (places : Places) (test : Set) (taken : Placement → Bool) (k : ℕ) (opts : List Placement)
    → ((i : ℕ) → i < length opts → IsTrue (names_program (get_or opts i [])))
    → ((i : ℕ) → i < length opts → test (k + i) ≡ taken (get_or opts i []))
    → list_any (λ (line : Line). test line.option) (lines_from m places k opts) ≡ list_any taken opts
any_of_options m places test taken k [] named same = refl
any_of_options m places test taken k (sent ∷ rest) named same =
    let here : test k ≡ taken sent = ap test (let e : k ≡ k + 0 = omega arith in e) ∙ same 0 (omega arith) in
    let first : list_any (λ (line : Line). test line.option) (option_lines m places k sent) ≡ taken sent =
    any_of_option m (send sent places) test k sent ∙ ap (λ (b : Bool). b && test k) (named 0 (omega arith)) ∙ here in
    let later = any_of_options m places test taken (k + 1) rest (λ i within. named (suc i) (omega arith))
    (λ i within. ap test (let e : k + 1 + i ≡ k + suc i = omega arith in e) ∙ same (suc i) (omega arith)) in
    list_any-append (λ (line : Line). test line.option) (option_lines m places k sent) (lines_from m places (k + 1) rest)
    ∙ ap (λ (b : Bool). b || list_any (λ (line : Line). test line.option) (lines_from m places (k + 1) rest)) first
    ∙ ap (λ (b : Bool). taken sent || b) later
