-- `clap`'s test that a simple command takes the words and its list of the kinds of error agree: the test passes exactly
-- if the list is empty, and if it fails the list has one kind. Of a command without subcommands.
use Rattle.std.proofs.Common.{◌≡◌, ◌∙◌, ℕ, zero, suc, Bool, true, false, not, ◌&&◌, ◌||◌, ◌==◌, nat_lt, nat_le, List, [], ◌∷◌, length, Option, Some, None, refl, ap, arith, drop, is_some}
use Rattle.std.specs.Prelude.{if◌then◌else◌, encode_utf8, slice_get}
use Rattle.std.specs.Option.{option_map_or}
use Rattle.std.specs.List.{list_all}
use Rattle.std.specs.Str.{bytes_eq, chars}
use Rattle.std.proofs.lemmas.Bool.Decides.{nat_tests}
use Rattle.clap.specs.Lexer.{long_of, short_of}
use Rattle.clap.specs.Kinds.{Kinds, or_else, range_kinds, request_kinds}
use Rattle.clap.specs.Facts.{unwrap_or_range}
use Rattle.clap.specs.Walk.{most_values, values_or_missing, Held, Row, Rule, Step, Text, Waiting, Walk, idle, option, positional, next, trailing, subcommand, value, walked, with_default, subcommand_met, word_met, arg_by_id, arg_by_index, arg_by_long, arg_by_short, attached_value, is_empty, has_row, is_pending, takes_several, takes_values, reacted, settled, finished, walk, walk_from, nothing_held, action_of}
use Rattle.clap.specs.Takes.{action_passes, bundle_step_passes, count_passes, default_passes, flag_word_passes, flags_pass, level_passes, long_passes, option_passes, other_passes, positional_passes, react_passes, set_passes, settle_passes, short_passes, step_passes, turn_passes, use_passes, value_passes, values_pass, walk_passes, word_passes, is_valid, built_takes, entered_passes}
use Rattle.clap.specs.Faults.{action_fault, bundle_step_fault, check_fault, count_fault, default_fault, defaults_fault, flag_word_fault, flags_fault, level_fault, long_fault, option_fault, other_fault, positional_fault, react_fault, set_fault, settle_fault, short_fault, step_fault, turn_fault, use_fault, values_fault, walk_fault, word_fault, built_fault, fault_of, given_default_fault}
use Rattle.clap.specs.Simple.{App, Shape, built, entered}
use Rattle.clap.specs.Values.{is_request}
use Rattle.clap.proofs.FaultLemmas.{leaf_fault}
use Rattle.clap.proofs.WalkLemmas.{both}
use Rattle.clap.proofs.OnLiterals.{clap_on_literals}
use Rattle.mt_args.specs.CommandLine.{is_taken, nrmatch}
use Rattle.clap.specs.declared.builder.action.ArgAction.{ArgAction}
use Rattle.clap.specs.declared.builder.action.ArgAction.TheVariants.{Set, Append, SetTrue, SetFalse, Count, Help, HelpShort, HelpLong, Version}
use Rattle.clap.specs.declared.error.kind.ErrorKind.{ErrorKind}

-- the test passes if and only if there is no kind, and if it fails there is one
pub data Agrees : Bool → Kinds → Type 0 where
  passes : Agrees true []
  fails : (k : ErrorKind) → Agrees false (k ∷ [])

-- ---- joining tests

both_agree : {a b : Bool} {x y : Kinds} → Agrees a x → Agrees b y → Agrees (a && b) (or_else x y)
both_agree passes k = k
both_agree (fails kind) k = fails kind

chosen : (t : Bool) {a b : Bool} {x y : Kinds} → Agrees a x → Agrees b y → Agrees (if t then a else b) (if t then x else y)
chosen true h k = h
chosen false h k = k

unless : (t : Bool) {b : Bool} {y : Kinds} → Agrees b y → Agrees (t || b) (if t then [] else y)
unless true h = passes
unless false h = h

refused_if : (t : Bool) (k : ErrorKind) {b : Bool} {y : Kinds} → Agrees b y → Agrees (not t && b) (if t then k ∷ [] else y)
refused_if true k h = fails k
refused_if false k h = h

if_any : {X : Type 0} {f : X → Bool} {g : X → Kinds} (o : Option X) {b : Bool} {y : Kinds} → ((x : X) → Agrees (f x) (g x)) → Agrees b y
    → Agrees (option_map_or f o b) (option_map_or g o y)
if_any None h k = k
if_any (Some x) h k = h x

-- ---- values

tested : (b : Bool) (k : ErrorKind) → Agrees b (if b then [] else k ∷ [])
tested true k = passes
tested false k = fails k

values_agree : (a : Rule) (vs : List Text) → Agrees (values_pass a vs) (values_fault a vs)
values_agree a [] = passes
values_agree a (v ∷ vs) = both_agree (tested (value_passes a v) _) (values_agree a vs)

-- ---- one use of an argument

count_agrees : (a : Rule) (vs : List Text) (rows : List Row) → Agrees (count_passes a vs rows) (count_fault a vs rows)
count_agrees a [] rows = tested _ _
count_agrees a (v ∷ vs) rows = values_agree a (v ∷ vs)

repeat_agrees : (has again : Bool) (k : ErrorKind) → Agrees (not has || again) (if has && not again then k ∷ [] else [])
repeat_agrees true true k = passes
repeat_agrees true false k = fails k
repeat_agrees false again k = passes

set_agrees : (again : Bool) (a : Rule) (vs : List Text) (rows : List Row) → Agrees (set_passes again a vs rows) (set_fault again a vs rows)
set_agrees again a vs rows = both_agree (repeat_agrees (has_row a.id rows) again _) (values_agree a vs)

action_agrees : (x : ArgAction) (again : Bool) (a : Rule) (vs : List Text) (rows : List Row)
    → Agrees (action_passes x again a vs rows) (action_fault x again a vs rows)
action_agrees Set again a vs rows = set_agrees again a vs rows
action_agrees SetTrue again a vs rows = set_agrees again a vs rows
action_agrees SetFalse again a vs rows = set_agrees again a vs rows
action_agrees Append again a vs rows = values_agree a vs
action_agrees Count again a vs rows = count_agrees a vs rows
action_agrees Help again a vs rows = fails _
action_agrees HelpShort again a vs rows = fails _
action_agrees HelpLong again a vs rows = fails _
action_agrees Version again a vs rows = fails _

range_cases : (wanted same equal less more within : Bool) (i w f m : ErrorKind) → (wanted ≡ true → within ≡ false) → (same ≡ true → within ≡ equal)
    → (same ≡ false → within ≡ (not less && not more))
    → Agrees within (if wanted then i ∷ [] else (if same then (if equal then [] else w ∷ []) else (if less then f ∷ [] else (if more then m ∷ [] else []))))
range_cases true same equal less more within i w f m h k l = rw (h refl) (fails i)
range_cases false true equal less more within i w f m h k l = rw (k refl) (tested equal w)
range_cases false false equal true more within i w f m h k l = rw (l refl) (fails f)
range_cases false false equal false true within i w f m h k l = rw (l refl) (fails m)
range_cases false false equal false false within i w f m h k l = rw (l refl) passes

range_agrees : (least most n : ℕ) → Agrees (nat_le least n && nat_le n most) (range_kinds least most n)
range_agrees least most n =
    range_cases (nat_lt 0 least && n == 0) (least == most) (least == n) (nat_lt n least) (nat_lt most n) (nat_le least n && nat_le n most) _ _ _ _
    (λ h. grind (arith, nat_tests, h))
    (λ h. grind (arith, nat_tests, h))
    (λ h. grind (arith, nat_tests, h))

grouped : (p q : Bool) {b : Bool} {x y : Kinds} → Agrees (p && q) x → Agrees b y → Agrees (p && (q && b)) (or_else x y)
grouped true q h k = both_agree h k
grouped false q h k = both_agree h k

use_agrees : (again : Bool) (a : Rule) (vs : List Text) (rows : List Row) → Agrees (use_passes again a vs rows) (use_fault again a vs rows)
use_agrees again a vs rows =
    let least = (unwrap_or_range a.range).start_inclusive in
    grouped (nat_le least (length vs)) (nat_le (length vs) (most_values a)) (range_agrees least (most_values a) (length vs))
    (action_agrees (action_of a) again a (values_or_missing a vs) rows)

-- ---- the walk

settle_agrees : (c : List Rule) (again : Bool) (h : Held) → Agrees (settle_passes c again h) (settle_fault c again h)
settle_agrees c again h =
    if_any h.pending (λ p. if_any (arg_by_id c p.0) (λ a. use_agrees again a p.1 h.rows) passes) passes

react_agrees : (c : List Rule) (again : Bool) (a : Rule) (vs : List Text) (h : Held) → Agrees (react_passes c again a vs h) (react_fault c again a vs h)
react_agrees c again a vs h = both_agree (settle_agrees c again h) (use_agrees again a vs _)

option_agrees : (c : List Rule) (again : Bool) (a : Rule) (v : Option Text) (h : Held) → Agrees (option_passes c again a v h) (option_fault c again a v h)
option_agrees c again a (Some v) h = react_agrees c again a (v ∷ []) h
option_agrees c again a None h = settle_agrees c again h

long_agrees : (c : List Rule) (again : Bool) (a : Option Rule) (v : Option Text) (h : Held) → Agrees (long_passes c again a v h) (long_fault c again a v h)
long_agrees c again None v h = fails _
long_agrees c again (Some a) v h =
    chosen (takes_values a) (option_agrees c again a v h) (refused_if (is_some v) _ (react_agrees c again a [] h))

short_agrees : (c : List Rule) (again : Bool) (a : Option Rule) (rest : Text) (h : Held) (f : Held → Bool) (g : Held → Kinds)
    → ((x : Held) → Agrees (f x) (g x)) → Agrees (short_passes c again a rest h f) (short_fault c again a rest h g)
short_agrees c again None rest h f g each = fails _
short_agrees c again (Some a) rest h f g each =
    chosen (takes_values a) (option_agrees c again a (attached_value rest) h)
    (both_agree (react_agrees c again a [] h) (each (reacted c a [] h)))

flag_agrees : (c : List Rule) (again : Bool) (x : Option ℕ) (flags : Text) (skip : ℕ) (h : Held) (f : Text → ℕ → Held → Bool) (g : Text → ℕ → Held → Kinds)
    → ((t : Text) (n : ℕ) (y : Held) → Agrees (f t n y) (g t n y)) → Agrees (bundle_step_passes c again x flags skip h f) (bundle_step_fault c again x flags skip h g)
flag_agrees c again None flags skip h f g each = passes
flag_agrees c again (Some x) flags zero h f g each =
    let rest = drop (length (encode_utf8 x)) flags in
    short_agrees c again (arg_by_short c x) rest h (f rest 0) (g rest 0) (each rest 0)
flag_agrees c again (Some x) flags (suc skip) h f g each = each _ skip h

flags_agree : (c : List Rule) (again : Bool) (k : ℕ) (flags : Text) (skip : ℕ) (h : Held) → Agrees (flags_pass c again k flags skip h) (flags_fault c again k flags skip h)
unfolding flags_pass flags_fault
flags_agree c again zero flags skip h = passes
flags_agree c again (suc k) flags skip h =
    flag_agrees c again (slice_get (chars flags) 0) flags skip h (flags_pass c again k) (flags_fault c again k) (λ t n y. flags_agree c again k t n y)

flag_word_agrees : (c : List Rule) (again : Bool) (p : Option (Text × Option Text)) (word : Text) (h : Held)
    → Agrees (flag_word_passes c again p word h) (flag_word_fault c again p word h)
flag_word_agrees c again (Some p) word h = long_agrees c again (arg_by_long c p.0) p.1 h
flag_word_agrees c again None word h =
    if_any (short_of word) (λ flags. flags_agree c again (length flags) flags h.skip (record h { skip = 0 })) passes

no_subcommand : (waiting : Waiting) (word : Text) → subcommand_met [] waiting word ≡ None
no_subcommand idle word = refl
no_subcommand (option id) word = refl
no_subcommand positional word = refl

other_agrees : (s : Shape) (name : Option Text) (word : Text) (h : Held) → name ≡ None → Agrees (other_passes s name word h) (other_fault s name word h)
other_agrees s None word h e = unless (bytes_eq word (45 ∷ 45 ∷ [])) (flag_word_agrees s.rules s.args_override_self (long_of word) word h)
other_agrees s (Some name) word h e = cc

word_agrees : (s : Shape) (is_trailing : Bool) (waiting : Waiting) (word : Text) (h : Held)
    → Agrees (word_passes s [] is_trailing waiting word h) (word_fault s [] is_trailing waiting word h)
word_agrees s is_trailing waiting word h = unless is_trailing (other_agrees s (subcommand_met [] waiting word) word h (no_subcommand waiting word))

positional_agrees : (c : List Rule) (again : Bool) (a : Rule) (h : Held) → Agrees (positional_passes c again a h) (positional_fault c again a h)
positional_agrees c again a h = unless (is_pending a h.pending && takes_several a) (settle_agrees c again h)

step_agrees : (s : Shape) (position : ℕ) (h : Held) (step : Step) → s.is_leaf ≡ true → Agrees (step_passes s position h step) (step_fault s position h step)
step_agrees s position h (next w) leaf = passes
step_agrees s position h (trailing p) leaf = passes
step_agrees s position h (subcommand name) leaf = passes
step_agrees s position h value leaf =
    if_any (arg_by_index s.rules position) (λ a. positional_agrees s.rules s.args_override_self a h) (rw leaf (fails _))

turn_agrees : (s : Shape) (w : Walk) (word : Text) → s.is_leaf ≡ true → Agrees (turn_passes s [] w word) (turn_fault s [] w word)
turn_agrees s w word leaf =
    let met = word_met s.rules [] w.is_trailing w.waiting w.position word w.held in
    unless (is_some w.stopped)
    (both_agree (word_agrees s w.is_trailing w.waiting word w.held) (step_agrees s w.position met.0 met.1 leaf))

walk_agrees : (s : Shape) (w : Walk) (words : List Text) → s.is_leaf ≡ true → Agrees (walk_passes s [] w words) (walk_fault s [] w words)
unfolding walk_passes walk_fault
walk_agrees s w [] leaf = passes
walk_agrees s w (word ∷ rest) leaf = both_agree (turn_agrees s w word leaf) (walk_agrees s (walked s.rules [] w word) rest leaf)

-- ---- after the walk

no_request : (x : ArgAction) → not (is_request x) ≡ true → request_kinds x ≡ []
no_request Set e = refl
no_request Append e = refl
no_request SetTrue e = refl
no_request SetFalse e = refl
no_request Count e = refl
no_request Help e = cc
no_request HelpShort e = cc
no_request HelpLong e = cc
no_request Version e = cc

pub none_at : {b : Bool} {ks : Kinds} → Agrees b ks → b ≡ true → ks ≡ []
none_at passes e = refl
none_at (fails k) e = cc

pub one_at : {b : Bool} {ks : Kinds} → Agrees b ks → b ≡ false → (k : ErrorKind) × (ks ≡ k ∷ [])
one_at passes e = cc
one_at (fails k) e = (k, refl)

pub not_at : {b : Bool} {ks : Kinds} (k : ErrorKind) → Agrees b ks → ks ≡ k ∷ [] → b ≡ false
not_at k passes e = cc
not_at k (fails kind) e = refl

default_has_none : (rows : List Row) (a : Rule) → default_passes a ≡ true → default_fault rows a ≡ []
default_has_none rows a ok = go (has_row a.id rows) (is_empty a.defaults) ok
  where
    given : (not (is_request (action_of a)) && values_pass a a.defaults) ≡ true → given_default_fault a a.defaults ≡ []
    given e =
        let p = both (not (is_request (action_of a))) (values_pass a a.defaults) e in
        rw (no_request (action_of a) p.0) (none_at (values_agree a a.defaults) p.1)

    go : (has empty : Bool) → (empty || (not (is_request (action_of a)) && values_pass a a.defaults)) ≡ true
        → (if has || empty then [] else given_default_fault a a.defaults) ≡ []
    go true empty e = refl
    go false true e = refl
    go false false e = given e

defaults_have_none : (rows : List Row) (rules : List Rule) → list_all default_passes rules ≡ true → defaults_fault rows rules ≡ []
unfolding defaults_fault
defaults_have_none rows [] e = refl
defaults_have_none rows (a ∷ rest) e =
    let p = both (default_passes a) (list_all default_passes rest) e in
    rw (default_has_none rows a p.0) (defaults_have_none (with_default rows a) rest p.1)

-- what is asked of a command besides its words: it has no subcommand, its defaults pass, and nothing is required
pub record AsksNoMore (s : Shape) : Type 0 where
  pub leaf : s.is_leaf ≡ true
  pub defaults : list_all default_passes s.rules ≡ true
  pub valid : (rows : List Row) → is_valid s rows false ≡ true
  pub checked : (rows : List Row) → check_fault s rows false ≡ []

level_agrees : (s : Shape) (words : List Text) → AsksNoMore s → Agrees (level_passes s [] nothing_held words false) (level_fault s [] nothing_held words false [])
level_agrees s words asks =
    let end = (walk s.rules [] nothing_held words).held in
    let rest : Agrees (list_all default_passes s.rules && is_valid s (finished s.rules end) false)
    (or_else (defaults_fault (settled s.rules end).rows s.rules) (check_fault s (finished s.rules end) false)) =
    rw (asks.defaults, asks.valid (finished s.rules end), defaults_have_none (settled s.rules end).rows s.rules asks.defaults, asks.checked (finished s.rules end)) passes in
    both_agree (walk_agrees s (walk_from nothing_held) words asks.leaf)
    (both_agree (settle_agrees s.rules s.args_override_self end) rest)

leaf_is : (a : App) (words : List Text) → a.subs ≡ [] → built_takes a nothing_held words ≡ level_passes a.top [] nothing_held words false
leaf_is a words none = ap (λ subs. built_takes (record a { subs = subs }) nothing_held words) none ∙ go (walk a.top.rules [] nothing_held words).stopped
  where
    go : (stop : Option (Text × List Text))
        → (entered_passes (record a { subs = [] }) stop && level_passes a.top [] nothing_held words (is_some (entered (record a { subs = [] }) stop)))
        ≡ level_passes a.top [] nothing_held words false
    go None = refl
    go (Some p) = refl

built_agrees : (a : App) (words : List Text) → a.subs ≡ [] → AsksNoMore a.top → Agrees (built_takes a nothing_held words) (built_fault a nothing_held words)
built_agrees a words none asks = rw (leaf_is a words none, leaf_fault a nothing_held words none) (level_agrees a.top words asks)

asks_no_more : AsksNoMore (built nrmatch).top
unfolding clap_on_literals
asks_no_more = record {
  leaf = refl;
  defaults = refl;
  valid = λ rows. refl;
  checked = λ rows. refl;
}

pub command_agrees : (words : List Text) → Agrees (is_taken words) (fault_of nrmatch words)
command_agrees words = built_agrees (built nrmatch) words refl asks_no_more
