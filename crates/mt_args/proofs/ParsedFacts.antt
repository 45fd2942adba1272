-- What a parse of the command `nrmatch` gives, in both outcomes.
use Rattle.std.proofs.Common.{◌≡◌, ◌≢◌, ◌∙◌, ◌<◌, ◌≤◌, ◌⊎◌, ℕ, zero, suc, Bool, true, false, List, [], ◌∷◌, length, Option, Some, None, Ok, Err, IfOk, IfErr, refl, sym, ap, subst, inl, inr, arith, codes, map, Result, slice_index, ◌^◌}
use Rattle.std.specs.Prelude.{pos}
use Rattle.std.specs.List.{slice_index_or, list_all}
use Rattle.std.specs.Str.{bytes_eq}
use Rattle.std.specs.Str.Parse.{ExplainsUnsignedError, HasUnsignedDigitsIfOk, IsNumeral, ParsesUnsigned, without_leading_plus}
use Rattle.std.proofs.lemmas.List.{get_or-map, length-map}
use Rattle.clap.specs.Facts.{ValuesPass, args_of, groups_of, least_values, parser_of_value, unwrap_or_range}
use Rattle.clap.specs.Texts.{items_of}
use Rattle.clap.specs.declared.builder.range.ValueRange.{ValueRange}
use Rattle.clap.specs.Built.{IsParsedFrom, SameRules}
use Rattle.clap.specs.Kinds.{FailsBy, IsAmong, Kinds}
use Rattle.clap.specs.Matches.{ReadsOne, found_of, one_text}
use Rattle.clap.specs.Simple.{App, IsSimple, app_of, is_ready, is_ready_leaf}
use Rattle.clap.specs.Values.{Accepts, kind_of, read_as, reading_of}
use Rattle.clap.specs.Walk.{Rule, Text, rows_of, rule_of, texts}
use Rattle.clap.proofs.CallerLemmas.{default_present, same_rules_by_id}
use Rattle.clap.proofs.SimpleLemmas.{ready_simple, simple_groups, all_simple}
use Rattle.clap.proofs.WalkLemmas.{one_text-rows}
use Rattle.clap.specs.declared.builder.action.ArgAction.{ArgAction}
use Rattle.clap.specs.declared.builder.action.ArgAction.TheVariants.{Set, SetTrue}
use Rattle.clap.specs.declared.builder.arg.Arg.{Arg}
use Rattle.clap.specs.declared.builder.command.Command.{Command}
use Rattle.clap.specs.declared.builder.value_parser.ValueParser.{ValueParser}
use Rattle.clap.specs.declared.builder.value_parser.ValueParser.TheVariants.{Bool as AsBool, Signed}
use Rattle.clap.specs.declared.error.Error.{Error}
use Rattle.clap.specs.declared.error.kind.ErrorKind.{ErrorKind}
use Rattle.clap.specs.declared.error.kind.ErrorKind.TheVariants.{OutOfMemory}
use Rattle.clap.specs.declared.parser.matches.ArgMatches.{ArgMatches}
use Rattle.std.specs.declared.num.ParseIntError.{ParseIntError}
use Rattle.mt_args.specs.CommandLine.{HasNumber, HasOptions, IsFlag, budget_rule, nrmatch, number_at, orders_rule, set_aside_rule, workers_rule}
use Rattle.mt_args.proofs.Agreement.{Agrees, passes, fails}
use Rattle.mt_args.proofs.OptionReads.{AllWithId, IsReadBy, TakesOne, flag_of_passed, number_in_range, text_of_argument, text_of_option}

-- ---- a refusal

-- a kind that may come is the one that there is
only_kind : {b : Bool} {ks : Kinds} (k : ErrorKind) → Agrees b ks → IsAmong k ks → ks ≡ k ∷ []
only_kind k passes h = absurd h
only_kind k (fails kind) (inl same) = ap (λ x. x ∷ []) (sym same)
only_kind k (fails kind) (inr h) = absurd h

pub refused_by_kind : {b : Bool} {ks : Kinds} (r : Result ArgMatches Error) → Agrees b ks → FailsBy ks r → IfErr r (λ e. kind_of e ≢ OutOfMemory → ks ≡ kind_of e ∷ [])
refused_by_kind (Ok m) agrees h = _
refused_by_kind (Err e) agrees (inl memory) = λ other. absurd (other memory)
refused_by_kind (Err e) agrees (inr among) = λ other. only_kind (kind_of e) agrees among

test_fails : {b : Bool} {ks : Kinds} (k : ErrorKind) → Agrees b ks → IsAmong k ks → b ≡ false
test_fails k passes h = absurd h
test_fails k (fails kind) h = refl

pub refused_by_test : {b : Bool} {ks : Kinds} (r : Result ArgMatches Error) → Agrees b ks → FailsBy ks r → IfErr r (λ e. kind_of e ≢ OutOfMemory → b ≡ false)
refused_by_test (Ok m) agrees h = _
refused_by_test (Err e) agrees (inl memory) = λ other. absurd (other memory)
refused_by_test (Err e) agrees (inr among) = λ other. test_fails (kind_of e) agrees among

test_passes : {b : Bool} {ks : Kinds} → Agrees b ks → ks ≡ [] → b ≡ true
test_passes passes h = refl
test_passes (fails kind) h = cc

pub taken_by_test : {b : Bool} {ks : Kinds} (r : Result ArgMatches Error) → Agrees b ks → FailsBy ks r → IfOk r (λ _. b ≡ true)
taken_by_test (Ok m) agrees h = test_passes agrees h
taken_by_test (Err e) agrees h = _

-- ---- an argument

-- the rule of an argument of the command, with its action and its parser
record IsArgAt (k : ℕ) (x : ArgAction) (q : ValueParser) (r : Rule) : Type 0 where
  below : k < 5
  place : slice_index_or nrmatch.top.rules k r ≡ r
  action : r.action ≡ Some x
  parser : r.parser ≡ Some q
  named : r.id ≡ [] → ⊥
  own : (r.id ≡ codes "help") ⊎ (r.id ≡ codes "version") → ⊥
  only : (j : ℕ) → j < 5 → bytes_eq (slice_index_or nrmatch.top.rules j r).id r.id ≡ true → j ≡ k

some_arg : (xs : List Arg) → 0 < length xs → Arg
some_arg [] lt = absurd (omega arith)
some_arg (x ∷ xs) lt = x

is_simple_command : (old : Command) → app_of old ≡ nrmatch → IsSimple old
is_simple_command old is = ready_simple old (ap (λ (a : App). is_ready a.top) is) (ap (λ (a : App). list_all is_ready_leaf a.subs) is)

-- such an argument of the command as it was made, and of the command as it is parsed
module _ (old : Command) (m : ArgMatches) (p : IsParsedFrom old m) (is : app_of old ≡ nrmatch) (k : ℕ) (x : ArgAction) (q : ValueParser) (r : Rule) (at : IsArgAt k x q r) where
  rules : map rule_of (args_of old) ≡ nrmatch.top.rules
  rules = ap (λ (a : App). a.top.rules) is

  count : length (args_of old) ≡ 5
  count = sym (length-map (args_of old) rule_of) ∙ ap length rules

  abbrev d : Arg
  d = some_arg (args_of old) (omega (arith, count))

  rule_at : (j : ℕ) (e : Arg) → j < length (args_of old) → rule_of (slice_index_or (args_of old) j e) ≡ slice_index_or nrmatch.top.rules j r
  rule_at j e lt = sym (get_or-map rule_of (args_of old) j e r lt) ∙ ap (λ l. slice_index_or l j r) rules

  here : k < length (args_of old)
  here = omega (arith, at.below, count)

  abbrev a : Arg
  a = slice_index_or (args_of old) k d

  same : rule_of a ≡ r
  same = rule_at k d here ∙ at.place

  id : a.id.now ≡ r.id
  id = ap (λ (y : Rule). y.id) same

  unique : (j : ℕ) (e : Arg) → j < length (args_of old) → bytes_eq (slice_index_or (args_of old) j e).id.now a.id.now ≡ true → j ≡ k
  unique j e low equal =
      let there : (slice_index_or (args_of old) j e).id.now ≡ (slice_index_or nrmatch.top.rules j r).id = ap (λ (y : Rule). y.id) (rule_at j e low) in
      at.only j (omega (arith, low, count)) (rw (← there, ← id) equal)

  set : a.action ≡ Some x
  set = ap (λ (y : Rule). y.action) same ∙ at.action

  parser : a.value_parser ≡ Some q
  parser = ap (λ (y : Rule). y.parser) same ∙ at.parser

  kept : (j : ℕ) (y : Arg) → j < length (args_of p.built) → slice_index_or (args_of p.built) j y ≡ y → bytes_eq y.id.now a.id.now ≡ true → SameRules a y
  kept = same_rules_by_id old m p k d here unique (λ auto. at.own (elim auto [ inl h ↦ inl (sym id ∙ h) | inr h ↦ inr (sym id ∙ h) ]))

  no_groups : groups_of p.built ≡ []
  no_groups = (p.from.same_groups (simple_groups old (ap (λ (y : App). all_simple y.top.rules) is))).1 ∙ (is_simple_command old is).groups

  values : ValuesPass p.built (found_of m)
  values = (p.parsed (p.from.globals ∙ (is_simple_command old is).globals)).values

  own_id : a.id.now ≡ [] → ⊥
  own_id empty = at.named (sym id ∙ empty)

-- an option has one value, with a default
option_text : (old : Command) (m : ArgMatches) (p : IsParsedFrom old m) → app_of old ≡ nrmatch → (k : ℕ) (q : ValueParser) (r : Rule) → IsArgAt k Set q r
    → r.range ≡ None → 0 < length r.defaults
    → (t : Text) × (one_text (found_of m) r.id ≡ Some (read_as (reading_of q) t)) × ((i : Bool) × Accepts i q t)
option_text old m p is k q r at no_range default =
    let a = a old m p is k Set q r at in
    let same : rule_of a ≡ r = same old m p is k Set q r at in
    let here = here old m p is k Set q r at in
    let arg_simple = (is_simple_command old is).args k (d old m p is k Set q r at) here in
    let given : length (texts (items_of a.default_vals)) ≡ length r.defaults = ap (λ (x : Rule). length x.defaults) same in
    let defaults : 0 < length (items_of a.default_vals) =
    omega (arith, given, default, length-map (items_of a.default_vals) (λ s. s.now)) in
    let has = default_present old m p (is_simple_command old is).globals k (d old m p is k Set q r at) here (arg_simple.default_ifs, defaults) in
    let range : a.num_vals ≡ None = ap (λ (x : Rule). x.range) same ∙ no_range in
    let least : 1 ≤ least_values a = subst (λ (x : Option ValueRange). 1 ≤ (unwrap_or_range x).start_inclusive) (sym range) (omega arith) in
    let fit : AllWithId p.built a.id.now (TakesOne q) = λ j x high there equal.
    let s = kept old m p is k Set q r at j x high there equal in
    record {
      action = s.action Set (set old m p is k Set q r at);
      delimiter = s.val_delim ∙ arg_simple.delimiter;
      least = s.least (set old m p is k Set q r at) least;
      parser = ap parser_of_value (s.parser q (parser old m p is k Set q r at));
    } in
    let text = text_of_option p.built (found_of m) a.id.now q (values old m p is k Set q r at) has (no_groups old m p is k Set q r at) (own_id old m p is k Set q r at) fit in
    (text.0, subst (λ (w : Text). one_text (found_of m) w ≡ Some (read_as (reading_of q) text.0)) (id old m p is k Set q r at) text.1, text.2)

-- an option without a value is set, or it isn't
flag_text : (old : Command) (m : ArgMatches) (p : IsParsedFrom old m) → app_of old ≡ nrmatch → (k : ℕ) (r : Rule) → IsArgAt k SetTrue AsBool r
    → IsFlag (one_text (found_of m) r.id)
flag_text old m p is k r at =
    let a = a old m p is k SetTrue AsBool r at in
    let fit : AllWithId p.built a.id.now (IsReadBy AsBool) = λ j x high there equal.
    ap parser_of_value ((kept old m p is k SetTrue AsBool r at j x high there equal).parser AsBool (parser old m p is k SetTrue AsBool r at)) in
    let passed = text_of_argument p.built (found_of m) a.id.now AsBool (values old m p is k SetTrue AsBool r at) (no_groups old m p is k SetTrue AsBool r at) (own_id old m p is k SetTrue AsBool r at) fit in
    subst (λ (w : Text). IsFlag (one_text (found_of m) w)) (id old m p is k SetTrue AsBool r at) (flag_of_passed _ passed)

-- no other argument has this id, and it isn't one of `clap`'s own
workers_at : IsArgAt 1 Set (Signed (pos 1) (pos 64)) workers_rule
workers_at = record {
  below = omega arith;
  place = refl;
  action = refl;
  parser = refl;
  named = λ e. cc;
  own = λ auto. elim auto [
    | inl e ↦ let bad : 119 ≡ 104 = ap (λ (t : Text). slice_index t 0) e in absurd (omega arith)
    | inr e ↦ let bad : 119 ≡ 118 = ap (λ (t : Text). slice_index t 0) e in absurd (omega arith)
  ];
  only = only_workers;
}
  where
    only_workers : (j : ℕ) → j < 5 → bytes_eq (slice_index_or nrmatch.top.rules j workers_rule).id workers_rule.id ≡ true → j ≡ 1
    only_workers zero lt e = cc
    only_workers (suc zero) lt e = refl
    only_workers (suc (suc zero)) lt e = cc
    only_workers (suc (suc (suc zero))) lt e = cc
    only_workers (suc (suc (suc (suc zero)))) lt e = cc
    only_workers (suc (suc (suc (suc (suc j))))) lt e = absurd (omega arith)

budget_at : IsArgAt 2 Set (Signed (pos 1) (pos 4294967295)) budget_rule
budget_at = record {
  below = omega arith;
  place = refl;
  action = refl;
  parser = refl;
  named = λ e. cc;
  own = λ auto. elim auto [
    | inl e ↦ let bad : 98 ≡ 104 = ap (λ (t : Text). slice_index t 0) e in absurd (omega arith)
    | inr e ↦ let bad : 98 ≡ 118 = ap (λ (t : Text). slice_index t 0) e in absurd (omega arith)
  ];
  only = only_budget;
}
  where
    only_budget : (j : ℕ) → j < 5 → bytes_eq (slice_index_or nrmatch.top.rules j budget_rule).id budget_rule.id ≡ true → j ≡ 2
    only_budget zero lt e = cc
    only_budget (suc zero) lt e = cc
    only_budget (suc (suc zero)) lt e = refl
    only_budget (suc (suc (suc zero))) lt e = cc
    only_budget (suc (suc (suc (suc zero)))) lt e = cc
    only_budget (suc (suc (suc (suc (suc j))))) lt e = absurd (omega arith)

orders_at : IsArgAt 3 Set (Signed (pos 1) (pos 1000)) orders_rule
orders_at = record {
  below = omega arith;
  place = refl;
  action = refl;
  parser = refl;
  named = λ e. cc;
  own = λ auto. elim auto [
    | inl e ↦ let bad : 111 ≡ 104 = ap (λ (t : Text). slice_index t 0) e in absurd (omega arith)
    | inr e ↦ let bad : 111 ≡ 118 = ap (λ (t : Text). slice_index t 0) e in absurd (omega arith)
  ];
  only = only_orders;
}
  where
    only_orders : (j : ℕ) → j < 5 → bytes_eq (slice_index_or nrmatch.top.rules j orders_rule).id orders_rule.id ≡ true → j ≡ 3
    only_orders zero lt e = cc
    only_orders (suc zero) lt e = cc
    only_orders (suc (suc zero)) lt e = cc
    only_orders (suc (suc (suc zero))) lt e = refl
    only_orders (suc (suc (suc (suc zero)))) lt e = cc
    only_orders (suc (suc (suc (suc (suc j))))) lt e = absurd (omega arith)

set_aside_at : IsArgAt 4 SetTrue AsBool set_aside_rule
set_aside_at = record {
  below = omega arith;
  place = refl;
  action = refl;
  parser = refl;
  named = λ e. cc;
  own = λ auto. elim auto [
    | inl e ↦ let bad : 115 ≡ 104 = ap (λ (t : Text). slice_index t 0) e in absurd (omega arith)
    | inr e ↦ let bad : 115 ≡ 118 = ap (λ (t : Text). slice_index t 0) e in absurd (omega arith)
  ];
  only = only_set_aside;
}
  where
    only_set_aside : (j : ℕ) → j < 5 → bytes_eq (slice_index_or nrmatch.top.rules j set_aside_rule).id set_aside_rule.id ≡ true → j ≡ 4
    only_set_aside zero lt e = cc
    only_set_aside (suc zero) lt e = cc
    only_set_aside (suc (suc zero)) lt e = cc
    only_set_aside (suc (suc (suc zero))) lt e = cc
    only_set_aside (suc (suc (suc (suc zero)))) lt e = refl
    only_set_aside (suc (suc (suc (suc (suc j))))) lt e = absurd (omega arith)

number_there : (m : ArgMatches) (low high : ℕ) (id : Text) → 1 ≤ low
    → (t : Text) × (one_text (found_of m) id ≡ Some (read_as (reading_of (Signed (pos low) (pos high))) t)) × ((i : Bool) × Accepts i (Signed (pos low) (pos high)) t)
    → HasNumber low high id (rows_of (found_of m))
number_there m low high id positive text =
    let number = number_in_range low high text.0 positive text.2.1 in
    (text.0, sym (one_text-rows (found_of m) id) ∙ text.1 ∙ ap (λ (t : Text). Some t) number.0, number.1, number.2, number.3)

-- all options are among the matches
pub options_there : (old : Command) → app_of old ≡ nrmatch → (m : ArgMatches) → IsParsedFrom old m → HasOptions (rows_of (found_of m))
options_there old is m p = (
  number_there m 1 64 (codes "workers") (omega arith) (option_text old m p is 1 _ _ workers_at refl (omega arith)),
  number_there m 1 4294967295 (codes "budget") (omega arith) (option_text old m p is 2 _ _ budget_at refl (omega arith)),
  number_there m 1 1000 (codes "orders") (omega arith) (option_text old m p is 3 _ _ orders_at refl (omega arith)),
  subst IsFlag (one_text-rows (found_of m) (codes "set-aside")) (flag_text old m p is 4 _ set_aside_at),
)

-- ---- the number of an option

-- what `parse` says of a number of 32 bits
abbrev pub ReadsU32 : Text → Result ℕ ParseIntError → Type 0
ReadsU32 t r = ParsesUnsigned 32 10 t r × ExplainsUnsignedError 10 t r × HasUnsignedDigitsIfOk t r

number_read : (t : Text) (r : Option ℕ) → ReadsOne ReadsU32 t r → IsNumeral 10 (without_leading_plus t) → number_at t < 2 ^ 32 → r ≡ Some (number_at t)
number_read t (Some v) read numeral fits = ap (λ (n : ℕ). Some n) read.0.1
number_read t None read numeral fits = absurd (read.1.0 (numeral, fits))

-- the number of an option is what a getter reads
pub option_read : (m : ArgMatches) (id : Text) (low high : ℕ) (there : HasNumber low high id (rows_of (found_of m))) (r : Option ℕ)
    → ((t : Text) → one_text (found_of m) id ≡ Some t → ReadsOne ReadsU32 t r) → high < 2 ^ 32 → r ≡ Some (number_at there.0)
option_read m id low high there r reads fits =
    number_read there.0 r (reads there.0 (one_text-rows (found_of m) id ∙ there.1)) there.2 (omega (arith, there.4))
