-- What a caller reads of an option that has a default, after a parse that succeeds.
use Rattle.std.proofs.Common.{◌≡◌, ◌∙◌, ◌<◌, ◌≤◌, ℕ, zero, suc, Bool, true, false, List, [], ◌∷◌, length, Option, Some, None, refl, sym, ap, subst, inl, inr, arith, codes, if◌then◌else◌}
use Rattle.std.specs.Prelude.{⊤, slice_get, find, pos, option_map, option_and_then}
use Rattle.std.specs.Option.{option_map_or}
use Rattle.std.proofs.lemmas.Bool.{or_cases}
use Rattle.std.specs.List.{All, slice_index_or}
use Rattle.std.specs.Str.{bytes_eq}
use Rattle.std.specs.Str.Parse.{IsNumeral, starts_with_minus, without_leading_plus}
use Rattle.std.specs.Borrow.{Bor}
use Rattle.std.proofs.lemmas.Int.{ints}
use Rattle.std.proofs.lemmas.List.Elements.{All-drop}
use Rattle.std.proofs.lemmas.Slice.Eq.{bytes_eq-Decides}
use Rattle.clap.specs.Facts.{Entry, EntryPasses, HasId, HasIn, ValuesPass, PassesArg, args_of, groups_of, least_values, parser_of}
use Rattle.clap.specs.Lexer.{without_minus}
use Rattle.clap.specs.Matches.{one_text}
use Rattle.clap.specs.Values.{Accepts, IsSignedIn, read_as, reading_of}
use Rattle.clap.specs.Walk.{Text}
use Rattle.clap.specs.declared.builder.action.ArgAction.TheVariants.{Count, Set}
use Rattle.clap.specs.declared.builder.arg.Arg.{Arg}
use Rattle.clap.specs.declared.builder.command.Command.{Command}
use Rattle.clap.specs.declared.builder.value_parser.ValueParser.{ValueParser}
use Rattle.clap.specs.declared.builder.value_parser.Reading.{Reading}
use Rattle.clap.specs.declared.builder.value_parser.ValueParser.TheVariants.{Bool as AsBool}
use Rattle.clap.specs.declared.parser.matches.Found.{Found}
use Rattle.mt_args.specs.CommandLine.{IsFlag, number_at}

-- ---- the number of a text

without_minus_is : (t : Text) → starts_with_minus t ≡ false → without_minus t ≡ t
without_minus_is [] e = refl
without_minus_is (x ∷ xs) e = rw e refl

-- a text that passed a range from 1 or more on is decimal digits, of a number in the range
pub number_in_range : (low high : ℕ) (t : Text) → 1 ≤ low → IsSignedIn (pos low) (pos high) t
    → (without_minus t ≡ t) × IsNumeral 10 (without_leading_plus t) × (low ≤ number_at t) × (number_at t ≤ high)
number_in_range low high t positive passed = go (starts_with_minus t) refl
  where
    go : (b : Bool) → starts_with_minus t ≡ b
        → (without_minus t ≡ t) × IsNumeral 10 (without_leading_plus t) × (low ≤ number_at t) × (number_at t ≤ high)
    go true minus = let least = rw minus at passed.2 in absurd (omega (arith, ints))
    go false plain =
        let least = rw plain at passed.2 in
        let most = rw plain at passed.3 in
        (without_minus_is t plain, rw plain at passed.0, omega (arith, ints), omega (arith, ints))

-- ---- the entry of an argument

-- an entry with an id that is not the first one is among the rest
later : (x : Entry) (xs : List Entry) (id : Text) → HasIn (x ∷ xs) id → bytes_eq x.0.now id ≡ false → HasIn xs id
later x xs id has other = go has.0 has.1 has.2
  where
    go : (i : ℕ) → i < length (x ∷ xs) → ((d : Entry) → bytes_eq (slice_index_or (x ∷ xs) i d).0.now id ≡ true) → HasIn xs id
    go zero lt at = let bad : bytes_eq x.0.now id ≡ true = at x in cc
    go (suc i) lt at = (i, omega arith, at)

-- the first entry with an id, if there is one
entry_found : (P : Entry → Type 0) (xs : List Entry) (id : Text) → All P xs → HasIn xs id
    → (e : Entry) × (find (λ x. bytes_eq x.0.now id) xs ≡ Some e) × (e.0.now ≡ id) × P e
entry_found P [] id all has = absurd (omega (arith, has.1))
entry_found P (x ∷ xs) id all has = go (bytes_eq x.0.now id) refl (entry_found P xs id (All-drop P 1 (x ∷ xs) all))
  where
    go : (t : Bool) → bytes_eq x.0.now id ≡ t → (HasIn xs id → (e : Entry) × (find (λ y. bytes_eq y.0.now id) xs ≡ Some e) × (e.0.now ≡ id) × P e)
        → (e : Entry) × (find (λ y. bytes_eq y.0.now id) (x ∷ xs) ≡ Some e) × (e.0.now ≡ id) × P e
    go true t rest = (x, rw t refl, (bytes_eq-Decides x.0.now id).0 t, all 0 x (omega arith))
    go false t rest = rw t (rest (later x xs id has t))

-- an argument that takes one value, by this parser
pub record TakesOne (q : ValueParser) (a : Arg) : Type 0 where
  pub action : a.action ≡ Some Set
  pub delimiter : a.val_delim ≡ None
  pub least : 1 ≤ least_values a
  pub parser : parser_of a ≡ q

-- something is so of each argument of the command with this id
abbrev pub AllWithId : Command → Text → (Arg → Type 0) → Type 0
AllWithId c id Is = (j : ℕ) (x : Arg) → j < length (args_of c) → slice_index_or (args_of c) j x ≡ x → bytes_eq x.id.now id ≡ true → Is x

-- the entry of such an argument has a first value, which passed the parser and is read as it says
pub first_of_entry : (c : Command) (id : Text) (q : ValueParser) (e : Entry) → groups_of c ≡ [] → (id ≡ [] → ⊥) → AllWithId c id (TakesOne q)
    → e.0.now ≡ id → EntryPasses c e
    → (v : Bor Text) × (slice_get e.1.vals.items 0 ≡ Some v) × (e.1.reading ≡ reading_of q) × ((i : Bool) × Accepts i q v.now)
first_of_entry c id q e no_groups named fit key pass =
    let no_group : e.1.is_group ≡ true → ⊥ = λ g. elim (pass.3 g) [
      | inl empty ↦ named (sym key ∙ empty)
      | inr lots ↦
          let bad : 0 < 0 = rw no_groups at lots in
          absurd (omega arith)
    ] in
    let all : All (λ v. PassesArg c id v.now) e.1.vals.items = elim pass.0 [
      | inl g ↦ absurd (no_group g)
      | inr vals ↦ subst (λ (w : Text). All (λ v. PassesArg c w v.now) e.1.vals.items) key vals
    ] in
    let some : 0 < length e.1.vals.items = elim pass.1 [
      | inl h ↦ absurd (no_group h.0)
      | inr (inl v) ↦ v
      | inr (inr (inl h)) ↦
          let any = h.1 in
          let one = fit any.0 any.1 any.2 any.3 (rw key at any.4.0) in
          let bad : Set ≡ Count = rw one.action at any.4.1 in
          cc
      | inr (inr (inr h)) ↦
          let one = fit h.0 h.1 h.2 h.3 (rw key at h.4.0) in
          elim h.4.1 [
            | inl none ↦ let least = one.least in absurd (omega arith)
            | inr has ↦
                let bad : false ≡ true = rw one.delimiter at has in
                cc
          ]
    ] in
    let how : e.1.reading ≡ reading_of q = elim pass.4 [
      | inl g ↦ absurd (no_group g)
      | inr h ↦
          let one = fit h.0 h.1 h.2 h.3 (rw key at h.4.0) in
          sym h.4.1 ∙ ap reading_of one.parser
    ] in
    go e.1.vals.items all some how
  where
    go : (vs : List (Bor Text)) → All (λ v. PassesArg c id v.now) vs → 0 < length vs → e.1.reading ≡ reading_of q
        → (v : Bor Text) × (slice_get vs 0 ≡ Some v) × (e.1.reading ≡ reading_of q) × ((i : Bool) × Accepts i q v.now)
    go [] all some how = absurd (omega arith)
    go (v ∷ vs) all some how =
        let any = all 0 v (omega arith) in
        let one = fit any.0 any.1 any.2 any.3 any.4.0 in
        (v, refl, how, (any.1.ignore_case, subst (λ (p : ValueParser). Accepts any.1.ignore_case p v.now) one.parser any.4.1))

-- so the typed getters read a text that passed the parser
pub text_of_option : (c : Command) (f : Found) (id : Text) (q : ValueParser) → ValuesPass c f → HasId f id → groups_of c ≡ [] → (id ≡ [] → ⊥) → AllWithId c id (TakesOne q)
    → (t : Text) × (one_text f id ≡ Some (read_as (reading_of q) t)) × ((i : Bool) × Accepts i q t)
text_of_option c f id q values has no_groups named fit =
    let found = entry_found (EntryPasses c) f.entries.items id values has in
    let first = first_of_entry c id q found.0 no_groups named fit found.2 found.3 in
    (first.0.now, rw (found.1, first.1, first.2) refl, first.3)

-- ---- an argument that may have no value

-- what is read of an argument with this parser: nothing, or a text that passed it
abbrev pub PassedIf : ValueParser → Option Text → Type 0
PassedIf q None = ⊤
PassedIf q (Some t) = (v : Text) × (t ≡ read_as (reading_of q) v) × ((i : Bool) × Accepts i q v)

-- an argument with this parser
abbrev pub IsReadBy : ValueParser → Arg → Type 0
IsReadBy q a = parser_of a ≡ q

passed_of_entry : (c : Command) (id : Text) (q : ValueParser) (e : Entry) → groups_of c ≡ [] → (id ≡ [] → ⊥) → AllWithId c id (IsReadBy q)
    → e.0.now ≡ id → EntryPasses c e → PassedIf q (option_map (λ s. read_as e.1.reading s.now) (slice_get e.1.vals.items 0))
passed_of_entry c id q e no_groups named fit key pass =
    let no_group : e.1.is_group ≡ true → ⊥ = λ g. elim (pass.3 g) [
      | inl empty ↦ named (sym key ∙ empty)
      | inr lots ↦
          let bad : 0 < 0 = rw no_groups at lots in
          absurd (omega arith)
    ] in
    let all : All (λ v. PassesArg c id v.now) e.1.vals.items = elim pass.0 [
      | inl g ↦ absurd (no_group g)
      | inr vals ↦ subst (λ (w : Text). All (λ v. PassesArg c w v.now) e.1.vals.items) key vals
    ] in
    let how : e.1.reading ≡ reading_of q = elim pass.4 [
      | inl g ↦ absurd (no_group g)
      | inr h ↦ sym h.4.1 ∙ ap reading_of (fit h.0 h.1 h.2 h.3 (rw key at h.4.0))
    ] in
    go e.1.vals.items all how
  where
    go : (vs : List (Bor Text)) → All (λ v. PassesArg c id v.now) vs → e.1.reading ≡ reading_of q
        → PassedIf q (option_map (λ s. read_as e.1.reading s.now) (slice_get vs 0))
    go [] all how = tt
    go (v ∷ vs) all how =
        let any = all 0 v (omega arith) in
        let is = fit any.0 any.1 any.2 any.3 any.4.0 in
        (v.now, ap (λ (r : Reading). read_as r v.now) how, (any.1.ignore_case, subst (λ (p : ValueParser). Accepts any.1.ignore_case p v.now) is any.4.1))

-- what a getter reads of an entry that was found
abbrev text_in : Option Entry → Option Text
text_in found = option_and_then (λ a. option_map (λ s. read_as a.reading s.now) (slice_get a.vals.items 0)) (option_map (λ e. e.1) found)

passed_of_entries : (c : Command) (id : Text) (q : ValueParser) → groups_of c ≡ [] → (id ≡ [] → ⊥) → AllWithId c id (IsReadBy q)
    → (xs : List Entry) → All (EntryPasses c) xs
    → PassedIf q (text_in (find (λ e. bytes_eq e.0.now id) xs))
passed_of_entries c id q no_groups named fit [] all = tt
passed_of_entries c id q no_groups named fit (x ∷ xs) all = go (bytes_eq x.0.now id) refl (passed_of_entries c id q no_groups named fit xs (All-drop (EntryPasses c) 1 (x ∷ xs) all))
  where
    go : (t : Bool) → bytes_eq x.0.now id ≡ t → PassedIf q (text_in (find (λ e. bytes_eq e.0.now id) xs))
        → PassedIf q (text_in (if t then Some x else find (λ e. bytes_eq e.0.now id) xs))
    go true t rest = passed_of_entry c id q x no_groups named fit ((bytes_eq-Decides x.0.now id).0 t) (all 0 x (omega arith))
    go false t rest = rest

-- so a getter reads nothing of an argument, or what passed its parser
pub text_of_argument : (c : Command) (f : Found) (id : Text) (q : ValueParser) → ValuesPass c f → groups_of c ≡ [] → (id ≡ [] → ⊥) → AllWithId c id (IsReadBy q) → PassedIf q (one_text f id)
text_of_argument c f id q values no_groups named fit = passed_of_entries c id q no_groups named fit f.entries.items values

-- of a flag it reads that it is set, or not, or nothing
pub flag_of_passed : (o : Option Text) → PassedIf AsBool o → IsFlag o
flag_of_passed None h = tt
flag_of_passed (Some t) h =
    elim (or_cases (bytes_eq h.0 (codes "true")) (bytes_eq h.0 (codes "false")) h.2.1) [
      | inl is_set ↦ inl (h.1 ∙ (bytes_eq-Decides h.0 (codes "true")).0 is_set)
      | inr unset ↦ inr (h.1 ∙ (bytes_eq-Decides h.0 (codes "false")).0 unset)
    ]

pub flag_read : (o : Option Text) → IsFlag o → (b : Bool) → (o ≡ None → b ≡ false) → (o ≡ Some (codes "true") → b ≡ true) → (o ≡ Some (codes "false") → b ≡ false)
    → b ≡ option_map_or (bytes_eq (codes "true")) o false
flag_read None flag b none set unset = none refl
flag_read (Some t) (inl e) b none set unset = set (ap (λ (x : Text). Some x) e) ∙ sym (ap (bytes_eq (codes "true")) e)
flag_read (Some t) (inr e) b none set unset = unset (ap (λ (x : Text). Some x) e) ∙ sym (ap (bytes_eq (codes "true")) e)
