-- Each refusal of a file is named: by the codes of its faults, which are no code of a failed read or of want of memory.
use Rattle.std.proofs.Common.{◌≡◌, ℕ, ◌<◌, ◌≤◌, Bool, true, false, ◌&&◌, ◌||◌, List, [], Option, Err, refl, sym, ◌∙◌, arith, inl, inr, nat_le}
use Rattle.std.specs.Prelude.{◌==◌}
use Rattle.std.proofs.lemmas.Bool.{and_parts, cases_eq, true≢false}
use Rattle.std.proofs.lemmas.Bool.Decides.{nat_tests}
use Rattle.mt_terms.specs.Lists.{has}
use Rattle.mt_terms.specs.Market.{Registered}
use Rattle.mt_terms.specs.Registration.Faults.{Fault}
use Rattle.mt_terms.specs.Registration.Ids.{Bytes}
use Rattle.mt_terms.specs.Text.{IsNamedRefusal, is_fault_code, is_known_code}
use Rattle.mt_terms.specs.declared.refusal.Refusal.{Refusal}
use Rattle.mt_match_file.specs.Laws.{fault_codes}
use Rattle.mt_match_file.specs.Submitted.{submitted_by}
use Rattle.mt_match_file.proofs.FaultFacts.{faults_are_named_lem}
use Rattle.mt_input.specs.Files.{market_in}
use Rattle.mt_input.specs.Refusals.{IsRefusalIn, IsRefusalOf, NamesNone, fault_of}
use Rattle.mt_input.proofs.FileFacts.{fault_is}
use Rattle.mt_input.proofs.MarketFacts.{market_fault}
use Rattle.mt_files.specs.Files.{submitted_in}
use Rattle.mt_files.specs.Refusals.{IsNamedRefusalOf}
use Rattle.mt_files.specs.Text.{is_code_alone, is_code_of}
use Rattle.mt_files.specs.declared.source.Source.{Source}
use Rattle.mt_files.specs.declared.source.Source.TheVariants.{Market, Match}

market_codes : (code : ℕ) → is_known_code code ≡ true → code ≤ 22 → is_code_of Market code ≡ true
market_codes code h low =
    let other : (code == 41) ≡ false = grind (arith, nat_tests) in
    rw (h, other) refl

-- the codes of a market's records are 12 to 22, and their lines name the record
record IsInRange (code : ℕ) : Type 0 where
  low : 12 ≤ code
  high : code ≤ 22

range_of : (code : ℕ) → is_fault_code code ≡ true → IsInRange code
range_of code h =
    let outer = and_parts (is_known_code code && nat_le 12 code) (nat_le code 22) h in
    let low : nat_le 12 code ≡ true = (and_parts (is_known_code code) (nat_le 12 code) outer.0).1 in
    let high : nat_le code 22 ≡ true = outer.1 in
    record { low = grind (arith, nat_tests); high = grind (arith, nat_tests) }

not_alone_in_market : (code : ℕ) → 12 ≤ code → code ≤ 22 → is_code_alone code ≡ false
not_alone_in_market code low high = grind (arith, nat_tests)

alone_in_market : (f : Fault) → IsNamedRefusal f.code f.row f.id → is_code_alone f.code ≡ true → (f.row ≡ 0) × (f.id ≡ [])
alone_in_market f named alone = by (is_fault_code f.code) refl
  where
    by : (b : Bool) → is_fault_code f.code ≡ b → (f.row ≡ 0) × (f.id ≡ [])
    by false is = named.alone is
    by true is = let range = range_of f.code is in absurd (true≢false (sym alone ∙ not_alone_in_market f.code range.low range.high))

match_codes : (code : ℕ) → has fault_codes code ≡ true → 50 ≤ code
match_codes code h = grind (arith, nat_tests)

not_alone : (code : ℕ) → 50 ≤ code → is_code_alone code ≡ false
not_alone code low = grind (arith, nat_tests)

or_last : (a b : Bool) → b ≡ true → (a || b) ≡ true
or_last true b h = refl
or_last false b h = h

pub codes_large : (file : Source) (code : ℕ) → is_code_of file code ≡ true → 1 < code
codes_large Market code h = grind (arith, nat_tests)
codes_large Match code h = grind (arith, nat_tests)

-- a refusal that names neither a record nor an id
pub alone_named : (file : Source) (code : ℕ) → is_code_of file code ≡ true → IsNamedRefusalOf file code 0 []
alone_named file code h = record { known = h; is_id = refl; alone = λ _. (refl, refl) }

pub none_named : (file : Source) (code : ℕ) (e : Refusal) → is_code_of file code ≡ true → NamesNone code e → e.code ≡ code → IsNamedRefusalOf file e.code e.row e.id
none_named file code e known none is =
    let them = none is in
    rw (is, them.0, them.1) (alone_named file code known)

-- the faults of either file
pub market_named : (bytes : List ℕ) (f : Fault) → market_in bytes ≡ Err f → IsNamedRefusalOf Market f.code f.row f.id
market_named bytes f h =
    let fault = market_fault bytes f h in
    record {
      known = market_codes f.code fault.named.known fault.low;
      is_id = fault.named.is_id;
      alone = alone_in_market f fault.named;
    }

rows_named : (r : Registered) (rows : List (List Bytes)) (f : Fault) → submitted_by r rows ≡ Err f → IsNamedRefusalOf Match f.code f.row f.id
rows_named r rows f h =
    let named = faults_are_named_lem r rows f h in
    record {
      known = or_last (is_code_alone f.code) (has fault_codes f.code) named.known;
      is_id = named.is_id;
      alone = λ no. absurd (true≢false (sym no ∙ not_alone f.code (match_codes f.code named.known)));
    }

pub match_named : (r : Registered) (bytes : List ℕ) (f : Fault) → submitted_in r bytes ≡ Err f → IsNamedRefusalOf Match f.code f.row f.id
match_named r bytes f h =
    fault_is (submitted_by r) bytes (λ (x : Fault). IsNamedRefusalOf Match x.code x.row x.id) (alone_named Match 10 refl) (alone_named Match 11 refl) (rows_named r) f h

-- the first fault of a match's records is a refusal
pub refusal_of_rows : (r : Registered) (rows : List (List Bytes)) (e : Refusal) → submitted_by r rows ≡ Err (fault_of e) → IsRefusalIn (submitted_by r rows) e
refusal_of_rows r rows e h =
    let low : 50 ≤ e.code = match_codes e.code (faults_are_named_lem r rows (fault_of e) h).known in
    record { reads_did = λ is. omega arith; memory = λ is. absurd (omega arith); fault = λ m. h }

-- so each refusal of what a reader had left is named
module _ (left : Option (List ℕ)) (e : Refusal) where
  pub market_refusal_named : IsRefusalOf left market_in e → IsNamedRefusalOf Market e.code e.row e.id
  market_refusal_named h = elim (cases_eq e.code 30) [
    | inl memory ↦ none_named Market 30 e refl h.memory memory
    | inr m ↦ elim (cases_eq e.code 31) [
      | inl read ↦ none_named Market 31 e refl h.read read
      | inr r ↦ let f = h.fault m r in market_named f.bytes (fault_of e) f.is_so
    ]
  ]

  pub match_refusal_named : (r : Registered) → IsRefusalOf left (submitted_in r) e → IsNamedRefusalOf Match e.code e.row e.id
  match_refusal_named r h = elim (cases_eq e.code 30) [
    | inl memory ↦ none_named Match 30 e refl h.memory memory
    | inr m ↦ elim (cases_eq e.code 31) [
      | inl read ↦ none_named Match 31 e refl h.read read
      | inr reads ↦ let f = h.fault m reads in match_named r f.bytes (fault_of e) f.is_so
    ]
  ]
