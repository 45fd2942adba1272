-- What is so of a market in bytes, and of a fault in its place: the laws of files give it for their records.
use Rattle.std.proofs.Common.{◌≡◌, ◌≢◌, ℕ, ◌≤◌, true, false, ◌&&◌, List, [], Option, Some, Ok, Err, refl, sym, ap, ◌∙◌, subst, arith, nat_le, inl, inr}
use Rattle.std.proofs.lemmas.Bool.{and_parts, cases_eq, true≢false}
use Rattle.std.proofs.lemmas.Bool.Decides.{nat_tests}
use Rattle.mt_lists.specs.Records.{records_of}
use Rattle.mt_terms.specs.Market.{Registered}
use Rattle.mt_terms.specs.Registration.{market_of}
use Rattle.mt_terms.specs.Registration.Accepted.{IsRegistration}
use Rattle.mt_terms.specs.Registration.Faults.{Fault, record_fault_alone, fault_at}
use Rattle.mt_terms.specs.Registration.Ids.{Bytes}
use Rattle.mt_terms.specs.Text.{IsNamedRefusal, is_known_code}
use Rattle.mt_terms.specs.declared.refusal.Refusal.{Refusal}
use Rattle.mt_file_laws.proofs.FaultFacts.{fault_codes_lem, fault_ids_lem}
use Rattle.mt_file_laws.proofs.PassFacts.{accepted_is_registration_lem}
use Rattle.mt_input.specs.Files.{IsMarketOf, market_in}
use Rattle.mt_input.specs.Refusals.{IsRefusalIn, IsRefusalOf, NamesNone, fault_of}
use Rattle.mt_input.proofs.FileFacts.{fault_is, rows_in}

pub registration_of : (bytes : List ℕ) (r : Registered) → IsMarketOf bytes r → IsRegistration r
registration_of bytes r h = let rows = rows_in market_of bytes r h in accepted_is_registration_lem rows.0 r rows.2

-- the market in bytes is that of their records
pub market_of_rows : (bytes : List ℕ) (r : Registered) (rows : List (List Bytes)) → IsMarketOf bytes r → records_of bytes ≡ Some rows → market_of rows ≡ Ok r
market_of_rows bytes r rows h are =
    let found = rows_in market_of bytes r h in
    let same : found.0 ≡ rows = cc (found.1, are) in
    subst (λ (xs : List (List Bytes)). market_of xs ≡ Ok r) same found.2

-- The code of a market's fault is 22 at the most. So no failed read, no want of memory and no budget is one.
pub record IsMarketFault (f : Fault) : Type 0 where
  pub named : IsNamedRefusal f.code f.row f.id
  pub some : f.code ≢ 0
  pub low : f.code ≤ 22

fault_of_rows : (rows : List (List Bytes)) (f : Fault) → market_of rows ≡ Err f → IsMarketFault f
fault_of_rows rows f h =
    let codes = fault_codes_lem rows f h in
    let outer = and_parts (is_known_code f.code && nat_le 12 f.code) (nat_le f.code 22) codes in
    let inner = and_parts (is_known_code f.code) (nat_le 12 f.code) outer.0 in
    let high : nat_le f.code 22 ≡ true = outer.1 in
    record {
      named = record { known = inner.0; is_id = fault_ids_lem rows f h; alone = λ no. absurd (true≢false (sym codes ∙ no)) };
      some = λ none. true≢false (sym inner.0 ∙ ap is_known_code none);
      low = grind (arith, nat_tests);
    }

alone_is : (code : ℕ) → is_known_code code ≡ true → (code ≡ 0 → ⊥) → code ≤ 22 → IsMarketFault (fault_at 0 (record_fault_alone code))
alone_is code known some low = record { named = record { known = known; is_id = refl; alone = λ _. (refl, refl) }; some = some; low = low }

pub market_fault : (bytes : List ℕ) (f : Fault) → market_in bytes ≡ Err f → IsMarketFault f
market_fault bytes f h =
    fault_is market_of bytes IsMarketFault (alone_is 10 refl (λ e. omega arith) (omega arith)) (alone_is 11 refl (λ e. omega arith) (omega arith)) fault_of_rows f h

-- the first fault of records is a refusal
pub refusal_of_rows : (rows : List (List Bytes)) (e : Refusal) → market_of rows ≡ Err (fault_of e) → IsRefusalIn (market_of rows) e
refusal_of_rows rows e h =
    let low : e.code ≤ 22 = (fault_of_rows rows (fault_of e) h).low in
    record { reads_did = λ is. omega arith; memory = λ is. absurd (omega arith); fault = λ m. h }

-- a refusal of a market is a named one
alone_named : (code : ℕ) (e : Refusal) → is_known_code code ≡ true → NamesNone code e → e.code ≡ code → IsNamedRefusal e.code e.row e.id
alone_named code e known none is =
    let named : IsNamedRefusal code 0 [] = record { known = known; is_id = refl; alone = λ _. (refl, refl) } in
    let them = none is in
    rw (is, them.0, them.1) named

pub market_refusal_named : (left : Option (List ℕ)) (e : Refusal) → IsRefusalOf left market_in e → IsNamedRefusal e.code e.row e.id
market_refusal_named left e h = elim (cases_eq e.code 30) [
  | inl memory ↦ alone_named 30 e refl h.memory memory
  | inr m ↦ elim (cases_eq e.code 31) [
    | inl read ↦ alone_named 31 e refl h.read read
    | inr r ↦ let f = h.fault m r in (market_fault f.bytes (fault_of e) f.is_so).named
  ]
]
