-- The market of a file's records, by the passes over them.
use Rattle.std.proofs.Common.{◌≡◌, ℕ, ◌+◌, Bool, true, false, ◌&&◌, List, [], ◌∷◌, refl, sym, ap, ◌∙◌, arith, subst, Option, Some, None, Ok, Err, if◌then◌else◌}
use Rattle.std.specs.Prelude.{bytes_eq, codes, Result}
use Rattle.std.specs.Option.{option_map_or}
use Rattle.std.specs.Result.{result_ok}
use Rattle.mt_terms.specs.declared.codes.TheConstants.{NO_VERSION}
use Rattle.mt_terms.specs.Registration.{market_of, market_of_numbered, market_under}
use Rattle.mt_terms.specs.Registration.Faults.{fault_at, record_fault_alone}
use Rattle.mt_terms.specs.Registration.Ids.{Bytes}
use Rattle.mt_terms.specs.Registration.Records.{Rules, rules_of, version_1, version_2}
use Rattle.mt_terms.specs.Registration.Passes.{Numbered, numbered_from, contents}
use Rattle.mt_terms.specs.Market.{Registered}
use Rattle.mt_draft_laws.specs.Faultless.{faultless_market}
use Rattle.mt_file_laws.proofs.FaultlessFacts.{accepts, passes_agree}
use Rattle.mt_file_laws.proofs.PassFacts.{accepted_is_registration_lem}
use Rattle.mt_lists.specs.Rows.{rows_left}
use Rattle.mt_numbering.specs.Markets.{AcceptsRegistrations}
use Rattle.mt_records.specs.Bodies.{IsBody, body_in}
use Rattle.mt_records.specs.Limits.{AreBounded}
use Rattle.mt_records.specs.declared.body.Body.{Body}
use Rattle.mt_drafts.specs.Drafts.{with_fields}

-- the rows that have a field, without their numbers
pub contents-with_fields : (n : ℕ) (rows : List (List Bytes)) → contents (numbered_from n rows) ≡ with_fields rows
contents-with_fields n [] = refl
contents-with_fields n ([] ∷ rows) = contents-with_fields (n + 1) rows
contents-with_fields n ((word ∷ fields) ∷ rows) = ap (λ (rs : List (List Bytes)). (word ∷ fields) ∷ rs) (contents-with_fields (n + 1) rows)

-- by the rules of a version the market is that of rows without a fault, if they have none, and else there is a fault
module _ (rules : Rules) (n : ℕ) (rows : List (List Bytes)) where
  same_rows : faultless_market rules (contents (numbered_from n rows)) ≡ faultless_market rules (with_fields rows)
  same_rows = ap (faultless_market rules) (contents-with_fields n rows)

  pub accepted_is : result_ok (market_under rules (numbered_from n rows)) ≡ faultless_market rules (with_fields rows)
  accepted_is = passes_agree rules (numbered_from n rows) ∙ same_rows

  pub market_is : (m : Registered) → faultless_market rules (with_fields rows) ≡ Some m → market_under rules (numbered_from n rows) ≡ Ok m
  market_is m h = accepts rules (numbered_from n rows) m (same_rows ∙ h)

  pub no_market : faultless_market rules (with_fields rows) ≡ None → result_ok (market_under rules (numbered_from n rows)) ≡ None
  no_market h = accepted_is ∙ h

-- no version allows more than an input may have
pub bounded : (row : List Bytes) (rules : Rules) → rules_of row ≡ Some rules → AreBounded rules.limits
bounded [] rules h = cc
bounded (word ∷ []) rules h = cc
bounded (word ∷ number ∷ []) rules h = by (bytes_eq word (codes "match") && bytes_eq number (codes "1")) (bytes_eq word (codes "match") && bytes_eq number (codes "2")) h
  where
    by : (b c : Bool) → (if b then Some version_1 else (if c then Some version_2 else None)) ≡ Some rules → AreBounded rules.limits
    by true c k = let e : version_1 ≡ rules = cc in subst (λ (r : Rules). AreBounded r.limits) e (record { programs = omega arith; couples = omega arith; applicants = omega arith; entries = omega arith })
    by false true k = let e : version_2 ≡ rules = cc in subst (λ (r : Rules). AreBounded r.limits) e (record { programs = omega arith; couples = omega arith; applicants = omega arith; entries = omega arith })
    by false false k = cc
bounded (word ∷ number ∷ f ∷ fs) rules h = cc

-- what follows the record that names a version decides: its rules are bounded, and its rows have the market
module _ (rules : Rules) (rest : List (Numbered (List Bytes))) where
  of_version : (rows : List (Numbered (List Bytes))) (o : Option Rules) (n : ℕ)
      → option_map_or {U = Result (Rules × List (Numbered (List Bytes))) ℕ} (λ r. Ok (r, rows)) o (Err n) ≡ Ok (rules, rest)
      → (o ≡ Some rules) × (rows ≡ rest)
  of_version rows None n h = cc
  of_version rows (Some r) n h =
      let same : (rules, rest) ≡ (r, rows) = cc in (ap (λ (x : Rules × List (Numbered (List Bytes))). Some x.0) (sym same), ap (λ (x : Rules × List (Numbered (List Bytes))). x.1) (sym same))

  pub market_there : (records : List (Numbered (List Bytes))) → body_in records ≡ Ok (rules, rest) → market_of_numbered records ≡ market_under rules rest
  market_there [] h = cc
  market_there (row ∷ rows) h =
      let of = of_version rows (rules_of row.1) row.0 h in rw of.0 (ap (market_under rules) of.1)

  pub limits_there : (records : List (Numbered (List Bytes))) → body_in records ≡ Ok (rules, rest) → AreBounded rules.limits
  limits_there [] h = cc
  limits_there (row ∷ rows) h = bounded row.1 rules (of_version rows (rules_of row.1) row.0 h).0

-- if no record names a version there is no market
pub no_version : (records : List (Numbered (List Bytes))) (n : ℕ) → body_in records ≡ Err n
    → market_of_numbered records ≡ Err (fault_at n (record_fault_alone NO_VERSION))
no_version [] n h = ap (λ (k : ℕ). Err (fault_at k (record_fault_alone NO_VERSION))) cc
no_version (row ∷ rows) n h = by (rules_of row.1) h
  where
    by : (o : Option Rules) → option_map_or {U = Result (Rules × List (Numbered (List Bytes))) ℕ} (λ r. Ok (r, rows)) o (Err row.0) ≡ Err n
        → option_map_or (λ r. market_under r rows) o (Err (fault_at row.0 (record_fault_alone NO_VERSION))) ≡ Err (fault_at n (record_fault_alone NO_VERSION))
    by None k = let e : row.0 ≡ n = cc in ap (λ (i : ℕ). Err (fault_at i (record_fault_alone NO_VERSION))) e
    by (Some r) k = cc

-- the same of a file's records
module _ (rows : List (List Bytes)) (b : Body) (is : IsBody (numbered_from 1 rows) b) where
  pub market_by_body : market_of rows ≡ market_under b.rules (numbered_from b.first (rows_left b.rows))
  market_by_body = market_there b.rules (numbered_from b.first (rows_left b.rows)) (numbered_from 1 rows) is.body

  pub bounded_by_body : AreBounded b.rules.limits
  bounded_by_body = limits_there b.rules (numbered_from b.first (rows_left b.rows)) (numbered_from 1 rows) is.body

  pub accepted_by_body : AcceptsRegistrations b.rules (with_fields (rows_left b.rows))
  accepted_by_body m h = accepted_is_registration_lem rows m (market_by_body ∙ market_is b.rules b.first (rows_left b.rows) m h)
