-- What two readers had left: the market first, and then the match beside it.
use Rattle.std.proofs.Common.{◌≡◌, ℕ, List, [], Option, Result, Ok, Err, IfErr, IfOk, refl, sym, ap, ◌∙◌, subst}
use Rattle.mt_terms.specs.Market.{Registered}
use Rattle.mt_terms.specs.Registration.Faults.{Fault}
use Rattle.mt_terms.specs.declared.refusal.Refusal.{Refusal}
use Rattle.mt_match_file.specs.Submitted.{Submitted}
use Rattle.mt_input.specs.Files.{IsMarketOf, market_in}
use Rattle.mt_input.specs.Left.{OfLeft}
use Rattle.mt_input.specs.Refusals.{IsRefusalOf}
use Rattle.mt_input.proofs.LeftFacts.{of_left, some_left}
use Rattle.mt_files.specs.Files.{files_by, files_in, submitted_in, with_match}
use Rattle.mt_files.specs.Refusals.{AreFilesIn, IsInTurn, IsRefused}
use Rattle.mt_files.specs.declared.files.Files.{Files}
use Rattle.mt_files.specs.declared.refused_file.Refused.{Refused}
use Rattle.mt_files.specs.declared.source.Source.{Source}
use Rattle.mt_files.specs.declared.source.Source.TheVariants.{Market, Match}
use Rattle.mt_files.proofs.NameFacts.{alone_named, market_refusal_named, match_refusal_named}

-- the market of two files, or another one if a file is refused
abbrev registered_or : Registered → Result (Registered × Submitted) (Source × Fault) → Registered
registered_or q (Ok files) = files.0
registered_or q (Err fault) = q

same_market : (q r : Registered) (s : Submitted) (m : Result Submitted Fault) → with_match q m ≡ Ok (r, s) → q ≡ r
same_market q r s (Ok x) h = ap (registered_or q) h
same_market q r s (Err f) h = ap (registered_or q) h

market_by : (match_bytes : List ℕ) (r : Registered) (s : Submitted) (m : Result Registered Fault) → files_by m match_bytes ≡ Ok (r, s) → m ≡ Ok r
market_by match_bytes r s (Ok q) h = ap Ok (same_market q r s (submitted_in q match_bytes) h)
market_by match_bytes r s (Err f) h = cc

-- files that are read have a market
pub market_there : (market_bytes match_bytes : List ℕ) (r : Registered) (s : Submitted) → files_in market_bytes match_bytes ≡ Ok (r, s) → IsMarketOf market_bytes r
market_there market_bytes match_bytes r s h = market_by match_bytes r s (market_in market_bytes) h

module _ (market matched : Option (List ℕ)) where
  pub market_refused : (e : Refusal) → IsRefusalOf market market_in e → IsRefused market matched (record { source = Market; refusal = e })
  market_refused e h = record {
    named = market_refusal_named market e h;
    fault = λ m r.
        let some = some_left matched in
        of_left market (λ bytes is. record { bytes = some.0; are_left = some.1; is_so = ap (λ (x : Result Registered Fault). files_by x some.0) is }) (h.fault m r);
  }

  module _ (r : Registered) (of_market : OfLeft market (λ bytes. IsMarketOf bytes r)) where
    pub files_there : (files : Files) → files.roster ≡ r → OfLeft matched (λ bytes. submitted_in r bytes ≡ Ok files.submitted) → AreFilesIn market matched files
    files_there files same of_match =
        of_left market (λ bytes is. of_left matched (λ match_bytes read.
        ap (λ (x : Result Registered Fault). files_by x match_bytes) is ∙ ap (with_match r) read ∙ ap (λ (q : Registered). Ok (q, files.submitted)) (sym same)) of_match) of_market

    pub match_refused : (e : Refusal) → IsRefusalOf matched (submitted_in r) e → IsRefused market matched (record { source = Match; refusal = e })
    match_refused e h = record {
      named = match_refusal_named matched e r h;
      fault = λ m reads.
          let f = h.fault m reads in
          of_left market (λ bytes is. of_left matched (λ match_bytes fault.
          ap (λ (x : Result Registered Fault). files_by x match_bytes) is ∙ ap (with_match r) fault) f) of_market;
    }

    pub stands : OfLeft market (λ bytes. (q : Registered) × IsMarketOf bytes q)
    stands = of_left market (λ bytes is. (r, is)) of_market

    -- the same of the results of a call
    pub files_are : (result : Result Files Refused) → IfOk result (λ files. files.roster ≡ r)
        → IfOk result (λ files. OfLeft matched (λ bytes. submitted_in r bytes ≡ Ok files.submitted)) → IfOk result (AreFilesIn market matched)
    files_are (Ok files) same h = files_there files same h
    files_are (Err e) same h = tt

    pub refused_are : (result : Result Files Refused) → IfErr result (λ e. e.source ≡ Match) → IfErr result (λ e. IsRefusalOf matched (submitted_in r) e.refusal) → IfErr result (IsRefused market matched)
    refused_are (Ok files) file h = tt
    refused_are (Err e) file h = subst (λ (s : Source). IsRefused market matched (record { source = s; refusal = e.refusal })) (sym file) (match_refused e.refusal h)

    pub match_in_turn : (reads : ℕ) (result : Result Files Refused) → IfErr result (λ e. e.source ≡ Match) → IfErr result (λ e. IsInTurn market reads e.source)
    match_in_turn reads (Ok files) file = tt
    match_in_turn reads (Err e) file = subst (IsInTurn market reads) (sym file) stands

-- files that are read were read in turn
pub match_turn : (market matched : Option (List ℕ)) (files : Files) → AreFilesIn market matched files → (reads : ℕ) → IsInTurn market reads Match
match_turn market matched files are reads =
    of_left market (λ xs inner. (files.roster, market_there xs inner.bytes files.roster files.submitted inner.is_so)) are

-- want of memory refuses the match, whatever its bytes
pub memory_refused : (market matched : Option (List ℕ)) (e : Refusal) → e.code ≡ 30 → e.row ≡ 0 → e.id ≡ [] → IsRefused market matched (record { source = Match; refusal = e })
memory_refused market matched e code row id = record {
  named = rw (code, row, id) (alone_named Match 30 refl);
  fault = λ m. absurd (m code);
}
