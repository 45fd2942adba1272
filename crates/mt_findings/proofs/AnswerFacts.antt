-- What an answer with all findings says: the findings are so, or the refusal is named. It begins as the plain answer.
use Rattle.std.proofs.Common.{◌≡◌, ℕ, zero, suc, ◌<◌, ◌≤◌, Bool, List, [], ◌∷◌, ◌++◌, length, Option, Result, Ok, Err, refl, sym, ap, ◌∙◌, subst, append_assoc, inl, inr, arith}
use Rattle.std.specs.Prelude.{codes}
use Rattle.std.specs.List.{All}
use Rattle.std.proofs.lemmas.List.{append-nil}
use Rattle.mt_terms.specs.Market.{Registered}
use Rattle.mt_terms.specs.Registration.Faults.{Fault}
use Rattle.mt_terms.specs.WellFormed.{IsWellFormed}
use Rattle.mt_terms.specs.declared.verdict.Verdict.TheVariants.{Stable, Unlisted, Over, Blocks}
use Rattle.mt_order_laws.proofs.FormedFacts.{well_formed_aside_lem}
use Rattle.mt_match_file.specs.Submitted.{Submitted, submitted_by}
use Rattle.mt_match_file.proofs.PlaceFacts.{tells_places_lem}
use Rattle.mt_input.specs.Files.{market_in}
use Rattle.mt_input.proofs.FileFacts.{rows_in}
use Rattle.mt_input.proofs.LeftFacts.{of_left}
use Rattle.mt_input.proofs.MarketFacts.{registration_of}
use Rattle.mt_input.specs.Refusals.{fault_of}
use Rattle.mt_files.specs.Answer as answers
use Rattle.mt_files.specs.Answer.{Answer, IsGiven}
use Rattle.mt_files.specs.Files.{files_by, files_in, submitted_in, with_match}
use Rattle.mt_files.specs.Refusals.{AreFilesIn, IsInTurn, IsNamedRefusalOf, IsRefused, OfBoth}
use Rattle.mt_files.specs.declared.files.Files.{Files}
use Rattle.mt_files.specs.declared.refused_file.Refused.{Refused}
use Rattle.mt_files.specs.declared.source.Source.{Source}
use Rattle.mt_files.specs.declared.source.Source.TheVariants.{Market as MarketFile, Match}
use Rattle.mt_files.proofs.BothFacts.{of_both}
use Rattle.mt_files.proofs.FileFacts.{market_there}
use Rattle.mt_files.proofs.NameFacts.{alone_named, codes_large, market_named, match_named}
use Rattle.mt_judged.specs.Answer.{IsGivenOrMemory, fault_answer, finding_answer, judged_answer, memory_answer}
use Rattle.mt_judged.specs.Text.{refused_line}
use Rattle.mt_first_finding.specs.Findings.{finding_code, judged}
use Rattle.mt_first_finding.specs.Text.{finding_line, stable_line_with}
use Rattle.mt_first_finding.specs.declared.finding.Finding.{Finding}
use Rattle.mt_first_finding.specs.declared.finding.Finding.TheVariants.{Of, Differs}
use Rattle.mt_findings.specs.Answer.{Answers, IsAnswer, findings_answer, found_answer, number_code}
use Rattle.mt_findings.specs.Findings.{findings, first_of}
use Rattle.mt_findings.specs.Headline.{AreFound}
use Rattle.mt_findings.specs.Laws.{BeginsAsPlain, GoesOn}
use Rattle.mt_findings.specs.Text.{finding_lines, last_line}
use Rattle.mt_findings.proofs.FindingFacts.{all_against, findings_are_so, first_is_named_lem}

-- the code is 0 for no finding alone
number_none : (fs : List Finding) → number_code (length fs) ≡ 0 → fs ≡ []
number_none [] none = refl
number_none (f ∷ fs) none = absurd (omega arith)

number_small : (n : ℕ) → number_code n ≤ 1
number_small zero = omega arith
number_small (suc n) = omega arith

module _ (market_bytes match_bytes : List ℕ) (code : ℕ) (text : List ℕ) (small : code ≤ 1) where
  no_fault : (file : Source) (f : Fault) → IsNamedRefusalOf file f.code f.row f.id → fault_answer file f ≡ record { code = code; text = text }
      → AreFound market_bytes match_bytes code text
  no_fault file f named is =
      let same : f.code ≡ code = ap (λ (a : Answer). a.code) is in
      let large : 1 < f.code = codes_large file f.code named.known in
      absurd (omega arith)

  found_so : (r : Registered) (submitted : Submitted) → market_in market_bytes ≡ Ok r → submitted_in r match_bytes ≡ Ok submitted
      → findings_answer r submitted ≡ record { code = code; text = text } → AreFound market_bytes match_bytes code text
  found_so r submitted of_market of_match is =
      let match_rows = rows_in (submitted_by r) match_bytes submitted of_match in
      let registration = registration_of market_bytes r of_market in
      let places = tells_places_lem r registration match_rows.0 submitted match_rows.2 in
      let others : Registered = judged r submitted in
      let formed : IsWellFormed others.market = well_formed_aside_lem r.market submitted.aside registration.well_formed in
      let found : List Finding = findings others.market submitted in
      let same : number_code (length found) ≡ code = ap (λ (a : Answer). a.code) is in
      record {
        registered = r;
        of_market = of_market;
        submitted = submitted;
        of_match = of_match;
        is_text = sym (ap (λ (a : Answer). a.text) is);
        are_so = findings_are_so others.market formed submitted places.one_each;
        ends = (λ none. number_none found (same ∙ none), λ empty. sym same ∙ ap (λ (fs : List Finding). number_code (length fs)) empty);
      }

  of_match : (r : Registered) → market_in market_bytes ≡ Ok r → (s : Result Submitted Fault) → submitted_in r match_bytes ≡ s
      → answers.answer_of (codes "check") findings_answer (with_match r s) ≡ record { code = code; text = text } → AreFound market_bytes match_bytes code text
  of_match r of_market (Ok submitted) read is = found_so r submitted of_market read is
  of_match r of_market (Err f) read is = no_fault Match f (match_named r match_bytes f read) is

  of_the_market : (market : Result Registered Fault) → market_in market_bytes ≡ market → answers.answer_of (codes "check") findings_answer (files_by market match_bytes) ≡ record { code = code; text = text }
      → AreFound market_bytes match_bytes code text
  of_the_market (Ok r) of_market is = of_match r of_market (submitted_in r match_bytes) refl is
  of_the_market (Err f) of_market is = no_fault MarketFile f (market_named market_bytes f of_market) is

-- the number of couples that are set aside is in the line of a stable match alone
aside_alone : (r : Registered) (n : ℕ) (f : Finding) → finding_code f ≡ 1 → finding_line r 0 f ≡ finding_line r n f
aside_alone r n (Of Stable) against = absurd (omega arith)
aside_alone r n (Of (Unlisted a)) against = refl
aside_alone r n (Of (Over p)) against = refl
aside_alone r n (Of (Blocks b)) against = refl
aside_alone r n (Differs row) against = refl

-- an answer with code 0 or 1 has all findings
are_found : (market_bytes match_bytes : List ℕ) (code : ℕ) (text : List ℕ) → code ≤ 1 → IsAnswer market_bytes match_bytes code text
    → AreFound market_bytes match_bytes code text
are_found market_bytes match_bytes code text small h = of_the_market market_bytes match_bytes code text small (market_in market_bytes) refl h

-- no such answer has the code of a failed read
pub no_read_code : (r : Registered) (submitted : Submitted) (old new : Option (List ℕ)) (code : ℕ) (whole : Bool)
    → IsGivenOrMemory (findings_answer r submitted) old new code whole → code ≡ 31 → ⊥
no_read_code r submitted old new code whole (inl given) e =
    let small = number_small (length (findings (judged r submitted).market submitted)) in
    let is : code ≡ number_code (length (findings (judged r submitted).market submitted)) = given.is_code in
    omega arith
no_read_code r submitted old new code whole (inr given) e = let is : code ≡ 30 = given.is_code in omega arith

module _ (market matched : Option (List ℕ)) (reads : ℕ) (old new : Option (List ℕ)) (code : ℕ) (whole : Bool) where
  -- what was written of two files that were read
  pub answers_files : (files : Files) → AreFilesIn market matched files → IsGivenOrMemory (findings_answer files.roster files.submitted) old new code whole
      → Answers market matched reads old new code whole
  answers_files files are (inl given) =
      let a : Answer = findings_answer files.roster files.submitted in
      let found : List Finding = findings (judged files.roster files.submitted).market files.submitted in
      let small : number_code (length found) ≤ 1 = number_small (length found) in
      let is_code : code ≡ number_code (length found) = given.is_code in
      let is : a ≡ record { code = code; text = a.text } = ap (λ (c : ℕ). record { code = c; text = a.text }) (sym given.is_code) in
      let answered : OfBoth market matched (λ xs ys. IsAnswer xs ys code a.text) = of_both market matched (λ xs ys read. ap (answers.answer_of (codes "check") findings_answer) read ∙ is) are in
      record {
        text = a.text;
        written = given.written;
        is_written = given.is_written;
        says = record {
          found = λ low. of_both market matched (λ xs ys h. are_found xs ys code a.text low h) answered;
          refusal = λ large. absurd (omega arith);
          in_turn = λ large. absurd (omega arith);
          answer = λ m reads. answered;
        };
      }
  answers_files files are (inr given) =
      let is : code ≡ 30 = given.is_code in
      record {
        text = memory_answer.text;
        written = given.written;
        is_written = given.is_written;
        says = record {
          found = λ low. absurd (omega arith);
          refusal = λ large. record {
            file = Match;
            row = 0;
            id = [];
            named = subst (λ (c : ℕ). IsNamedRefusalOf Match c 0 []) (sym is) (alone_named Match 30 refl);
            line = ap (λ (c : ℕ). refused_line Match c 0 []) (sym is);
          };
          in_turn = λ large. of_left market (λ xs inner. (files.roster, market_there xs inner.bytes files.roster files.submitted inner.is_so)) are;
          answer = λ m reads. absurd (m is);
        };
      }

  -- what was written of a file that is refused
  pub answers_fault : (e : Refused) → IsRefused market matched e → IsInTurn market reads e.source
      → IsGiven (fault_answer e.source (fault_of e.refusal)) old new code whole → Answers market matched reads old new code whole
  answers_fault e refused turn given =
      let is : code ≡ e.refusal.code = given.is_code in
      let large : 1 < e.refusal.code = codes_large e.source e.refusal.code refused.named.known in
      record {
        text = refused_line e.source e.refusal.code e.refusal.row e.refusal.id;
        written = given.written;
        is_written = given.is_written;
        says = record {
          found = λ low. absurd (omega arith);
          refusal = λ _. record {
            file = e.source;
            row = e.refusal.row;
            id = e.refusal.id;
            named = subst (λ (c : ℕ). IsNamedRefusalOf e.source c e.refusal.row e.refusal.id) (sym is) refused.named;
            line = ap (λ (c : ℕ). refused_line e.source c e.refusal.row e.refusal.id) (sym is);
          };
          in_turn = λ _. turn;
          answer = λ m r. of_both market matched (λ xs ys read. ap (answers.answer_of (codes "check") findings_answer) read ∙ ap (λ (c : ℕ). record { code = c; text = refused_line e.source e.refusal.code e.refusal.row e.refusal.id }) (sym is))
              (refused.fault (λ c. m (is ∙ c)) (λ c. r (is ∙ c)));
        };
      }

-- the answer with some findings goes on after that with the first of them
goes_on_found : (r : Registered) (n : ℕ) (fs : List Finding) → All (λ f. finding_code f ≡ 1) fs
    → GoesOn ((finding_answer r n (first_of fs)).code, (finding_answer r n (first_of fs)).text) ((found_answer r n fs).code, (found_answer r n fs).text)
goes_on_found r n [] against = record { rest = []; same_code = refl; begins = sym (append-nil (stable_line_with n)) }
goes_on_found r n (f ∷ fs) against =
    let one : finding_code f ≡ 1 = against 0 f (omega arith) in
    record {
      rest = finding_lines r fs ++ last_line n (length (f ∷ fs));
      same_code = sym one;
      begins = append_assoc (finding_line r 0 f) (finding_lines r fs) (last_line n (length (f ∷ fs)))
          ∙ ap (λ (text : List ℕ). text ++ (finding_lines r fs ++ last_line n (length (f ∷ fs)))) (aside_alone r n f one);
    }

goes_on : (files : Result (Registered × Submitted) (Source × Fault))
    → GoesOn ((answers.answer_of (codes "check") judged_answer files).code, (answers.answer_of (codes "check") judged_answer files).text) ((answers.answer_of (codes "check") findings_answer files).code, (answers.answer_of (codes "check") findings_answer files).text)
goes_on (Ok files) =
    let others : Registered = judged files.0 files.1 in
    let n : ℕ = length files.1.aside in
    let fs : List Finding = findings others.market files.1 in
    subst (λ (f : Finding). GoesOn ((finding_answer others n f).code, (finding_answer others n f).text) ((found_answer others n fs).code, (found_answer others n fs).text))
    (first_is_named_lem others.market files.1) (goes_on_found others n fs (all_against others.market files.1))
goes_on (Err fault) = record { rest = []; same_code = refl; begins = sym (append-nil (fault_answer fault.0 fault.1).text) }

pub begins_as_plain_lem : BeginsAsPlain
begins_as_plain_lem market_bytes match_bytes = goes_on (files_in market_bytes match_bytes)
