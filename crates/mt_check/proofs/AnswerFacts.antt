-- What an answer says: the finding is so, or the refusal is named.
use Rattle.std.proofs.Common.{◌≡◌, ℕ, ◌<◌, ◌≤◌, Bool, List, [], length, Option, Result, Ok, Err, IfOk, refl, sym, ap, ◌∙◌, subst, arith}
use Rattle.std.specs.Prelude.{codes}
use Rattle.std.proofs.lemmas.Result.{IfOk-weaker}
use Rattle.mt_terms.specs.Market.{Market, Registered}
use Rattle.mt_terms.specs.WellFormed.{IsWellFormed}
use Rattle.mt_order_laws.specs.Reordered.{set_aside_registered}
use Rattle.mt_order_laws.proofs.FormedFacts.{none_aside_lem, well_formed_aside_lem}
use Rattle.mt_terms.specs.Registration.Faults.{Fault}
use Rattle.mt_match_file.specs.Submitted.{Submitted, submitted_by}
use Rattle.mt_match_file.proofs.PlaceFacts.{tells_places_lem}
use Rattle.mt_report.specs.Drains.{IsWritten}
use Rattle.mt_input.specs.Files.{market_in}
use Rattle.mt_input.proofs.FileFacts.{rows_in}
use Rattle.mt_input.proofs.MarketFacts.{registration_of}
use Rattle.mt_files.specs.Files.{files_by, submitted_in, with_match}
use Rattle.mt_files.specs.Refusals.{AreFilesIn, IsInTurn, IsNamedRefusalOf, IsRefused, OfBoth}
use Rattle.mt_files.specs.declared.files.Files.{Files}
use Rattle.mt_files.specs.declared.refused_file.Refused.{Refused}
use Rattle.mt_files.specs.declared.source.Source.{Source}
use Rattle.mt_files.specs.declared.source.Source.TheVariants as sources
use Rattle.mt_files.proofs.BothFacts.{of_both}
use Rattle.mt_files.proofs.NameFacts.{codes_large, market_named, match_named}
use Rattle.mt_check.specs.declared.found.Found.{Found}
use Rattle.mt_files.specs.Answer as answers
use Rattle.mt_judged.specs.Answer.{fault_answer, finding_answer, judged_answer}
use Rattle.mt_judged.specs.Refusals.{IsRefusal}
use Rattle.mt_judged.specs.Text.{refused_line}
use Rattle.mt_check.specs.Answer.{Answer, Answers, IsAnswer, answer_seen}
use Rattle.mt_first_finding.specs.Findings.{finding_code, finding_of, judged}
use Rattle.mt_check.specs.Headline.{IsJudged}
use Rattle.mt_check.specs.Laws.{AnswersAreSo, JudgedByAllLists}
use Rattle.mt_first_finding.specs.declared.finding.Finding.{Finding}
use Rattle.mt_first_finding.specs.Text.{finding_line}
use Rattle.mt_first_finding.proofs.FindingFacts.{code_small, finding_says, stable_ends, stable_line_is}

-- with no couple set aside, the market is as it was
pub none_aside_registered : (r : Registered) → set_aside_registered [] r ≡ r
none_aside_registered r = ap (λ (m : Market). record { market = m; names = r.names }) (none_aside_lem r.market)

pub by_all_lists : (r : Registered) (submitted : Submitted) → submitted.aside ≡ [] → judged r submitted ≡ r
by_all_lists r submitted none = ap (λ (aside : List ℕ). set_aside_registered aside r) none ∙ none_aside_registered r

pub judged_by_all_lists_lem : JudgedByAllLists
judged_by_all_lists_lem r submitted none =
    ap (λ (q : Registered). finding_answer q (length submitted.aside) (finding_of q.market submitted)) (by_all_lists r submitted none)
    ∙ ap (λ (aside : List ℕ). finding_answer r (length aside) (finding_of r.market submitted)) none

-- what is found by all lists is the answer if no couple is set aside, and else what is found without the others' wishes
module _ {E : Type 0} (r : Registered) (submitted : Submitted) (result : Result Found E) where
  pub answer_by_all_lists : submitted.aside ≡ [] → IfOk result (λ found. answer_seen found ≡ finding_answer r (length submitted.aside) (finding_of r.market submitted))
      → IfOk result (λ found. answer_seen found ≡ judged_answer r submitted)
  answer_by_all_lists none h =
      IfOk-weaker result _ _
      (λ found is. is ∙ sym (ap (λ (q : Registered). finding_answer q (length submitted.aside) (finding_of q.market submitted)) (by_all_lists r submitted none))) h

  pub answer_by_others : (q : Registered) → q ≡ judged r submitted
      → IfOk result (λ found. answer_seen found ≡ finding_answer q (length submitted.aside) (finding_of q.market submitted))
      → IfOk result (λ found. answer_seen found ≡ judged_answer r submitted)
  answer_by_others q same h =
      IfOk-weaker result _ _
      (λ found is. is ∙ ap (λ (x : Registered). finding_answer x (length submitted.aside) (finding_of x.market submitted)) same) h

pub judged_is : (r : Registered) (submitted : Submitted) (q : Registered) (aside : List ℕ) → aside ≡ submitted.aside → q ≡ set_aside_registered aside r → q ≡ judged r submitted
judged_is r submitted q aside same is = is ∙ ap (λ (xs : List ℕ). set_aside_registered xs r) same

module _ (market_bytes match_bytes : List ℕ) (code : ℕ) (text : List ℕ) where
  IsSo : Type 0
  IsSo = (code ≤ 1 → IsJudged market_bytes match_bytes code text) × (1 < code → IsRefusal code text)

  refused : (file : Source) (f : Fault) → IsNamedRefusalOf file f.code f.row f.id → fault_answer file f ≡ record { code = code; text = text } → IsSo
  unfolding IsSo
  refused file f named is =
      let same : f.code ≡ code = ap (λ (a : Answer). a.code) is in
      let large : 1 < f.code = codes_large file f.code named.known in (
        λ small. absurd (omega arith),
        λ _. record {
          file = file;
          row = f.row;
          id = f.id;
          named = subst (λ c. IsNamedRefusalOf file c f.row f.id) same named;
          line = sym (ap (λ (a : Answer). a.text) is) ∙ ap (λ c. refused_line file c f.row f.id) same;
        },
      )

  judged_so : (r : Registered) (submitted : Submitted) → market_in market_bytes ≡ Ok r → submitted_in r match_bytes ≡ Ok submitted
      → judged_answer r submitted ≡ record { code = code; text = text } → IsSo
  unfolding IsSo
  judged_so r submitted of_market of_match is =
      let match_rows = rows_in (submitted_by r) match_bytes submitted of_match in
      let registration = registration_of market_bytes r of_market in
      let places = tells_places_lem r registration match_rows.0 submitted match_rows.2 in
      let others : Registered = judged r submitted in
      let formed : IsWellFormed others.market = well_formed_aside_lem r.market submitted.aside registration.well_formed in
      let n : ℕ = length submitted.aside in
      let found : Finding = finding_of others.market submitted in
      let same : finding_code found ≡ code = ap (λ (a : Answer). a.code) is in
      let is_line : text ≡ finding_line others n found = sym (ap (λ (a : Answer). a.text) is) in
      let line = stable_line_is others n formed submitted places.one_each in
      let ends = stable_ends others n found in
      let small = code_small found in (
        λ _. record {
          registered = r;
          of_market = of_market;
          submitted = submitted;
          of_match = of_match;
          finding = found;
          is_text = is_line;
          is_so = finding_says others.market formed submitted places.one_each;
          stable = (λ stable. line.0 (sym is_line ∙ stable), λ both. is_line ∙ line.1 both);
          ends = (λ none. is_line ∙ ends.0 (same ∙ none), λ stable. sym same ∙ ends.1 (sym is_line ∙ stable));
        },
        λ large. absurd (omega arith),
      )

  of_match : (r : Registered) → market_in market_bytes ≡ Ok r → (s : Result Submitted Fault) → submitted_in r match_bytes ≡ s
      → answers.answer_of (codes "check") judged_answer (with_match r s) ≡ record { code = code; text = text } → IsSo
  of_match r of_market (Ok submitted) read is = judged_so r submitted of_market read is
  of_match r of_market (Err f) read is = refused sources.Match f (match_named r match_bytes f read) is

  of_the_market : (market : Result Registered Fault) → market_in market_bytes ≡ market → answers.answer_of (codes "check") judged_answer (files_by market match_bytes) ≡ record { code = code; text = text } → IsSo
  of_the_market (Ok r) of_market is = of_match r of_market (submitted_in r match_bytes) refl is
  of_the_market (Err f) of_market is = refused sources.Market f (market_named market_bytes f of_market) is

pub answers_are_so_lem : AnswersAreSo
unfolding IsSo
answers_are_so_lem market_bytes match_bytes code text h = of_the_market market_bytes match_bytes code text (market_in market_bytes) refl h

-- so the answer to what two readers had left says what is so of that
pub judged_left : (market matched : Option (List ℕ)) (code : ℕ) (text : List ℕ) → code ≤ 1 → OfBoth market matched (λ xs ys. IsAnswer xs ys code text)
    → OfBoth market matched (λ xs ys. IsJudged xs ys code text)
judged_left market matched code text small h = of_both market matched (λ xs ys is. (answers_are_so_lem xs ys code text is).0 small) h

-- ---- what was read, and what was written of it

-- the code of a finding is 0 or 1
pub found_code : (r : Registered) (submitted : Submitted) (found : Found) → answer_seen found ≡ judged_answer r submitted → found.code ≤ 1
found_code r submitted found is =
    let small = code_small (finding_of (judged r submitted).market submitted) in
    let same : found.code ≡ finding_code (finding_of (judged r submitted).market submitted) = ap (λ (a : Answer). a.code) is in
    omega arith

module _ (market matched : Option (List ℕ)) (reads : ℕ) (old new : Option (List ℕ)) (code written : ℕ) (whole : Bool) where
  -- the finding on two files that were read
  pub answers_found : (files : Files) → AreFilesIn market matched files → (found : Found) → answer_seen found ≡ judged_answer files.roster files.submitted
      → code ≡ found.code → (text : List ℕ) → text ≡ found.text.items → IsWritten text old new written whole → Answers market matched reads old new code written whole
  answers_found files are found is is_code text is_text is_written =
      let small : found.code ≤ 1 = found_code files.roster files.submitted found is in
      let answered : OfBoth market matched (λ xs ys. IsAnswer xs ys found.code found.text.items) =
      of_both market matched (λ xs ys read. ap (answers.answer_of (codes "check") judged_answer) read ∙ sym is) are in
      subst (λ (c : ℕ). Answers market matched reads old new c written whole) (sym is_code) (record {
        text = found.text.items;
        is_written = subst (λ (t : List ℕ). IsWritten t old new written whole) is_text is_written;
        says = record {
          judged = λ few. judged_left market matched found.code found.text.items few answered;
          refusal = λ large. absurd (omega arith);
          in_turn = λ large. absurd (omega arith);
          answer = λ m r. answered;
        };
      })

  -- the line of a file that is refused
  pub answers_refused : (e : Refused) → IsRefused market matched e → IsInTurn market reads e.source → code ≡ e.refusal.code
      → IsWritten (refused_line e.source e.refusal.code e.refusal.row e.refusal.id) old new written whole → Answers market matched reads old new code written whole
  answers_refused e refused turn is_code is_written =
      let large : 1 < e.refusal.code = codes_large e.source e.refusal.code refused.named.known in
      subst (λ (c : ℕ). Answers market matched reads old new c written whole) (sym is_code) (record {
        text = refused_line e.source e.refusal.code e.refusal.row e.refusal.id;
        is_written = is_written;
        says = record {
          judged = λ small. absurd (omega arith);
          refusal = λ _. record { file = e.source; row = e.refusal.row; id = e.refusal.id; named = refused.named; line = refl };
          in_turn = λ _. turn;
          answer = λ m r. of_both market matched (λ xs ys is. ap (answers.answer_of (codes "check") judged_answer) is) (refused.fault m r);
        };
      })
