-- What an answer says: the text has the numbers of the match, or the refusal is named.
use Rattle.std.proofs.Common.{◌≡◌, ◌≢◌, ℕ, ◌<◌, Bool, List, Option, Result, Ok, Err, refl, sym, ap, ◌∙◌, subst, arith}
use Rattle.std.specs.Prelude.{codes}
use Rattle.mt_terms.specs.Market.{Registered}
use Rattle.mt_terms.specs.Registration.Faults.{Fault}
use Rattle.mt_match_file.specs.Submitted.{Submitted}
use Rattle.mt_report.specs.Drains.{IsWritten}
use Rattle.mt_input.specs.Files.{market_in}
use Rattle.mt_files.specs.Files.{files_by, submitted_in, with_match}
use Rattle.mt_files.specs.Refusals.{AreFilesIn, IsInTurn, IsNamedRefusalOf, IsRefused, OfBoth}
use Rattle.mt_files.specs.declared.files.Files.{Files}
use Rattle.mt_files.specs.declared.refused_file.Refused.{Refused}
use Rattle.mt_files.specs.declared.source.Source.{Source}
use Rattle.mt_files.specs.declared.source.Source.TheVariants.{Market, Match}
use Rattle.mt_files.proofs.BothFacts.{of_both}
use Rattle.mt_files.proofs.NameFacts.{codes_large, market_named, match_named}
use Rattle.mt_statistics.proofs.SumFacts.{couples_add_up_lem, posts_add_up_lem, programs_add_up_lem, singles_add_up_lem}
use Rattle.mt_files.specs.Answer as answers
use Rattle.mt_reported.specs.Answer.{Answer, Answers, IsAnswer, fault_answer, report_answer}
use Rattle.mt_reported.specs.Headline.{IsRefusal, IsReported, text_in}
use Rattle.mt_reported.specs.Laws.{AnswersAreSo}
use Rattle.mt_reported.specs.Text.{refused_line}
use Rattle.mt_reported.specs.declared.form.Form.{Form}

-- the answer to a market and a match, or to the fault of a file
abbrev answer_of : Form → Result (Registered × Submitted) (Source × Fault) → Answer
answer_of form = answers.answer_of (codes "report") (report_answer form)

module _ (form : Form) (market_bytes match_bytes : List ℕ) (code : ℕ) (text : List ℕ) where
  IsSo : Type 0
  IsSo = (code ≡ 0 → IsReported form market_bytes match_bytes text) × (code ≢ 0 → IsRefusal code text)

  refused : (file : Source) (f : Fault) → IsNamedRefusalOf file f.code f.row f.id → fault_answer file f ≡ record { code = code; text = text } → IsSo
  unfolding IsSo
  refused file f named is =
      let same : f.code ≡ code = ap (λ (a : Answer). a.code) is in
      let large : 1 < f.code = codes_large file f.code named.known in (
        λ none. absurd (omega arith),
        λ _. record {
          file = file;
          row = f.row;
          id = f.id;
          named = subst (λ c. IsNamedRefusalOf file c f.row f.id) same named;
          line = sym (ap (λ (a : Answer). a.text) is) ∙ ap (λ c. refused_line file c f.row f.id) same;
        },
      )

  reported : (r : Registered) (submitted : Submitted) → market_in market_bytes ≡ Ok r → submitted_in r match_bytes ≡ Ok submitted
      → answer_of form (Ok (r, submitted)) ≡ record { code = code; text = text } → IsSo
  unfolding IsSo
  reported r submitted of_market of_match is =
      let same : 0 ≡ code = ap (λ (a : Answer). a.code) is in (
        λ _. record {
          registered = r;
          of_market = of_market;
          submitted = submitted;
          of_match = of_match;
          is_text = sym (ap (λ (a : Answer). a.text) is);
          singles = singles_add_up_lem r.market submitted.places;
          couples = couples_add_up_lem r.market submitted.places;
          programs = programs_add_up_lem r.market submitted.places;
          posts = posts_add_up_lem r.market submitted.places;
        },
        λ other. absurd (other (sym same)),
      )

  of_match : (r : Registered) → market_in market_bytes ≡ Ok r → (s : Result Submitted Fault) → submitted_in r match_bytes ≡ s
      → answer_of form (with_match r s) ≡ record { code = code; text = text } → IsSo
  of_match r of_market (Ok submitted) read is = reported r submitted of_market read is
  of_match r of_market (Err f) read is = refused Match f (match_named r match_bytes f read) is

  of_the_market : (market : Result Registered Fault) → market_in market_bytes ≡ market → answer_of form (files_by market match_bytes) ≡ record { code = code; text = text } → IsSo
  of_the_market (Ok r) of_market is = of_match r of_market (submitted_in r match_bytes) refl is
  of_the_market (Err f) of_market is = refused Market f (market_named market_bytes f of_market) is

pub answers_are_so_lem : AnswersAreSo
unfolding IsSo
answers_are_so_lem form market_bytes match_bytes code text h = of_the_market form market_bytes match_bytes code text (market_in market_bytes) refl h

-- so the answer to what two readers had left says what is so of that
pub reported_left : (form : Form) (market matched : Option (List ℕ)) (text : List ℕ) → OfBoth market matched (λ xs ys. IsAnswer form xs ys 0 text)
    → OfBoth market matched (λ xs ys. IsReported form xs ys text)
reported_left form market matched text h = of_both market matched (λ xs ys is. (answers_are_so_lem form xs ys 0 text is).0 refl) h

-- ---- what was read, and what was written of it

module _ (form : Form) (market matched : Option (List ℕ)) (reads : ℕ) (old new : Option (List ℕ)) (code written : ℕ) (whole : Bool) where
  -- the numbers of a match in two files that were read
  pub answers_reported : (files : Files) → AreFilesIn market matched files → code ≡ 0 → (text : List ℕ) → text ≡ text_in form files.roster files.submitted.places
      → IsWritten text old new written whole → Answers form market matched reads old new code written whole
  answers_reported files are none text is_text is_written =
      let answered : OfBoth market matched (λ xs ys. IsAnswer form xs ys 0 text) =
      of_both market matched (λ xs ys read. ap (answer_of form) read ∙ ap (λ (t : List ℕ). record { code = 0; text = t }) (sym is_text)) are in
      subst (λ (c : ℕ). Answers form market matched reads old new c written whole) (sym none) (record {
        text = text;
        is_written = is_written;
        says = record {
          reported = λ _. reported_left form market matched text answered;
          refusal = λ other. absurd (other refl);
          in_turn = λ other. absurd (other refl);
          answer = λ m r. answered;
        };
      })

  -- the line of a file that is refused
  pub answers_refused : (e : Refused) → IsRefused market matched e → IsInTurn market reads e.source → code ≡ e.refusal.code
      → IsWritten (refused_line e.source e.refusal.code e.refusal.row e.refusal.id) old new written whole → Answers form market matched reads old new code written whole
  answers_refused e refused turn is_code is_written =
      let large : 1 < e.refusal.code = codes_large e.source e.refusal.code refused.named.known in
      subst (λ (c : ℕ). Answers form market matched reads old new c written whole) (sym is_code) (record {
        text = refused_line e.source e.refusal.code e.refusal.row e.refusal.id;
        is_written = is_written;
        says = record {
          reported = λ none. absurd (omega arith);
          refusal = λ _. record { file = e.source; row = e.refusal.row; id = e.refusal.id; named = refused.named; line = refl };
          in_turn = λ _. turn;
          answer = λ m r. of_both market matched (λ xs ys is. ap (answer_of form) is) (refused.fault m r);
        };
      })
