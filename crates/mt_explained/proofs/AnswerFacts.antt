-- What an answer says: the lines are so, or the refusal is named.
use Rattle.std.proofs.Common.{◌≡◌, ◌≢◌, ℕ, ◌<◌, Bool, List, [], Option, Some, None, Result, Ok, Err, refl, sym, ap, ◌∙◌, subst, inl, inr, arith}
use Rattle.std.specs.Prelude.{codes}
use Rattle.mt_terms.specs.Market.{Registered}
use Rattle.mt_terms.specs.Matching.{Places}
use Rattle.mt_terms.specs.Places.{ArePlaces}
use Rattle.mt_terms.specs.Registration.Accepted.{IsRegistration}
use Rattle.mt_terms.specs.Registration.Faults.{Fault}
use Rattle.mt_terms.specs.Registration.Ids.{Bytes}
use Rattle.mt_order_laws.specs.Reordered.{set_aside_registered}
use Rattle.mt_order_laws.proofs.FormedFacts.{places_aside}
use Rattle.mt_order_laws.proofs.RegistrationFacts.{registration_aside_lem}
use Rattle.mt_match_file.specs.Submitted.{Submitted, submitted_by}
use Rattle.mt_match_file.proofs.PlaceFacts.{tells_places_lem}
use Rattle.mt_input.specs.Files.{market_in}
use Rattle.mt_input.proofs.FileFacts.{rows_in}
use Rattle.mt_input.proofs.LeftFacts.{of_left}
use Rattle.mt_input.proofs.MarketFacts.{registration_of}
use Rattle.mt_input.specs.Refusals.{fault_of}
use Rattle.mt_files.specs.Files.{files_by, submitted_in, with_match}
use Rattle.mt_files.specs.Refusals.{AreFilesIn, IsInTurn, IsNamedRefusalOf, IsRefused, OfBoth}
use Rattle.mt_files.specs.declared.files.Files.{Files}
use Rattle.mt_files.specs.declared.refused_file.Refused.{Refused}
use Rattle.mt_files.specs.declared.source.Source.{Source}
use Rattle.mt_files.specs.declared.source.Source.TheVariants.{Market as MarketFile, Match}
use Rattle.mt_files.proofs.BothFacts.{of_both}
use Rattle.mt_files.proofs.FileFacts.{market_there}
use Rattle.mt_files.proofs.NameFacts.{alone_named, codes_large, market_named, match_named}
use Rattle.mt_explain.proofs.LawFacts.{each_better_option_once_lem, open_if_blocks_lem, open_if_taken_lem, stable_if_none_open_lem}
use Rattle.mt_explain_text.specs.Text.{agents_text}
use Rattle.mt_match_file.specs.Agents.{first_unknown}
use Rattle.mt_explained.specs.Asked.{agents_asked}
use Rattle.mt_files.specs.Answer as answers
use Rattle.mt_files.specs.Answer.{IsGiven}
use Rattle.mt_judged.specs.Answer.{IsGivenOrMemory, fault_answer, memory_answer}
use Rattle.mt_judged.specs.Text.{refused_line}
use Rattle.mt_judged.proofs.AsideFacts.{none_aside_registered}
use Rattle.mt_explained.specs.Answer.{Answer, Answers, IsAnswer, answer_by, match_answer, submitted_answer}
use Rattle.mt_explained.specs.Headline.{IsExplained, IsUnknown, LinesAreSo}
use Rattle.mt_explained.specs.Laws.{ExplainedByAllLists}

-- the answer to a market and a match, or to the fault of a file
abbrev answer_of : List Bytes → Bool → Result (Registered × Submitted) (Source × Fault) → Answer
answer_of ids is_public = answers.answer_of (codes "check") (submitted_answer ids is_public)

pub explained_by_all_lists_lem : ExplainedByAllLists
explained_by_all_lists_lem r submitted ids is_public none =
    ap (λ (q : Registered). match_answer q submitted.places ids is_public) (none_aside_registered r submitted.aside none)

-- the lines of a match say what is so of it
pub lines_are_so : (r : Registered) → IsRegistration r → (places : Places) → ArePlaces r.market places → LinesAreSo r.market places
lines_are_so r registration places are = record {
  once = each_better_option_once_lem r.market places;
  taken = open_if_taken_lem r.market registration.well_formed places are;
  blocking = open_if_blocks_lem r registration places are;
  stability = stable_if_none_open_lem r registration places are;
}

module _ (ids : List Bytes) (is_public : Bool) where
  module _ (market_bytes match_bytes : List ℕ) (code : ℕ) (text : List ℕ) (none : code ≡ 0) where
    no_fault : (file : Source) (f : Fault) → IsNamedRefusalOf file f.code f.row f.id → fault_answer file f ≡ record { code = code; text = text }
        → IsExplained ids is_public market_bytes match_bytes text
    no_fault file f named is =
        let same : f.code ≡ code = ap (λ (a : Answer). a.code) is in
        let large : 1 < f.code = codes_large file f.code named.known in
        absurd (omega arith)

    answered : (r : Registered) (submitted : Submitted) → market_in market_bytes ≡ Ok r → submitted_in r match_bytes ≡ Ok submitted
        → (judged : Registered) → judged ≡ set_aside_registered submitted.aside r → (unknown : Option Bytes) → first_unknown judged ids ≡ unknown
        → answer_by unknown (agents_text judged submitted.places is_public (agents_asked judged ids)) ≡ record { code = code; text = text }
        → IsExplained ids is_public market_bytes match_bytes text
    answered r submitted of_market of_match judged is_judged None known is =
        let match_rows = rows_in (submitted_by r) match_bytes submitted of_match in
        let registration = registration_of market_bytes r of_market in
        let places = tells_places_lem r registration match_rows.0 submitted match_rows.2 in
        let others : Registered = set_aside_registered submitted.aside r in
        let are_so : LinesAreSo others.market submitted.places =
        lines_are_so others (registration_aside_lem r submitted.aside registration) submitted.places (places_aside r.market submitted.aside submitted.places places) in
        record {
          registered = r;
          of_market = of_market;
          submitted = submitted;
          of_match = of_match;
          judged = judged;
          is_judged = is_judged;
          all_known = known;
          is_text = sym (ap (λ (a : Answer). a.text) is);
          are_so = subst (λ (q : Registered). LinesAreSo q.market submitted.places) (sym is_judged) are_so;
        }
    answered r submitted of_market of_match judged is_judged (Some word) unknown is =
        let same : 56 ≡ code = ap (λ (a : Answer). a.code) is in
        absurd (omega arith)

    of_match : (r : Registered) → market_in market_bytes ≡ Ok r → (s : Result Submitted Fault) → submitted_in r match_bytes ≡ s
        → answer_of ids is_public (with_match r s) ≡ record { code = code; text = text } → IsExplained ids is_public market_bytes match_bytes text
    of_match r of_market (Ok submitted) read is =
        let judged : Registered = set_aside_registered submitted.aside r in
        answered r submitted of_market read judged refl (first_unknown judged ids) refl is
    of_match r of_market (Err f) read is = no_fault Match f (match_named r match_bytes f read) is

    of_the_market : (market : Result Registered Fault) → market_in market_bytes ≡ market → answer_of ids is_public (files_by market match_bytes) ≡ record { code = code; text = text }
        → IsExplained ids is_public market_bytes match_bytes text
    of_the_market (Ok r) of_market is = of_match r of_market (submitted_in r match_bytes) refl is
    of_the_market (Err f) of_market is = no_fault MarketFile f (market_named market_bytes f of_market) is

  -- an answer without a code explains the match
  explains : (market_bytes match_bytes : List ℕ) (code : ℕ) (text : List ℕ) → code ≡ 0 → IsAnswer ids is_public market_bytes match_bytes code text
      → IsExplained ids is_public market_bytes match_bytes text
  explains market_bytes match_bytes code text none h = of_the_market market_bytes match_bytes code text none (market_in market_bytes) refl h

-- an answer to a market and a match that has a code is the line of a word
by_unknown : (r : Registered) (ids : List Bytes) (lines : List ℕ) (code : ℕ) (text : List ℕ) (unknown : Option Bytes) → first_unknown r ids ≡ unknown
    → answer_by unknown lines ≡ record { code = code; text = text } → code ≢ 0 → IsUnknown ids code text
by_unknown r ids lines code text None known is some = absurd (some (sym (ap (λ (a : Answer). a.code) is)))
by_unknown r ids lines code text (Some word) unknown is some = record {
  is_code = sym (ap (λ (a : Answer). a.code) is);
  registered = r;
  word = word;
  first = unknown;
  line = sym (ap (λ (a : Answer). a.text) is);
}

-- the codes of answers to a market and a match are no code of a failed read
small_code : (lines : List ℕ) (unknown : Option Bytes) → (answer_by unknown lines).code ≡ 31 → ⊥
small_code lines None e = omega arith
small_code lines (Some word) e = omega arith

pub no_read_code : (r : Registered) (submitted : Submitted) (ids : List Bytes) (is_public : Bool) (old new : Option (List ℕ)) (code : ℕ) (whole : Bool)
    → IsGivenOrMemory (submitted_answer ids is_public r submitted) old new code whole → code ≡ 31 → ⊥
no_read_code r submitted ids is_public old new code whole (inl given) e =
    let judged : Registered = set_aside_registered submitted.aside r in
    small_code (agents_text judged submitted.places is_public (agents_asked judged ids)) (first_unknown judged ids) (sym given.is_code ∙ e)
no_read_code r submitted ids is_public old new code whole (inr given) e = let is : code ≡ 30 = given.is_code in omega arith

module _ (ids : List Bytes) (is_public : Bool) (market matched : Option (List ℕ)) (reads : ℕ) (old new : Option (List ℕ)) (code : ℕ) (whole : Bool) where
  -- what was written of two files that were read
  pub answers_files : (files : Files) → AreFilesIn market matched files
      → IsGivenOrMemory (submitted_answer ids is_public files.roster files.submitted) old new code whole → Answers ids is_public market matched reads old new code whole
  answers_files files are (inl given) =
      let r = files.roster in
      let judged : Registered = set_aside_registered files.submitted.aside r in
      let a : Answer = match_answer judged files.submitted.places ids is_public in
      let is : a ≡ record { code = code; text = a.text } = ap (λ (c : ℕ). record { code = c; text = a.text }) (sym given.is_code) in
      let answered : OfBoth market matched (λ xs ys. IsAnswer ids is_public xs ys code a.text) =
      of_both market matched (λ xs ys read. ap (answer_of ids is_public) read ∙ is) are in
      record {
        text = a.text;
        written = given.written;
        is_written = given.is_written;
        says = record {
          explained = λ none. of_both market matched (λ xs ys h. explains ids is_public xs ys code a.text none h) answered;
          refusal = λ some. record {
            file = Match;
            says = inr (refl, by_unknown judged ids (agents_text judged files.submitted.places is_public (agents_asked judged ids)) code a.text (first_unknown judged ids) refl is some);
          };
          in_turn = λ some. of_left market (λ xs inner. (r, market_there xs inner.bytes r files.submitted inner.is_so)) are;
          answer = λ m reads. answered;
        };
      }
  answers_files files are (inr given) =
      let is : code ≡ 30 = given.is_code in
      record {
        text = memory_answer.text;
        written = given.written;
        is_written = given.is_written;
        says = record {
          explained = λ none. absurd (omega arith);
          refusal = λ some. record {
            file = Match;
            says = inl (record {
              row = 0;
              id = [];
              named = subst (λ (c : ℕ). IsNamedRefusalOf Match c 0 []) (sym is) (alone_named Match 30 refl);
              line = ap (λ (c : ℕ). refused_line Match c 0 []) (sym is);
            });
          };
          in_turn = λ some. of_left market (λ xs inner. (files.roster, market_there xs inner.bytes files.roster files.submitted inner.is_so)) are;
          answer = λ m reads. absurd (m is);
        };
      }

  -- what was written of a file that is refused
  pub answers_fault : (e : Refused) → IsRefused market matched e → IsInTurn market reads e.source
      → IsGiven (fault_answer e.source (fault_of e.refusal)) old new code whole → Answers ids is_public market matched reads old new code whole
  answers_fault e refused turn given =
      let is : code ≡ e.refusal.code = given.is_code in
      let large : 1 < e.refusal.code = codes_large e.source e.refusal.code refused.named.known in
      record {
        text = refused_line e.source e.refusal.code e.refusal.row e.refusal.id;
        written = given.written;
        is_written = given.is_written;
        says = record {
          explained = λ none. absurd (omega arith);
          refusal = λ some. record {
            file = e.source;
            says = inl (record {
              row = e.refusal.row;
              id = e.refusal.id;
              named = subst (λ (c : ℕ). IsNamedRefusalOf e.source c e.refusal.row e.refusal.id) (sym is) refused.named;
              line = ap (λ (c : ℕ). refused_line e.source c e.refusal.row e.refusal.id) (sym is);
            });
          };
          in_turn = λ some. turn;
          answer = λ m r. of_both market matched (λ xs ys read. ap (answer_of ids is_public) read ∙ ap (λ (c : ℕ). record { code = c; text = refused_line e.source e.refusal.code e.refusal.row e.refusal.id }) (sym is))
              (refused.fault (λ c. m (is ∙ c)) (λ c. r (is ∙ c)));
        };
      }
