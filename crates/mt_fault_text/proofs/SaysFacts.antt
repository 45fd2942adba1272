-- What an answer that was written says of the bytes that a reader had left.
-- Bytes are a market, or have faults by their records, or a fault that leaves them without records.
use Rattle.std.proofs.Common.{◌≡◌, ◌⊎◌, ℕ, ◌≤◌, Bool, true, false, List, [], ◌∷◌, length, Option, Some, None, Result, Ok, Err, refl, sym, ap, ap₂, ◌∙◌, subst, inl, inr, arith, nat_lt}
use Rattle.std.specs.Prelude.{◌≢◌, if◌then◌else◌}
use Rattle.std.specs.Result.{result_ok}
use Rattle.std.proofs.lemmas.Bool.{cases_eq}
use Rattle.std.proofs.lemmas.Bool.Decides.{nat_tests}
use Rattle.mt_lists.specs.Records.{records_of, without_mark}
use Rattle.mt_terms.specs.Market.{Registered}
use Rattle.mt_terms.specs.Registration.{market_of}
use Rattle.mt_terms.specs.Registration.Faults.{Fault, fault_at, record_fault_alone}
use Rattle.mt_terms.specs.Registration.Ids.{Bytes}
use Rattle.mt_terms.specs.declared.codes.TheConstants.{TWO_MARKS}
use Rattle.mt_terms.specs.declared.refusal.Refusal.{Refusal}
use Rattle.mt_input.specs.Files.{by_records, market_in, most_bytes, of_bytes}
use Rattle.mt_input.specs.Left.{AreRead}
use Rattle.mt_input.specs.Refusals.{CannotRead, fault_of}
use Rattle.mt_input.proofs.LeftFacts.{cannot_read, of_left, some_left}
use Rattle.mt_input.proofs.MarketFacts.{market_fault}
use Rattle.mt_files.specs.Answer.{Answer, IsGiven}
use Rattle.mt_files.specs.Text.{is_code_of}
use Rattle.mt_files.specs.declared.source.Source.TheVariants.{Market}
use Rattle.mt_files.proofs.NameFacts.{market_named}
use Rattle.mt_fault_terms.specs.Faults.{FileFault, fault_alone}
use Rattle.mt_fault_terms.specs.OfFile.{faults_of}
use Rattle.mt_fault_text.specs.Answer.{Answers, AreListed, IsGivenOrCut, IsGivenOrNoMemory, answer_of, answer_to, cut_answer, faults_answer, faults_in, lines_alone, refusal}
use Rattle.mt_fault_text.specs.Text.{accepted_line, all_lines}
use Rattle.mt_fault_text.proofs.AnswerFacts.{alone_lines, cut_at_once}
use Rattle.mt_fault_text.proofs.NamedFacts.{accepted}

-- the faults of bytes whose records were read
pub faults_of_rows : (bytes : List ℕ) (rows : List (List Bytes)) → length bytes ≤ most_bytes → records_of bytes ≡ Some rows → faults_in bytes ≡ faults_of rows
faults_of_rows bytes rows few is =
    let small : nat_lt most_bytes (length bytes) ≡ false = grind (arith, nat_tests) in
    rw (small, is) refl

-- the market of bytes whose records were read
market_of_rows : (bytes : List ℕ) (rows : List (List Bytes)) → length bytes ≤ most_bytes → records_of bytes ≡ Some rows → market_in bytes ≡ market_of rows
market_of_rows bytes rows few is =
    let small : nat_lt most_bytes (length bytes) ≡ false = grind (arith, nat_tests) in
    rw (small, is) refl

-- the answer to bytes whose records were read
answer_of_rows : (bytes : List ℕ) (rows : List (List Bytes)) → length bytes ≤ most_bytes → records_of bytes ≡ Some rows
    → answer_of (without_mark bytes) (market_of rows) (faults_of rows) ≡ answer_to bytes
answer_of_rows bytes rows few is =
    ap₂ (λ (market : Result Registered Fault) (faults : List FileFault). answer_of (without_mark bytes) market faults) (sym (market_of_rows bytes rows few is))
    (sym (faults_of_rows bytes rows few is))

-- the answer to a file with a first fault
faulty_answer : (bytes : List ℕ) (f : Fault) → market_in bytes ≡ Err f → answer_to bytes ≡ faults_answer f.code (without_mark bytes) (faults_in bytes)
faulty_answer bytes f is = ap (λ (market : Result Registered Fault). answer_of (without_mark bytes) market (faults_in bytes)) is

-- the answer to a file that has one fault alone, and no records
alone_answer : (bytes : List ℕ) (code : ℕ) → market_in bytes ≡ Err (fault_at 0 (record_fault_alone code)) → faults_in bytes ≡ (0, fault_alone code 0) ∷ []
    → answer_to bytes ≡ record { code = code; text = lines_alone code }
alone_answer bytes code market faults =
    let text : all_lines (without_mark bytes) (faults_in bytes) ≡ lines_alone code = ap (all_lines (without_mark bytes)) faults ∙ sym (alone_lines (without_mark bytes) code) in
    faulty_answer bytes (fault_at 0 (record_fault_alone code)) market ∙ ap (λ (t : List ℕ). record { code = code; text = t }) text

-- bytes that begin with two marks have that fault alone
marks_answer : (bytes : List ℕ) → length bytes ≤ most_bytes → records_of bytes ≡ None → answer_to bytes ≡ record { code = TWO_MARKS; text = lines_alone TWO_MARKS }
marks_answer bytes few none =
    let small : nat_lt most_bytes (length bytes) ≡ false = grind (arith, nat_tests) in
    alone_answer bytes TWO_MARKS (rw (small, none) refl) (rw (small, none) refl)

-- the code of an answer is 0, or a market's code that is 22 at the most
record IsLow (code : ℕ) : Type 0 where
  known : code ≢ 0 → is_code_of Market code ≡ true
  low : code ≤ 22

low_code : (bytes : List ℕ) → IsLow (answer_to bytes).code
low_code bytes = by (market_in bytes) refl
  where
    by : (market : Result Registered Fault) → market_in bytes ≡ market → IsLow (answer_of (without_mark bytes) market (faults_in bytes)).code
    by (Ok r) is = record { known = λ some. absurd (some refl); low = omega arith }
    by (Err f) is = record { known = λ some. (market_named bytes f is).known; low = (market_fault bytes f is).low }

module _ (old new : Option (List ℕ)) (code : ℕ) (whole : Bool) where
  -- the answer to a market, or that in want of memory
  pub given_market : (text : List ℕ) (market : Result Registered Fault) (faults : List FileFault) (r : Registered) → result_ok market ≡ Some r
      → IsGivenOrNoMemory (record { code = 0; text = accepted_line r }) old new code whole → IsGivenOrCut (answer_of text market faults) text faults old new code whole
  given_market text market faults r is (inl given) =
      let same = ap (λ (market : Result Registered Fault). answer_of text market faults) (accepted market r is) in
      inl (subst (λ (a : Answer). IsGiven a old new code whole) (sym same) given)
  given_market text market faults r is (inr given) = inr (cut_at_once text faults old new code whole given)

  -- the lines of the faults of a refused file
  pub given_faults : (text : List ℕ) (market : Result Registered Fault) (faults : List FileFault) (f : Fault) (listed : ℕ) → market ≡ Err f → listed ≡ f.code
      → AreListed listed text faults old new code whole → IsGivenOrCut (answer_of text market faults) text faults old new code whole
  given_faults text market faults f listed is same (inl given) =
      let answer : faults_answer listed text faults ≡ answer_of text market faults =
      ap (λ (n : ℕ). faults_answer n text faults) same ∙ sym (ap (λ (market : Result Registered Fault). answer_of text market faults) is) in
      inl (subst (λ (a : Answer). IsGiven a old new code whole) answer given)
  given_faults text market faults f listed is same (inr cut) = inr cut

  -- the answer to the records of bytes is that to the bytes
  pub given_rows : (bytes : List ℕ) (rows : List (List Bytes)) → length bytes ≤ most_bytes → records_of bytes ≡ Some rows
      → IsGivenOrCut (answer_of (without_mark bytes) (market_of rows) (faults_of rows)) (without_mark bytes) (faults_of rows) old new code whole
      → IsGivenOrCut (answer_to bytes) (without_mark bytes) (faults_in bytes) old new code whole
  given_rows bytes rows few is given =
      let on_faults : IsGivenOrCut (answer_of (without_mark bytes) (market_of rows) (faults_of rows)) (without_mark bytes) (faults_in bytes) old new code whole =
      subst (λ (faults : List FileFault). IsGivenOrCut (answer_of (without_mark bytes) (market_of rows) (faults_of rows)) (without_mark bytes) faults old new code whole)
      (sym (faults_of_rows bytes rows few is)) given in
      subst (λ (answer : Answer). IsGivenOrCut answer (without_mark bytes) (faults_in bytes) old new code whole) (answer_of_rows bytes rows few is) on_faults

  -- the lines of the one fault that bytes have if they begin with two marks
  pub given_marks : (bytes : List ℕ) → length bytes ≤ most_bytes → records_of bytes ≡ None
      → IsGivenOrNoMemory (record { code = TWO_MARKS; text = lines_alone TWO_MARKS }) old new code whole
      → IsGivenOrCut (answer_to bytes) (without_mark bytes) (faults_in bytes) old new code whole
  given_marks bytes few none (inl given) = inl (subst (λ (a : Answer). IsGiven a old new code whole) (sym (marks_answer bytes few none)) given)
  given_marks bytes few none (inr given) = inr (cut_at_once (without_mark bytes) (faults_in bytes) old new code whole given)

  -- what was written of bytes that a reader had left
  pub answers_bytes : (left : Option (List ℕ)) (bytes : List ℕ) → AreRead left bytes
      → IsGivenOrCut (answer_to bytes) (without_mark bytes) (faults_in bytes) old new code whole → Answers left old new code whole
  answers_bytes left bytes read (inl given) =
      let is : code ≡ (answer_to bytes).code = given.is_code in
      let low = low_code bytes in
      record {
        text = (answer_to bytes).text;
        written = given.written;
        is_written = given.is_written;
        says = record {
          known = λ some. subst (λ (c : ℕ). is_code_of Market c ≡ true) (sym is) (low.known (λ none. some (is ∙ none)));
          answer = λ m r. record {
            bytes = bytes;
            are_left = read.are_left;
            is_so = ap (λ (c : ℕ). record { code = c; text = (answer_to bytes).text }) (sym is);
          };
          memory = λ m. absurd (omega (arith, is, low.low));
          read = λ r. absurd (omega (arith, is, low.low));
        };
      }
  answers_bytes left bytes read (inr cut) =
      let is : code ≡ 30 = cut.given.is_code in
      record {
        text = (cut_answer (without_mark bytes) cut.front).text;
        written = cut.given.written;
        is_written = cut.given.is_written;
        says = record {
          known = λ some. subst (λ (c : ℕ). is_code_of Market c ≡ true) (sym is) refl;
          answer = λ m r. absurd (m is);
          memory = λ m. record {
            bytes = bytes;
            are_left = read.are_left;
            is_so = record {
              front = cut.front;
              others = cut.others;
              all = cut.all;
              is_answer = ap (λ (c : ℕ). record { code = c; text = (cut_answer (without_mark bytes) cut.front).text }) (sym is);
            };
          };
          read = λ r. absurd (omega arith);
        };
      }

  -- the refusal alone was written, for want of memory or a failed read
  pub answers_refusal : (left : Option (List ℕ)) (refused : ℕ) → (refused ≡ 30) ⊎ (refused ≡ 31)
      → IsGiven (record { code = refused; text = refusal refused }) old new code whole → Answers left old new code whole
  answers_refusal left refused (inl memory) given =
      let is : code ≡ 30 = given.is_code ∙ memory in
      let some = some_left left in
      record {
        text = refusal refused;
        written = given.written;
        is_written = given.is_written;
        says = record {
          known = λ some. subst (λ (c : ℕ). is_code_of Market c ≡ true) (sym is) refl;
          answer = λ m r. absurd (m is);
          memory = λ m. record {
            bytes = some.0;
            are_left = some.1;
            is_so = record {
              front = [];
              others = faults_in some.0;
              all = refl;
              is_answer = ap₂ (λ (c : ℕ) (t : List ℕ). record { code = c; text = t }) (sym is) (ap refusal (sym memory));
            };
          };
          read = λ r. absurd (omega arith);
        };
      }
  answers_refusal left refused (inr read) given =
      let is : code ≡ 31 = given.is_code ∙ read in
      record {
        text = refusal refused;
        written = given.written;
        is_written = given.is_written;
        says = record {
          known = λ some. subst (λ (c : ℕ). is_code_of Market c ≡ true) (sym is) refl;
          answer = λ m r. absurd (r is);
          memory = λ m. absurd (omega arith);
          read = λ r. ap refusal read;
        };
      }

-- bytes of which no records can be had by a fault with code 10 are too many
many : (bytes : List ℕ) (f : Fault) → f.code ≡ 10 → of_bytes {X = List (List Bytes)} Ok bytes ≡ Err f → nat_lt most_bytes (length bytes) ≡ true
many bytes f ten h = by (nat_lt most_bytes (length bytes)) (records_of bytes) refl h
  where
    by : (b : Bool) (o : Option (List (List Bytes))) → nat_lt most_bytes (length bytes) ≡ b
        → (if b then Err (fault_at 0 (record_fault_alone 10)) else by_records {X = List (List Bytes)} Ok o) ≡ Err f → nat_lt most_bytes (length bytes) ≡ true
    by true o is k = is
    by false None is k = let same : fault_at 0 (record_fault_alone 11) ≡ f = cc in absurd (omega (arith, ten, ap (λ (x : Fault). x.code) same))
    by false (Some rows) is k = cc

large_answer : (bytes : List ℕ) → nat_lt most_bytes (length bytes) ≡ true → answer_to bytes ≡ record { code = 10; text = lines_alone 10 }
large_answer bytes large = alone_answer bytes 10 (rw large refl) (rw large refl)

-- the lines of the one fault of too many bytes were written, or the refusal for want of memory
pub answers_large : (old new : Option (List ℕ)) (code : ℕ) (whole : Bool) (left : Option (List ℕ)) (e : Refusal) → e.code ≡ 10 → CannotRead left e
    → IsGivenOrNoMemory (record { code = 10; text = lines_alone 10 }) old new code whole → Answers left old new code whole
answers_large old new code whole left e ten h (inl given) =
    let is : code ≡ 10 = given.is_code in
    let fault = (cannot_read {X = List (List Bytes)} Ok left e h).fault (λ m. absurd (omega arith)) (λ r. absurd (omega arith)) in
    record {
      text = lines_alone 10;
      written = given.written;
      is_written = given.is_written;
      says = record {
        known = λ some. subst (λ (c : ℕ). is_code_of Market c ≡ true) (sym is) refl;
        answer = λ m r. of_left left
            (λ bytes large. large_answer bytes (many bytes (fault_of e) ten large) ∙ ap (λ (c : ℕ). record { code = c; text = lines_alone 10 }) (sym is))
            fault;
        memory = λ m. absurd (omega arith);
        read = λ r. absurd (omega arith);
      };
    }
answers_large old new code whole left e ten h (inr given) = answers_refusal old new code whole left 30 (inl refl) given

-- a read that failed, or want of memory, if there aren't too many bytes
pub refused_by : (left : Option (List ℕ)) (e : Refusal) → CannotRead left e → e.code ≢ 10 → (e.code ≡ 30) ⊎ (e.code ≡ 31)
refused_by left e h some = elim (cases_eq e.code 30) [
  | inl memory ↦ inl memory
  | inr m ↦ elim (cases_eq e.code 31) [
    | inl read ↦ inr read
    | inr r ↦ absurd (some (h.too_large m r).0)
  ]
]

-- no answer to bytes has the code of a failed read
pub no_read_code : (bytes : List ℕ) (old new : Option (List ℕ)) (code : ℕ) (whole : Bool)
    → IsGivenOrCut (answer_to bytes) (without_mark bytes) (faults_in bytes) old new code whole → code ≡ 31 → ⊥
no_read_code bytes old new code whole (inl given) read = omega (arith, given.is_code, (low_code bytes).low)
no_read_code bytes old new code whole (inr cut) read = let is : code ≡ 30 = cut.given.is_code in omega arith
