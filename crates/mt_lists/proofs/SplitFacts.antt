-- The rows of a text, one after the other.
use Rattle.std.proofs.Common.{◌≡◌, ◌<◌, ℕ, List, [], ◌∷◌, ◌++◌, length, map, Option, Some, Result, Ok, Err, Bor, true, false, refl, sym, ◌∙◌, inl, append_assoc}
use Rattle.std.specs.Option.{unwrap_or}
use Rattle.std.specs.Result.{MatchResult, is_ok}
use Rattle.std.proofs.lemmas.List.{append-nil}
use Rattle.csv.specs.declared.parser.State.{State}
use Rattle.csv.specs.declared.parser.State.TheVariants as st
use Rattle.csv.specs.declared.reader.Reader.{Reader}
use Rattle.csv.specs.declared.reader.Trim.TheVariants as trim
use Rattle.csv.specs.Machine.{Read, ends_at_end, next_record}
use Rattle.csv.specs.Reading.{Reached, ReadRecord, Ready, default_config, is_flexible, source_of}
use Rattle.csv.proofs.ReadFacts.{rows-end, rows-more}
use Rattle.mt_lists.specs.Records.{rows_of, without_trailing_empty}
use Rattle.mt_lists.proofs.CsvFacts.{next-shorter, records_left, records_left-none, records_left-some}

-- what a call answered, from what `map_err` answered
pub was_ok : {T E D : Type 0} (asked : Result T E) (answer : Result T D) (x : T) (Q : E → Type 0) → MatchResult asked (λ y. answer ≡ Ok y) Q → is_ok answer ≡ is_ok asked → answer ≡ Ok x → asked ≡ Ok x
was_ok (Ok y) answer x Q same variant e = cc
was_ok (Err d) answer x Q same variant e = absurd (cc (rw e at variant))

-- the bytes that a reader over a slice reads from
abbrev pub unread : Reader (Bor (List ℕ)) → Option (List ℕ)
unread reader = source_of (λ s. Some s.now) reader

-- how many they are
abbrev pub bytes_unread : Reader (Bor (List ℕ)) → ℕ
bytes_unread reader = length (unwrap_or (unread reader) [])

-- a reader that gave these rows of a text, and has yet to give the others
pub record SplitSoFar (text : List ℕ) (reader : Reader (Bor (List ℕ))) (rows : List (List (List ℕ))) : Type 0 where
  pub flexible : is_flexible reader ≡ true
  pub trim : reader.trim ≡ trim.None
  pub ready : Ready reader
  pub config : reader.config ≡ default_config
  pub idle : ends_at_end reader.state ≡ false
  pub left : List ℕ
  pub source : unread reader ≡ Some left
  pub rows_are : rows_of text ≡ rows ++ map without_trailing_empty (records_left reader.state left)

-- what a read that found a record shows: that record stands first among those left
record FoundNext (old new : Reader (Bor (List ℕ))) (fields : List (List ℕ)) (left : List ℕ) : Type 0 where
  after : List ℕ
  source : unread new ≡ Some after
  next : next_record default_config old.state [] [] left ≡ Some (fields, new.state, after)

same_read : (o : Option Read) (p : Read) (fields : List (List ℕ)) (s : State) (after : List ℕ) → o ≡ Some p → fields ≡ p.0 → p.1 ≡ s → p.2 ≡ after → o ≡ Some (fields, s, after)
same_read o p fields s after e a b c = rw (e, a, ← b, ← c) refl

found_next : (old new : Reader (Bor (List ℕ))) (fields : List (List ℕ)) (left : List ℕ) → old.config ≡ default_config → unread old ≡ Some left → ReadRecord (λ s. Some s.now) old new true fields → FoundNext old new fields left
unfolding Reached
found_next old new fields left config source found =
    let (after, unread_is, reached) = rows-more (λ (s : Bor (List ℕ)). Some s.now) old new fields default_config old.state left left [] config source (refl, refl) found in
    record { after = after; source = unread_is; next = same_read _ reached.0 fields new.state after reached.1 reached.2 reached.3.0 reached.3.1 }

-- one row more, and fewer bytes left
pub one_row_more : (text : List ℕ) (old new : Reader (Bor (List ℕ))) (rows : List (List (List ℕ))) (fields : List (List ℕ)) → SplitSoFar text old rows
    → ReadRecord (λ s. Some s.now) old new true fields → new.first ≡ true → is_flexible new ≡ true
    → SplitSoFar text new (rows ++ without_trailing_empty fields ∷ []) × (bytes_unread new < bytes_unread old)
one_row_more text old new rows fields so_far found first flexible =
    let at = found_next old new fields so_far.left so_far.config so_far.source found in
    let p : Read = (fields, new.state, at.after) in
    let less = next-shorter default_config old.state so_far.left p so_far.idle at.next in (
      record {
        flexible = flexible;
        trim = found.3 ∙ so_far.trim;
        ready = inl first;
        config = found.2 ∙ so_far.config;
        idle = less.1;
        left = at.after;
        source = at.source;
        rows_are = so_far.rows_are ∙ rw (records_left-some old.state so_far.left p so_far.idle at.next) (sym (append_assoc rows (without_trailing_empty fields ∷ []) _));
      },
      rw (at.source, so_far.source) less.0,
    )

-- no row more
pub no_row_more : (text : List ℕ) (old new : Reader (Bor (List ℕ))) (rows : List (List (List ℕ))) (fields : List (List ℕ)) → SplitSoFar text old rows
    → ReadRecord (λ s. Some s.now) old new false fields → rows ≡ rows_of text
no_row_more text old new rows fields so_far ended =
    let none = rows-end (λ (s : Bor (List ℕ)). Some s.now) old new fields default_config so_far.left so_far.config so_far.source ended in
    sym (so_far.rows_are ∙ rw (records_left-none old.state so_far.left none) (append-nil rows))

-- a reader that has yet to read
pub no_row_yet : (text : List ℕ) (reader : Reader (Bor (List ℕ))) (rows : List (List (List ℕ))) → is_flexible reader ≡ true → reader.trim ≡ trim.None → Ready reader → reader.config ≡ default_config
    → reader.state ≡ st.StartRecord → unread reader ≡ Some text → rows ≡ [] → SplitSoFar text reader rows
unfolding rows_of
no_row_yet text reader rows flexible plain ready config start source none =
    record {
      flexible = flexible;
      trim = plain;
      ready = ready;
      config = config;
      idle = rw start refl;
      left = text;
      source = source;
      rows_are = rw (none, start) refl;
    }
