-- The number of a place's line: the line ends of a text are those before the place and those after it.
use Rattle.std.proofs.Common.{◌≡◌, ℕ, suc, ◌+◌, ◌≤◌, List, [], refl, sym, ap, ◌∙◌, arith}
use Rattle.mt_line_numbers.specs.declared.place.Place.{Place}
use Rattle.mt_line_numbers.specs.Inside.{IsAtRecord}
use Rattle.mt_line_numbers.specs.LineEnds.{line_ends, without_line_ends}
use Rattle.mt_line_numbers.specs.Records.{after_record, after_records, first_records, line_of_record}
use Rattle.mt_line_numbers.proofs.EndFacts.{ends-append}
use Rattle.mt_line_numbers.proofs.SplitFacts.{after_records-end, splits}

-- the line of the record that begins at a place
pub line_at : (text : List ℕ) (n number : ℕ) (place : Place) → IsAtRecord text n place → number ≡ suc n → place.line ≡ line_of_record text number
unfolding line_of_record
line_at text n number place here e =
    let parts = splits text n in
    let both : line_ends text ≡ line_ends (first_records n text) + line_ends (after_records n text) =
    ap line_ends parts.whole ∙ ends-append (first_records n text) (after_records n text) parts.begins in
    let lines : place.line + line_ends (after_records n text) ≡ line_ends text + 1 = rw here.rest at here.lines in
    rw e (omega (arith, both, lines))

-- a place at the end of a text is that of each later record too
pub later_at : (text : List ℕ) (n more : ℕ) (place : Place) → IsAtRecord text n place → place.rest.now ≡ [] → n ≤ more → IsAtRecord text more place
later_at text n more place here none le =
    record { rest = none ∙ sym (after_records-end n more text (sym here.rest ∙ none) le); lines = here.lines }

-- the start of a text, and a step from a record to the next
pub first_at : (text : List ℕ) (place : Place) → place.rest.now ≡ without_line_ends text → place.line + line_ends place.rest.now ≡ line_ends text + 1 → IsAtRecord text 0 place
unfolding after_records
first_at text place rest lines = record { rest = rest; lines = lines }

pub next_at : (text : List ℕ) (n : ℕ) (old new : Place) → IsAtRecord text n old → new.rest.now ≡ without_line_ends (after_record old.rest.now)
    → new.line + line_ends new.rest.now ≡ old.line + line_ends old.rest.now → IsAtRecord text (suc n) new
unfolding after_records
next_at text n old new here rest lines =
    record { rest = rest ∙ ap (λ (xs : List ℕ). without_line_ends (after_record xs)) here.rest; lines = lines ∙ here.lines }

-- record 0 has no line
pub no_line : (text : List ℕ) (number : ℕ) → number ≡ 0 → 0 ≡ line_of_record text number
unfolding line_of_record
no_line text number e = rw e refl
