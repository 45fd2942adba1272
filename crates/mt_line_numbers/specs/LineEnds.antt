-- The line ends of a text: a line feed, a carriage return, or both in this order, each of which is one.
use Rattle.std.specs.Prelude.{◌≡◌, ◌⊎◌, ℕ, ◌+◌, Bool, true, false, ◌==◌, ◌||◌, ◌&&◌, not, List, [], ◌∷◌, ◌++◌, if◌then◌else◌}
use Rattle.std.specs.List.{list_any}
use Rattle.csv.specs.Machine.{line_feed, carriage_return}
use Rattle.mt_lists.specs.Lines.{ends_line}

-- whether a text begins with a line feed
abbrev pub begins_with_feed : List ℕ → Bool
begins_with_feed [] = false
begins_with_feed (c ∷ rest) = c == line_feed

-- whether a byte is the last of a line end, by the text after it
abbrev pub closes_line : ℕ → List ℕ → Bool
closes_line c rest = (c == line_feed) || ((c == carriage_return) && not (begins_with_feed rest))

-- how many line ends a text has
unfoldable pub line_ends : List ℕ → ℕ
line_ends [] = 0
line_ends (c ∷ rest) = (if closes_line c rest then 1 else 0) + line_ends rest

-- whether a text begins with a line end
abbrev pub begins_with_line_end : List ℕ → Bool
begins_with_line_end [] = false
begins_with_line_end (c ∷ rest) = ends_line c

-- a text without the line ends at its start
unfoldable pub without_line_ends : List ℕ → List ℕ
without_line_ends [] = []
without_line_ends (c ∷ rest) = if ends_line c then without_line_ends rest else c ∷ rest

-- a text is its first line and what comes from the end of that line on
pub record FirstLine (text line rest : List ℕ) : Type 0 where
  pub whole : text ≡ line ++ rest
  pub one : list_any ends_line line ≡ false
  pub ends : (rest ≡ []) ⊎ (begins_with_line_end rest ≡ true)
