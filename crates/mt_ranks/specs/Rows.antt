-- Lists that grow side by side, each within the room that it was given.
use Rattle.std.specs.Prelude.{◌≡◌, ℕ, ◌+◌, ◌-◌, ◌<◌, ◌≤◌, List, [], ◌∷◌, ◌++◌, length, map, replicate, slice_range, slice_index, slice_index_or, slice_set}
use Rattle.mt_terms.specs.Lists.{below}
use Rattle.mt_terms.specs.Market.{Market, list_of}
use Rattle.mt_ranks.specs.Entries.{entries_among, entries_in, times_in}
use Rattle.mt_ranks.specs.declared.entries.Live.{Live}

-- the lists, and how long each may become
pub record Filling : Type 0 where
  pub lists : List (List Live)
  pub sizes : List ℕ

-- empty lists of these sizes
abbrev pub empty_rows : List ℕ → Filling
empty_rows sizes = record { lists = replicate (length sizes) []; sizes = sizes }

-- a row
abbrev pub row_of : Filling → ℕ → List Live
row_of f k = slice_index_or f.lists k []

-- whether a row has room for this number of entries more
abbrev pub HasRoom : Filling → ℕ → ℕ → Type 0
HasRoom f k n = length (row_of f k) + n ≤ slice_index f.sizes k

-- Below, the rows are of applicants from a number on. Each has room for its entries on a program's list.
abbrev pub HasRoomFor : ℕ → Filling → List ℕ → Type 0
HasRoomFor from f ranking = (k : ℕ) → k < length f.lists → HasRoom f k (times_in ranking (from + k))

-- they are added, for this program
abbrev pub IsEnteredFor : ℕ → Filling → Filling → ℕ → List ℕ → Type 0
IsEnteredFor from old new p ranking =
    (k : ℕ) → k < length old.lists → row_of new k ≡ row_of old k ++ entries_in p 0 ranking (from + k)

-- for each of `size` applicants the entries of its row that its list names
abbrev pub listed_rows : Market → ℕ → ℕ → Filling → List (List Live)
listed_rows m from size f =
    map (λ k. entries_among (row_of f k) (list_of m (from + k))) (below size)

-- with one element more at the end of a row
abbrev pub with_entry : Filling → ℕ → Live → Filling
with_entry f k x = record f { lists = slice_set f.lists k (row_of f k ++ x ∷ []) }

-- Below, the rows begin at one list of places and end at another.
-- the parts of a list between these places
abbrev pub parts : {X : Type 0} → List ℕ → List ℕ → List X → List (List X)
parts [] ends xs = []
parts (s ∷ starts) [] xs = []
parts (s ∷ starts) (e ∷ ends) xs = slice_range xs s e ∷ parts starts ends xs

-- where the first of them begins, or else the end
abbrev pub next_start : List ℕ → ℕ → ℕ
next_start [] size = size
next_start (s ∷ starts) size = s

-- how long each part may become: as far as to where the next one begins
abbrev pub sizes_between : List ℕ → ℕ → List ℕ
sizes_between [] size = []
sizes_between (s ∷ starts) size = (next_start starts size - s) ∷ sizes_between starts size

-- each part ends before the next one begins
abbrev pub ArePartsOf : ℕ → List ℕ → List ℕ → Type 0
ArePartsOf size [] [] = Unit {0}
ArePartsOf size [] (e ∷ ends) = ⊥
ArePartsOf size (s ∷ starts) [] = ⊥
ArePartsOf size (s ∷ starts) (e ∷ ends) =
    (s ≤ e) × (e ≤ next_start starts size) × ArePartsOf size starts ends

-- where parts of these sizes begin, the first at a place
abbrev pub starts_from : ℕ → List ℕ → List ℕ
starts_from at [] = []
starts_from at (size ∷ sizes) = at ∷ starts_from (at + size) sizes
