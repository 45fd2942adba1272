-- Which pairs of couples are indexed at a program.
use Rattle.std.specs.Prelude.{◌≡◌, ℕ, Bool, true, ◌&&◌, ◌||◌, ◌==◌, nat_le, nat_lt, min, if◌then◌else◌, ◌⊎◌, List, [], slice_index_or, slice_set}
use Rattle.std.specs.List.{list_any}
use Rattle.mt_stage_tables.specs.declared.couple_list.NamedPairs.{NamedPairs}

-- The greatest number that an index in 16 bits can be. As an index it means all that are greater, too. As an end it is
-- no bound.
abbrev pub greatest : ℕ
greatest = 65535

-- whether an index is before an end
abbrev pub is_before : ℕ → ℕ → Bool
is_before i until = nat_lt i until || nat_le greatest until

-- the end of an entry among this many pairs: the greatest number of 16 bits is no bound
abbrev pub end_of : ℕ → ℕ → ℕ
end_of until many = if nat_lt until greatest then min many until else many

-- whether an entry has a couple's pair at an index: it begins there or before, and ends after it
abbrev pub names_pair : ℕ → ℕ → NamedPairs → Bool
names_pair c i n = n.couple == c && (nat_le n.from i && is_before i n.until)

-- whether a couple's pair at an index is indexed
abbrev pub is_indexed : List NamedPairs → ℕ → ℕ → Bool
is_indexed named c i = list_any (names_pair c i) named

-- whether a couple is indexed
abbrev pub has_couple : List NamedPairs → ℕ → Bool
has_couple named c = list_any (λ (n : NamedPairs). n.couple == c) named

-- a couple's pair at an index is indexed too, and no other couple is
pub record AddsPair (old new : List NamedPairs) (c from : ℕ) : Type 0 where
  pub keeps : (d i : ℕ) → is_indexed old d i ≡ true → is_indexed new d i ≡ true
  pub adds : (i : ℕ) → min i greatest ≡ from → is_indexed new c i ≡ true
  pub only : (d : ℕ) → has_couple new d ≡ true → (has_couple old d ≡ true) ⊎ (c ≡ d)

-- so it is at a program, and the others' entries are as they were
pub record AddsPairAt (old new : List (List NamedPairs)) (p c from : ℕ) : Type 0 where
  pub row : List NamedPairs
  pub is : new ≡ slice_set old p row
  pub adds : AddsPair (slice_index_or old p []) row c from
