-- Which of some ids were met in a list, by the list's stamp.
use Rattle.std.specs.Prelude.{◌≡◌, ◌==◌, ◌≤◌, ◌<◌, ℕ, Bool, false, List, length, map, slice_index_or}

-- the ids that have the stamp
abbrev pub flags_of : ℕ → List ℕ → List Bool
flags_of stamp stamps = map (λ s. s == stamp) stamps

-- No stamp is larger than this one.
abbrev pub AreAtMost : ℕ → List ℕ → Type 0
AreAtMost stamp stamps = (i : ℕ) → i < length stamps → slice_index_or stamps i 0 ≤ stamp

-- No id of a list was met yet.
abbrev pub IsNoneMet : List Bool → Type 0
IsNoneMet met = (i : ℕ) → i < length met → slice_index_or met i false ≡ false
