-- What the words of sets of ranks mean.
use Rattle.std.specs.Prelude.{◌≤◌, Bool, List, length, map}
use Rattle.mt_bits.specs.Tables.{told_by, AreFew}
use Rattle.mt_bits.specs.declared.rank_table.RankRow.TheInside.{Inside}
use Rattle.mt_bits.specs.declared.rank_table.RankTable.TheInside.{Inside as Table}

abbrev pub ranks_in : Inside → List Bool
ranks_in s = told_by s.words.now

-- So few words that each bit has a number of 32 bits.
pub record AreFewWords (s : Inside) : Type 0 where
  pub few : length s.words.now ≤ 67108864

-- For each list the ranks of its row of words, which are as few.
abbrev pub table_in : Table → List (List Bool)
table_in t = map told_by t.rows

pub record AreFewRows (t : Table) : Type 0 where
  pub few : AreFew t.rows
