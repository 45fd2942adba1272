-- What follows the record that names a version.
use Rattle.std.specs.Prelude.{◌≡◌, ℕ, ◌+◌, ◌<◌, ◌^◌, List, [], ◌∷◌, length, Result, Ok, Err}
use Rattle.std.specs.Option.{option_map_or}
use Rattle.mt_terms.specs.Registration.Ids.{Bytes}
use Rattle.mt_terms.specs.Registration.Passes.{Numbered, numbered_from}
use Rattle.mt_terms.specs.Registration.Records.{Rules, rules_of}
use Rattle.mt_lists.specs.Rows.{rows_left}
use Rattle.mt_records.specs.declared.body.Body.{Body}

-- of the records that have a field: the rules that the first one names, and the others. Else the number of the first one, or 0
-- if there is none
abbrev pub body_in : List (Numbered (List Bytes)) → Result (Rules × List (Numbered (List Bytes))) ℕ
body_in [] = Err 0
body_in (row ∷ rows) = option_map_or (λ rules. Ok (rules, rows)) (rules_of row.1) (Err row.0)

-- The body has these rules and these records. Numbers do for all its rows.
pub record IsBody (records : List (Numbered (List Bytes))) (b : Body) : Type 0 where
  pub short : b.first + length (rows_left b.rows) < 2 ^ 64
  pub body : body_in records ≡ Ok (b.rules, numbered_from b.first (rows_left b.rows))

-- a body, or the number of the record that should name a version
abbrev pub GivesBody : List (Numbered (List Bytes)) → Result Body ℕ → Type 0
GivesBody records (Ok b) = IsBody records b
GivesBody records (Err number) = body_in records ≡ Err number
