-- What is so of every refusal line.
use Rattle.std.specs.Prelude.{ℕ, IsTrue}
use Rattle.mt_terms.specs.Registration.Ids.{Bytes}
use Rattle.mt_terms.specs.Text.{is_none_or_id, refusal_fields, IsOneRecord, refused}

-- a refusal line is one record of these seven, if the id that it names is an id
abbrev pub RefusalIsOneRecord : Type 0
RefusalIsOneRecord = (code row : ℕ) (id : Bytes) → IsTrue (is_none_or_id id) → IsOneRecord (refusal_fields code row id) (refused code row id)
