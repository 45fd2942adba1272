-- How what the code holds is seen in the terms of the definitions.
use Rattle.std.specs.Prelude.{List, map, string_bytes}
use Rattle.mt_terms.specs.Registration.Ids.{Bytes}
use Rattle.mt_explained.specs.declared.asked.Asked.{Asked}

-- the ids that are asked for, each as its bytes
abbrev pub ids_of : Asked → List Bytes
ids_of asked = map string_bytes asked.ids.now
