-- What the first pass does with one record: it takes a record that conflicts with none before it.
use Rattle.std.proofs.Common.{◌≡◌, ℕ, Bool, true, false, List, [], ◌∷◌, ◌++◌, Option, Some, None, Ok, refl, cond}
use Rattle.std.specs.Prelude.{option_map}
use Rattle.std.specs.Bool.{then_some}
use Rattle.std.proofs.lemmas.List.{map-append}
use Rattle.mt_terms.specs.declared.codes.TheConstants.{DUPLICATE_ID}
use Rattle.mt_terms.specs.Registration.Ids.{Bytes}
use Rattle.mt_terms.specs.Registration.Faults.{RecordFault, record_fault}
use Rattle.mt_terms.specs.Registration.Records.{Record}
use Rattle.mt_terms.specs.Registration.Passes.{Numbered, contents, first_of, unless}

-- a record is taken if no id is registered before, nothing is said twice, and no limit is passed
pub kept_parts : (o : Option Bytes) (s t : Bool) (c d : RecordFault) (q r : Record)
    → unless (first_of (option_map (record_fault DUPLICATE_ID) o ∷ then_some s c ∷ then_some t d ∷ [])) q ≡ Ok r
    → (q ≡ r) × (o ≡ None) × (s ≡ false) × (t ≡ false)
kept_parts (Some x) s t c d q r h = cc
kept_parts None true t c d q r h = cc
kept_parts None false true c d q r h = cc
kept_parts None false false c d q r h = (cc, refl, refl, refl)

-- if a test that gives an id gives none, it is false
pub not_found : (b : Bool) (x : Bytes) → cond b (Some x) None ≡ None → b ≡ false
not_found true x h = cc
not_found false x h = refl

-- the records of numbered records with one more
pub contents_push : (before : List (Numbered Record)) (n : ℕ) (r : Record) → contents (before ++ (n, r) ∷ []) ≡ contents before ++ r ∷ []
contents_push before n r = rw map-append refl
