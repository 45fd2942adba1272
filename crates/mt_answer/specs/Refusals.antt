-- What the end of a step of a run is, if that is a refusal.
use Rattle.std.specs.Prelude.{◌≢◌, ℕ, List}
use Rattle.mt_terms.specs.Text.{IsNamedRefusal, refused}
use Rattle.mt_terms.specs.declared.codes.TheConstants.{OUT_OF_MEMORY, READ_FAULT}
use Rattle.mt_terms.specs.declared.refusal.Refusal.{Refusal}

-- the line of a refusal
abbrev pub line_of : Refusal → List ℕ
line_of e = refused e.code e.row e.id

-- A named refusal that no failed read made. It is the answer, unless memory ran out.
pub record IsRefusalBy (IsAnswered : ℕ → List ℕ → Type 0) (e : Refusal) : Type 0 where
  pub named : IsNamedRefusal e.code e.row e.id
  pub reads_did : e.code ≢ READ_FAULT
  pub answer : e.code ≢ OUT_OF_MEMORY → IsAnswered e.code (line_of e)
