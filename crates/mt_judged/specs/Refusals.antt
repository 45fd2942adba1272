-- What the refusal line of a file says.
use Rattle.std.specs.Prelude.{◌≡◌, ℕ, List}
use Rattle.mt_terms.specs.Registration.Ids.{Bytes}
use Rattle.mt_files.specs.Refusals.{IsNamedRefusalOf}
use Rattle.mt_files.specs.declared.source.Source.{Source}
use Rattle.mt_judged.specs.Text.{refused_line}

-- one named refusal line
pub record IsRefusal (code : ℕ) (text : List ℕ) : Type 0 where
  pub file : Source
  pub row : ℕ
  pub id : Bytes
  pub named : IsNamedRefusalOf file code row id
  pub line : text ≡ refused_line file code row id
