-- The names of codes on lines.
use Rattle.std.specs.Prelude.{ℕ, List}
use Rattle.mt_terms.specs.Text.{name_among, refusals}

-- the name of a refusal's code, as its line has it: this project's own
abbrev pub name_of_code : ℕ → List ℕ
name_of_code code = name_among refusals code
