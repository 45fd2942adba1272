-- The ids that words name, by the matches of the command.
use Rattle.std.proofs.Common.{◌≡◌, ◌∙◌, Bor, List, [], Option, map, sym, ap}
use Rattle.std.specs.Prelude.{codes, option_map, unwrap_or}
use Rattle.clap.specs.Words.{Text, rows_of}
use Rattle.clap.specs.Matches.{matched_of, raw_values}
use Rattle.clap.proofs.WalkLemmas.{raw_values-rows}
use Rattle.clap.specs.declared.parser.matches.Found.{Found}
use Rattle.mt_nrexplain.specs.CommandLine.{ids_in}

-- the ids of the matches
pub ids_of_rows : (f : Found) (o : Option (Bor (List (Bor Text)))) → option_map (λ s. map (λ (v : Bor Text). v.now) s.now) o ≡ option_map raw_values (matched_of f (codes "ID"))
    → (v : Option (Bor (List (Bor Text)))) → o ≡ v → unwrap_or (option_map (λ s. map (λ (x : Bor Text). x.now) s.now) v) [] ≡ ids_in (rows_of f)
ids_of_rows f o read v is =
    ap (λ (w : Option (Bor (List (Bor Text)))). unwrap_or (option_map (λ s. map (λ (x : Bor Text). x.now) s.now) w) []) (sym is)
    ∙ ap (λ (w : Option (List Text)). unwrap_or w []) (read ∙ raw_values-rows f (codes "ID"))
