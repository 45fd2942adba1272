use Rattle.std.proofs.Common.{◌≡◌, ◌++◌, take, map, Bor, List, ℕ}
use Rattle.std.specs.Prelude.{codes}
use Rattle.std.specs.List.{flat_map}
use Rattle.mt_report.proofs.LineFacts.{after_comma}
use Rattle.mt_check.proofs.text.check_line.Given as goal

-- the fields so far, each after a comma
abbrev pub invariant-loop-field : goal.invariant-loop-field
invariant-loop-field l = l.text.items ≡ codes "check,1" ++ flat_map after_comma (map (λ (f : Bor (List ℕ)). f.now) (take l.field-index l.fields))
