use Rattle.std.proofs.Common.{◌≡◌, ◌++◌, map, None, drop}
use Rattle.std.specs.Option.{unwrap_or}
use Rattle.mt_match_file.proofs.so_far.SoFar.all_places.Given as goal

abbrev pub invariant-loop-place : goal.invariant-loop-place
invariant-loop-place l =
    l.places.items ++ map (λ place. unwrap_or place None) (drop l.place-index l.self.places.items) ≡ map (λ place. unwrap_or place None) l.self.places.items
