use Rattle.std.proofs.Common.{◌≡◌, Bor, List, ℕ, map, string_bytes, take}
use Rattle.mt_nrexplain.proofs.command.owned.Given as goal

-- the texts so far
abbrev pub invariant-loop-text : goal.invariant-loop-text
invariant-loop-text l = map string_bytes l.own.items ≡ map (λ (t : Bor (List ℕ)). t.now) (take l.text-index l.texts)
