use Rattle.std.proofs.Common.{◌≡◌, take, map, None}
use Rattle.mt_passes.proofs.UnknownFacts.{fault_of}
use Rattle.mt_terms.specs.Registration.Passes.{first_of}
use Rattle.mt_passes.specs.Registers.{contents_seen}
use Rattle.mt_passes.proofs.register.Register.second_pass.Given as goal

-- no record so far names an unknown id
abbrev pub invariant-loop-i : goal.invariant-loop-i
invariant-loop-i l = first_of (map (fault_of (contents_seen l.self)) (take l.i l.self.records.items)) ≡ None
