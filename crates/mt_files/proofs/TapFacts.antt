-- A reader that isn't asked, and which of two readers failed.
use Rattle.std.proofs.Common.{◌≡◌, ℕ, ◌<◌, ◌⊎◌, ◌↔◌, [], List, Option, Some, None, refl, inl, inr, arith}
use Rattle.std.specs.Io.KnownBytes.{Consumes}
use Rattle.mt_lists.specs.Tap.{bytes_left}
use Rattle.mt_lists.specs.declared.tap.Tap.{Tap}
use Rattle.mt_input.specs.Left.{TakesFile}

loses_none : (left : Option (List ℕ)) → Consumes left left []
loses_none None = tt
loses_none (Some xs) = refl

-- what isn't read stays as it is
pub takes_none : {R : Type 0} (remaining : R → Option (List ℕ)) (tap : Tap R) → TakesFile remaining tap tap
takes_none remaining tap = record {
  taken = record { front = []; lost = loses_none (bytes_left remaining tap); within = omega arith };
  reads = (omega arith, omega arith);
  failures = (omega arith, omega arith);
}

-- of two files, the one that can't have failed tells nothing of a fault
pub fault_of_second : (end fault none old new before after : ℕ) → ((end ≡ fault) ↔ (before < after)) → ((none ≡ fault) ↔ (old < new)) → none < fault → (end ≡ fault) ↔ ((old < new) ⊎ (before < after))
fault_of_second end fault none old new before after second first low = (
  λ e. inr (second.0 e),
  λ either. elim either [
    | inl rose ↦ absurd (omega (arith, first.1 rose))
    | inr rose ↦ second.1 rose
  ],
)

pub fault_of_first : (end fault old new same : ℕ) → ((end ≡ fault) ↔ (old < new)) → (end ≡ fault) ↔ ((old < new) ⊎ (same < same))
fault_of_first end fault old new same first = (
  λ e. inl (first.0 e),
  λ either. elim either [
    | inl rose ↦ first.1 rose
    | inr rose ↦ absurd (omega arith)
  ],
)
