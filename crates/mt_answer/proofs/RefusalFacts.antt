-- Want of memory is a refusal.
use Rattle.std.proofs.Common.{◌≡◌, ℕ, List, arith}
use Rattle.mt_terms.specs.Text.{IsNamedRefusal}
use Rattle.mt_terms.specs.declared.refusal.Refusal.{Refusal}
use Rattle.mt_answer.specs.Refusals.{IsRefusalBy}

-- whatever the answer is
pub no_memory : {IsAnswered : ℕ → List ℕ → Type 0} (e : Refusal) → IsNamedRefusal e.code e.row e.id → e.code ≡ 30 → IsRefusalBy IsAnswered e
no_memory e named is = record { named = named; reads_did = λ read. omega arith; answer = λ m. absurd (m is) }
