-- Reading the whole of an input.
use Rattle.std.proofs.Common.{◌≡◌, ◌↔◌, ℕ, ◌+◌, ◌-◌, ◌^◌, ◌<◌, ◌≤◌, List, [], ◌++◌, length, take, min, Option, Ok, Err, arith, length-append}
use Rattle.std.specs.Io.KnownBytes.{Consumes, Keeps}
use Rattle.std.specs.Result.{IsErrOf}
use Rattle.std.proofs.KnownBytes.{Consumes-kept, Consumes-nil, Consumes-trans}
use Rattle.std.proofs.lemmas.List.{length-take}
use Rattle.mt_lists.specs.declared.input.ReadEnd.{ReadEnd}
use Rattle.mt_lists.specs.declared.input.ReadEnd.TheVariants as end
use Rattle.mt_lists.specs.declared.tap.Tap.{Tap}
use Rattle.mt_lists.specs.Tap.{LosesAtMost, bytes_left, failures_of, reads_of}

-- what a tap did if these bytes came, within the limit, and no read failed
pub record ReadSoFar {R : Type 0} (remaining : R → Option (List ℕ)) (old new : Tap R) (limit : ℕ) (bytes : List ℕ) : Type 0 where
  pub taken : Consumes (bytes_left remaining old) (bytes_left remaining new) bytes
  pub within : length bytes ≤ limit
  pub earlier : reads_of old ≤ reads_of new
  pub reads : reads_of new ≤ reads_of old + length bytes
  pub failures : failures_of new ≡ failures_of old

-- a refusal after a piece of which one byte at most is past the limit
pub ended_within : (limit : ℕ) (a b c : Option (List ℕ)) (bytes piece : List ℕ) → Consumes a b bytes → Consumes b c piece → length bytes ≤ limit → length piece ≤ limit - length bytes + 1
    → LosesAtMost (limit + 1) a c
ended_within limit a b c bytes piece front last within fits =
    let size = length-append bytes piece in
    record { front = bytes ++ piece; lost = Consumes-trans a b c bytes piece front last; within = omega arith }

-- the front of a buffer into which a read goes is no longer than the room that is left and one byte
pub asked_len : (asked room : ℕ) (piece buf : List ℕ) → length buf ≡ length (take asked piece) → asked ≡ min (min (room + 1) (2 ^ 64 - 1)) 65536 → length piece ≡ 65536
    → length buf ≤ room + 1
asked_len asked room piece buf same asks big =
    let shorter = length-take asked piece in
    omega arith

-- nothing is lost if nothing was read
pub loses_none : (limit : ℕ) (a : Option (List ℕ)) → LosesAtMost (limit + 1) a a
loses_none limit a = record { front = []; lost = Consumes-nil a; within = omega arith }

-- a failed read loses no more than what came before it
pub loses_before : (limit : ℕ) (a b c : Option (List ℕ)) (bytes : List ℕ) → Consumes a b bytes → Keeps b c → length bytes ≤ limit
    → LosesAtMost (limit + 1) a c
loses_before limit a b c bytes front kept within =
    record { front = bytes; lost = Consumes-kept a b c bytes front kept; within = omega arith }

-- the reads after one more, against the bytes that came before it
pub turns_more : (old mid new size : ℕ) → mid ≤ old + size → new ≡ mid + 1 → new ≤ old + size + 1
turns_more old mid new size most one = omega arith

-- the reads after one more, against the limit
pub reads_more : (old mid new size limit : ℕ) → old ≤ mid → mid ≤ old + size → size ≤ limit → new ≡ mid + 1
    → (old ≤ new) × (new ≤ old + limit + 1)
reads_more old mid new size limit least most within one = (omega arith, omega arith)

-- the failures after a read that did not fail, and after one that did
pub failures_same : (old mid new : ℕ) → mid ≡ old → new ≡ mid + 0 → (old ≤ new) × (new ≤ old + 1)
failures_same old mid new none same = (omega arith, omega arith)

pub failures_more : (old mid new : ℕ) → mid ≡ old → new ≡ mid + 1 → (old ≤ new) × (new ≤ old + 1)
failures_more old mid new none one = (omega arith, omega arith)

-- no answer of a fault, and no failure
pub no_fault : (Fault : Type 0) (old mid new : ℕ) → (Fault → ⊥) → mid ≡ old → new ≡ mid + 0
    → Fault ↔ (old < new)
no_fault Fault old mid new not none same = (λ fault. absurd (not fault), λ less. absurd (omega arith))

-- an answer of a fault, and a failure
pub one_fault : (Fault : Type 0) (old mid new : ℕ) → Fault → mid ≡ old → new ≡ mid + 1
    → Fault ↔ (old < new)
one_fault Fault old mid new is none one = (λ fault. omega arith, λ less. is)

-- these answers are none of a fault
pub read_whole : {T : Type 0} (bytes : T) → IsErrOf {T = T} {E = ReadEnd} (Ok bytes) end.Fault → ⊥
read_whole bytes e = cc

pub too_large : {T : Type 0} → IsErrOf {T = T} {E = ReadEnd} (Err end.TooLarge) end.Fault → ⊥
too_large e = cc

pub no_memory : {T : Type 0} → IsErrOf {T = T} {E = ReadEnd} (Err end.Memory) end.Fault → ⊥
no_memory e = cc
