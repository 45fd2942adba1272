-- Ids of each kind.
use Rattle.std.specs.Prelude.{◌≡◌, List, [], ◌∷◌, ◌++◌}
use Rattle.mt_terms.specs.Registration.Ids.{Bytes}
use Rattle.mt_terms.specs.Registration.Records as model
use Rattle.mt_ids.specs.declared.kinds.Kind.{Kind}
use Rattle.mt_ids.specs.declared.kinds.Kind.TheVariants as kinds
use Rattle.mt_ids.specs.declared.kinds.Kinds.{Kinds}

-- a kind of ids, as the definition's kind
abbrev pub kind_seen : Kind → model.Kind
kind_seen kinds.Program = model.OfProgram
kind_seen kinds.Applicant = model.OfApplicant
kind_seen kinds.Couple = model.OfCouple

-- the ids of a kind
abbrev pub ids_in : Kinds → model.Kind → List Bytes
ids_in k model.OfProgram = k.programs
ids_in k model.OfApplicant = k.applicants
ids_in k model.OfCouple = k.couples

-- the ids of a kind that an id under a kind adds
abbrev pub under : model.Kind → Bytes → model.Kind → List Bytes
under model.OfProgram id model.OfProgram = id ∷ []
under model.OfApplicant id model.OfApplicant = id ∷ []
under model.OfCouple id model.OfCouple = id ∷ []
under _ id _ = []

-- An id is added at the end of those of its kind. Those of the other kinds are as before.
abbrev pub AddsId : Kinds → Kinds → model.Kind → Bytes → Type 0
AddsId old new kind id = (k : model.Kind) → ids_in new k ≡ ids_in old k ++ under kind id k
