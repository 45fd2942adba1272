-- Ids of each kind with one id more.
use Rattle.std.proofs.Common.{◌≡◌, [], ◌∷◌, ◌++◌, sym, ◌∙◌}
use Rattle.std.proofs.lemmas.List.{append-nil}
use Rattle.mt_terms.specs.Registration.Ids.{Bytes}
use Rattle.mt_terms.specs.Registration.Records.{Kind, OfProgram, OfApplicant, OfCouple}
use Rattle.mt_ids.specs.declared.kinds.Kinds.{Kinds}
use Rattle.mt_ids.specs.Kinds.{ids_in, under}

pub adds_program : (old new : Kinds) (id : Bytes) → new.programs ≡ old.programs ++ id ∷ [] → new.applicants ≡ old.applicants → new.couples ≡ old.couples → (k : Kind) → ids_in new k ≡ ids_in old k ++ under OfProgram id k
adds_program old new id a b c OfProgram = a
adds_program old new id a b c OfApplicant = b ∙ sym (append-nil old.applicants)
adds_program old new id a b c OfCouple = c ∙ sym (append-nil old.couples)

pub adds_applicant : (old new : Kinds) (id : Bytes) → new.programs ≡ old.programs → new.applicants ≡ old.applicants ++ id ∷ [] → new.couples ≡ old.couples → (k : Kind) → ids_in new k ≡ ids_in old k ++ under OfApplicant id k
adds_applicant old new id a b c OfProgram = a ∙ sym (append-nil old.programs)
adds_applicant old new id a b c OfApplicant = b
adds_applicant old new id a b c OfCouple = c ∙ sym (append-nil old.couples)

pub adds_couple : (old new : Kinds) (id : Bytes) → new.programs ≡ old.programs → new.applicants ≡ old.applicants → new.couples ≡ old.couples ++ id ∷ [] → (k : Kind) → ids_in new k ≡ ids_in old k ++ under OfCouple id k
adds_couple old new id a b c OfProgram = a ∙ sym (append-nil old.programs)
adds_couple old new id a b c OfApplicant = b ∙ sym (append-nil old.applicants)
adds_couple old new id a b c OfCouple = c

-- no id of any kind
pub none_of_kinds : (w : Kinds) → w.programs ≡ [] → w.applicants ≡ [] → w.couples ≡ [] → (kind : Kind) → ids_in w kind ≡ []
none_of_kinds w p a c OfProgram = p
none_of_kinds w p a c OfApplicant = a
none_of_kinds w p a c OfCouple = c
