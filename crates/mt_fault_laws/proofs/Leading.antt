-- Faults in order beside the one that a match names: lists begin with what an option shows, or are empty with it. Lists one
-- after another begin as the first of their options says.
use Rattle.std.proofs.Common.{◌≡◌, ℕ, Bool, true, false, ◌||◌, ◌==◌, List, [], ◌∷◌, ◌++◌, map, Option, Some, None, IsFalse, refl, ◌∙◌}
use Rattle.std.proofs.lemmas.List.{append_assoc}
use Rattle.std.specs.Prelude.{option_map}
use Rattle.std.specs.Bool.{then_some}
use Rattle.mt_terms.specs.declared.codes.TheConstants.{DUPLICATE_ENTRY}
use Rattle.mt_terms.specs.Registration.Faults.{RecordFault, fault_at}
use Rattle.mt_terms.specs.Registration.Passes.{first_of}
use Rattle.mt_fault_terms.specs.Faults.{FieldFault}
use Rattle.mt_fault_laws.specs.Accepted.{IsNamed}

-- a list is empty with no value, and begins with what a value shows
abbrev pub Leads : {A B : Type 0} → (A → B → Type 0) → Option A → List B → Type 0
Leads shows None [] = Unit {0}
Leads shows None (x ∷ xs) = ⊥
Leads shows (Some a) [] = ⊥
Leads shows (Some a) (x ∷ xs) = shows a x

module _ {A B : Type 0} (shows : A → B → Type 0) where
  pub leads_nil : (xs : List B) → Leads shows None xs → xs ≡ []
  leads_nil [] h = refl
  leads_nil (x ∷ xs) h = absurd h

  pub leads_front : (a : A) (xs ys : List B) → Leads shows (Some a) xs → Leads shows (Some a) (xs ++ ys)
  leads_front a [] ys h = absurd h
  leads_front a (x ∷ xs) ys h = h

  pub leads_next : (o : Option A) (os : List (Option A)) (xs ys : List B) → Leads shows o xs → Leads shows (first_of os) ys → Leads shows (first_of (o ∷ os)) (xs ++ ys)
  leads_next None os [] ys h k = k
  leads_next None os (x ∷ xs) ys h k = absurd h
  leads_next (Some a) os [] ys h k = absurd h
  leads_next (Some a) os (x ∷ xs) ys h k = h

  pub leads_last : (o : Option A) (xs : List B) → Leads shows o xs → Leads shows (first_of (o ∷ [])) xs
  leads_last None xs h = h
  leads_last (Some a) xs h = h

  pub leads_alone : (o : Option A) (xs : List B) → Leads shows o xs → Leads shows o (xs ++ [])
  leads_alone None [] h = tt
  leads_alone None (x ∷ xs) h = absurd h
  leads_alone (Some a) [] h = absurd h
  leads_alone (Some a) (x ∷ xs) h = h

-- the first of values that are all changed
pub first_map : {A B : Type 0} (f : A → B) (os : List (Option A)) → option_map f (first_of os) ≡ first_of (map (option_map f) os)
first_map f [] = refl
first_map f (Some x ∷ os) = refl
first_map f (None ∷ os) = first_map f os

-- one of four tests
pub any_of_four : {A : Type 0} (a b c d : Bool) (x : A) → then_some (a || b || c || d) x ≡ first_of (then_some a x ∷ then_some b x ∷ then_some c x ∷ then_some d x ∷ [])
any_of_four true b c d x = refl
any_of_four false true c d x = refl
any_of_four false false true d x = refl
any_of_four false false false true x = refl
any_of_four false false false false x = refl

-- lists one after another
pub three_joined : {A : Type 0} (xs ys zs : List A) → xs ++ ys ++ zs ≡ xs ++ (ys ++ zs)
three_joined xs ys zs = append_assoc xs ys zs

pub four_joined : {A : Type 0} (ws xs ys zs : List A) → ws ++ xs ++ ys ++ zs ≡ ws ++ (xs ++ (ys ++ zs))
four_joined ws xs ys zs = append_assoc (ws ++ xs) ys zs ∙ append_assoc ws xs (ys ++ zs)

-- a fault of a record shows the one that a match names: the same code, and the same id unless an entry is repeated
abbrev pub Shows : RecordFault → FieldFault → Type 0
Shows named fault = (fault.code ≡ named.0) × (IsFalse (named.0 == DUPLICATE_ENTRY) → fault.id ≡ named.1)

-- the same of record n in the file
pub leads_at : (n : ℕ) (o : Option RecordFault) (faults : List FieldFault) → Leads Shows o faults → Leads IsNamed (option_map (fault_at n) o) (map (λ fault. (n, fault)) faults)
leads_at n None [] h = tt
leads_at n None (fault ∷ faults) h = absurd h
leads_at n (Some c) [] h = absurd h
leads_at n (Some c) (fault ∷ faults) h = record { row = refl; code = h.0; id = h.1 }
