-- The code that a match names, by the codes of all faults in their order, is that with which a match refuses the file.
use Rattle.std.proofs.Common.{◌≡◌, ℕ, Bool, true, false, List, [], ◌∷◌, Option, Some, None, Result, Ok, Err, refl, ap, sym, subst, ◌∙◌, if◌then◌else◌}
use Rattle.std.specs.Prelude.{find, IsSome}
use Rattle.std.specs.Result.{result_ok}
use Rattle.mt_terms.specs.Market.{Registered}
use Rattle.mt_terms.specs.Registration.{market_of}
use Rattle.mt_terms.specs.Registration.Faults.{Fault}
use Rattle.mt_terms.specs.Registration.Ids.{Bytes}
use Rattle.mt_terms.specs.Registration.Passes.{first_of}
use Rattle.mt_fault_terms.specs.Faults.{FileFault}
use Rattle.mt_fault_terms.specs.OfFile.{faults_of}
use Rattle.mt_fault_laws.specs.Accepted.{fault_of_match, is_of_first_pass}
use Rattle.mt_fault_laws.proofs.AcceptedFacts.{named_fault_is_among_lem}
use Rattle.mt_fault_text.specs.Answer.{code_in}
use Rattle.mt_fault_text.specs.Named.{is_early, named_after}

-- the code of a fault, or another one
abbrev code_or : ℕ → Option FileFault → ℕ
code_or code None = code
code_or code (Some fault) = fault.1.code

-- a code of the first pass stays
early : (code : ℕ) (faults : List FileFault) → is_early code ≡ true → named_after (Some code) faults ≡ Some code
early code [] is = refl
early code (fault ∷ faults) is = rw is (early code faults is)

-- another one gives way to the first of the first pass
late : (code : ℕ) (faults : List FileFault) → is_early code ≡ false → named_after (Some code) faults ≡ Some (code_or code (find is_of_first_pass faults))
late code [] is = refl
late code (fault ∷ faults) is = by (is_early fault.1.code) refl (late code faults is)
  where
    by : (b : Bool) → is_early fault.1.code ≡ b → named_after (Some code) faults ≡ Some (code_or code (find is_of_first_pass faults))
        → named_after (Some code) (fault ∷ faults) ≡ Some (code_or code (find is_of_first_pass (fault ∷ faults)))
    by true one rest = rw (is, one) (early fault.1.code faults one)
    by false one rest = rw (is, one) rest

after_first : (code : ℕ) (faults : List FileFault)
    → named_after (Some code) faults ≡ Some (code_or code (if is_early code then None else find is_of_first_pass faults))
after_first code faults = by (is_early code) refl
  where
    by : (b : Bool) → is_early code ≡ b → named_after (Some code) faults ≡ Some (code_or code (if is_early code then None else find is_of_first_pass faults))
    by true is = rw is (early code faults is)
    by false is = rw is (late code faults is)

-- the code of the fault that a match names
code_by : (b : Bool) (fault : FileFault) (o : Option FileFault) (named : FileFault) → first_of ((if b then Some fault else o) ∷ Some fault ∷ []) ≡ Some named
    → code_or fault.1.code (if b then None else o) ≡ named.1.code
code_by true fault o named h = let same : fault ≡ named = cc in ap (λ (f : FileFault). f.1.code) same
code_by false fault None named h = let same : fault ≡ named = cc in ap (λ (f : FileFault). f.1.code) same
code_by false fault (Some other) named h = let same : other ≡ named = cc in ap (λ (f : FileFault). f.1.code) same

named_is : (faults : List FileFault) (named : FileFault) → fault_of_match faults ≡ Some named → named_after None faults ≡ Some named.1.code
named_is [] named h = absurd cc
named_is (fault ∷ faults) named h =
    after_first fault.1.code faults ∙ ap (λ (code : ℕ). Some code) (code_by (is_early fault.1.code) fault (find is_of_first_pass faults) named h)

-- it is the code of a refused file, and there is one
module _ (rows : List (List Bytes)) (f : Fault) (is : market_of rows ≡ Err f) (named : Option ℕ) (all : named ≡ named_after None (faults_of rows)) where
  named_refused : named ≡ Some f.code
  named_refused =
      let fault = named_fault_is_among_lem rows f is in
      all ∙ named_is (faults_of rows) fault.0 fault.1 ∙ ap (λ (code : ℕ). Some code) fault.2.code

  pub is_named : IsSome named
  is_named = subst (λ (o : Option ℕ). IsSome o) (sym named_refused) refl

  pub named_code : (code : ℕ) → named ≡ Some code → code ≡ f.code
  named_code code some = let same : ◌≡◌ {A = Option ℕ} (Some code) (Some f.code) = sym some ∙ named_refused in cc

-- the code of a refused market
pub same_code : (market : Result Registered Fault) (f : Fault) (code : ℕ) → market ≡ Err f → code_in market ≡ Some code → code ≡ f.code
same_code market f code is some = let same : ◌≡◌ {A = Option ℕ} (Some code) (Some f.code) = sym some ∙ ap code_in is in cc

-- a market is accepted, or refused
pub accepted : (market : Result Registered Fault) (r : Registered) → result_ok market ≡ Some r → market ≡ Ok r
accepted (Ok r) s is = cc
accepted (Err f) s is = absurd cc

pub refused : (market : Result Registered Fault) → result_ok market ≡ None → (f : Fault) × (market ≡ Err f)
refused (Ok r) is = absurd cc
refused (Err f) is = (f, refl)
