-- Each fault of a record comes from a list of fields of one code, of which a test says why. All of them are fields of the record.
use Rattle.std.proofs.Common.{◌≡◌, ℕ, ◌==◌, Bool, true, false, ◌&&◌, List, [], ◌∷◌, map, filter, drop, Option, Some, None, All, Contains, refl, sym, ◌∙◌, eq-eqb, slice_index_or}
use Rattle.std.specs.Prelude.{bytes_eq, codes, option_to_list, flat_map, if◌then◌else◌}
use Rattle.std.proofs.lemmas.List.Elements.{All-nil, All-cons, All-head, All-tail, All-map, All-filter, All-take, All-drop, All-weaker, All-contains_itself, Contains-append_right, filter_passes}
use Rattle.mt_terms.specs.Registration.Ids.{Bytes}
use Rattle.mt_terms.specs.Registration.Records.{Rules, Kind, OfProgram, OfApplicant, OfCouple, kind_of}
use Rattle.mt_terms.specs.Lists.{by_twos, head}
use Rattle.mt_fault_terms.specs.Faults.{Placed, FieldFault, fault_of, placed_from}
use Rattle.mt_fault_terms.specs.Parts.{Parts, withdrawal_by_kind, withdraw_parts, parts_by_kind, parts_of}
use Rattle.mt_fault_laws.specs.Reasons.{IsField}
use Rattle.mt_fault_laws.proofs.Reading.{both}

-- a number isn't two
pub differ : (n c d : ℕ) → (c == d) ≡ false → n ≡ c → n ≡ d → ⊥
differ n c d h e f = let t : (c == d) ≡ true = eq-eqb c d (sym e ∙ f) in absurd cc

-- the fields of a record's parts are fields of the record
pub record AreFields (fields : List Bytes) (parts : Parts) : Type 0 where
  pub names : All (IsField fields) parts.names
  pub quota : All (IsField fields) (option_to_list parts.quota)
  pub list : All (IsField fields) parts.list
  pub pairs : All (IsField fields) (flat_map both parts.pairs)

module _ (fields : List Bytes) where
  first_all : (xs : List Placed) → All (IsField fields) xs → All (IsField fields) (option_to_list (head xs))
  first_all [] h = All-nil (IsField fields)
  first_all (x ∷ xs) h = All-cons (IsField fields) x [] (All-head (IsField fields) x xs h) (All-nil (IsField fields))

  pairs_all : (xs : List Placed) → All (IsField fields) xs → All (IsField fields) (flat_map both (by_twos xs))
  pairs_all [] h = All-nil (IsField fields)
  pairs_all (x ∷ []) h = All-nil (IsField fields)
  pairs_all (x ∷ y ∷ xs) h =
      let rest : All (IsField fields) (y ∷ xs) = All-tail (IsField fields) x (y ∷ xs) h in
      All-cons (IsField fields) x (y ∷ flat_map both (by_twos xs)) (All-head (IsField fields) x (y ∷ xs) h)
      (All-cons (IsField fields) y (flat_map both (by_twos xs)) (All-head (IsField fields) y xs rest) (pairs_all xs (All-tail (IsField fields) y xs rest)))

  none : All (IsField fields) []
  none = All-nil (IsField fields)

  of_kind : (kind : Option Kind) (xs : List Placed) → All (IsField fields) xs → AreFields fields (parts_by_kind kind xs)
  of_kind (Some OfProgram) xs h = record {
    names = All-take (IsField fields) 1 xs h;
    quota = first_all (drop 1 xs) (All-drop (IsField fields) 1 xs h);
    list = All-drop (IsField fields) 2 xs h;
    pairs = none;
  }
  of_kind (Some OfApplicant) xs h = record { names = All-take (IsField fields) 1 xs h; quota = none; list = All-drop (IsField fields) 1 xs h; pairs = none }
  of_kind (Some OfCouple) xs h = record { names = All-take (IsField fields) 3 xs h; quota = none; list = none; pairs = pairs_all (drop 3 xs) (All-drop (IsField fields) 3 xs h) }
  of_kind None xs h = record { names = none; quota = none; list = none; pairs = none }

  of_withdrawal : (kind : Option Kind) (xs : List Placed) → All (IsField fields) xs → AreFields fields (withdrawal_by_kind kind xs)
  of_withdrawal None xs h = record { names = none; quota = none; list = none; pairs = none }
  of_withdrawal (Some kind) xs h = record { names = All-take (IsField fields) 1 xs h; quota = none; list = none; pairs = none }

  of_withdraw : (xs : List Placed) → All (IsField fields) xs → AreFields fields (withdraw_parts xs)
  of_withdraw [] h = record { names = none; quota = none; list = none; pairs = none }
  of_withdraw (x ∷ xs) h = of_withdrawal (kind_of x.1) xs (All-tail (IsField fields) x xs h)

pub fields_of_parts : (rules : Rules) (fields : List Bytes) → AreFields fields (parts_of rules fields)
fields_of_parts rules [] = of_kind [] None [] (All-nil (IsField []))
fields_of_parts rules (word ∷ fields) = by (rules.withdrawals && bytes_eq word (codes "withdraw"))
  where
    placed : List Placed
    placed = placed_from 2 fields

    they : All (IsField (word ∷ fields)) placed
    they =
        All-weaker (Contains placed) (IsField (word ∷ fields)) (λ x h. Contains-append_right ((1, word) ∷ []) placed x h) placed (All-contains_itself placed)

    by : (b : Bool) → AreFields (word ∷ fields) (if b then withdraw_parts placed else parts_by_kind (kind_of word) placed)
    by true = of_withdraw (word ∷ fields) placed they
    by false = of_kind (word ∷ fields) (kind_of word) placed they

-- fields that pass a test, each at fault with a code
pub record Passes (fields : List Bytes) (test : Placed → Bool) (code : ℕ) (fault : FieldFault) : Type 0 where
  pub is_code : fault.code ≡ code
  pub field : Placed
  pub is_field : IsField fields field
  pub place : field.0 ≡ fault.field
  pub id : field.1 ≡ fault.id
  pub passes : test field ≡ true

pub all_pass : (fields : List Bytes) (test : Placed → Bool) (code : ℕ) (xs : List Placed) → All (IsField fields) xs → All (Passes fields test code) (map (fault_of code) (filter test xs))
all_pass fields test code xs h =
    All-map (Passes fields test code) (fault_of code) (filter test xs)
    (λ k d lt. record {
      is_code = refl;
      field = slice_index_or (filter test xs) k d;
      is_field = All-filter test (IsField fields) xs h k d lt;
      place = refl;
      id = refl;
      passes = filter_passes test xs k d lt;
    })
