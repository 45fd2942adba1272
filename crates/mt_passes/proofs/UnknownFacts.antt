-- The first fault of a list of records, one after another.
use Rattle.std.proofs.Common.{◌≡◌, ℕ, ◌+◌, ◌<◌, List, [], ◌∷◌, ◌++◌, map, take, drop, length, get_or, refl, ap, sym, ◌∙◌, Option, Some, None}
use Rattle.std.specs.Prelude.{option_map}
use Rattle.std.proofs.lemmas.List.{take_more, drop_more, take-append-drop, map-append}
use Rattle.mt_terms.specs.Registration.Passes.{first_of, second_pass, unknown_id}
use Rattle.mt_terms.specs.Registration.Records as model
use Rattle.mt_terms.specs.Registration.Faults as faults
use Rattle.mt_terms.specs.Registration.Faults.{fault_at}
use Rattle.mt_passes.specs.declared.register.Numbered as declared
use Rattle.mt_passes.specs.declared.register.Register.{Register}
use Rattle.mt_records.specs.Records.{record_seen}
use Rattle.mt_passes.specs.Registers.{numbered_seen, records_seen, contents_seen}

first_of_append : {X : Type 0} (xs ys : List (Option X)) → first_of xs ≡ None → first_of (xs ++ ys) ≡ first_of ys
first_of_append [] ys h = refl
first_of_append (None ∷ xs) ys h = first_of_append xs ys h
first_of_append (Some x ∷ xs) ys h = cc

-- the first that there is, of what elements give
module _ {X Y : Type 0} (give : X → Option Y) (list : List X) (i : ℕ) (d x : X) (h : i < length list) (at : x ≡ get_or list i d)
    (before : first_of (map give (take i list)) ≡ None) where
  one_more : map give (take (i + 1) list) ≡ map give (take i list) ++ give x ∷ []
  one_more = ap (map give) (take_more list i d h) ∙ rw (← at, map-append) refl

  whole_list : map give list ≡ map give (take i list) ++ give x ∷ map give (drop (i + 1) list)
  whole_list = ap (map give) (sym (take-append-drop i list) ∙ ap (λ xs. take i list ++ xs) (drop_more list i d h)) ∙ rw (← at, map-append) refl

  pub none_more : give x ≡ None → first_of (map give (take (i + 1) list)) ≡ None
  none_more none = ap first_of one_more ∙ first_of_append (map give (take i list)) (give x ∷ []) before ∙ rw none refl

  pub first_at : (y : Y) → give x ≡ Some y → first_of (map give list) ≡ Some y
  first_at y some = ap first_of whole_list ∙ first_of_append (map give (take i list)) (give x ∷ map give (drop (i + 1) list)) before ∙ rw some refl

-- the fault of a record that names an unknown id
abbrev pub fault_of : List model.Record → declared.Numbered → Option faults.Fault
fault_of all n = option_map (fault_at n.row) (unknown_id all (record_seen n.record))

map_through : {X Y Z : Type 0} (f : X → Y) (g : Y → Z) (xs : List X) → map (λ x. g (f x)) xs ≡ map g (map f xs)
map_through f g [] = refl
map_through f g (x ∷ xs) = ap (λ ys. g (f x) ∷ ys) (map_through f g xs)

-- the second pass over a register's records
pub pass_is : (r : Register) → first_of (map (fault_of (contents_seen r)) r.records.items) ≡ second_pass (records_seen r)
pass_is r = ap first_of (map_through numbered_seen (λ n. option_map (fault_at n.0) (unknown_id (contents_seen r) n.1)) r.records.items)
