-- The id of a couple has 64 bytes at most.
use Rattle.std.proofs.Common.{◌≡◌, ℕ, ◌<◌, ◌≤◌, true, List, [], length, get_or, inl, inr, arith}
use Rattle.std.specs.List.{list_all}
use Rattle.std.proofs.lemmas.Bool.{cases_Bool, both_ways}
use Rattle.std.proofs.lemmas.List.Folds.{list_all_at}
use Rattle.mt_terms.specs.Market.{Registered}
use Rattle.mt_terms.specs.Registration.Accepted.{IsRegistration}
use Rattle.mt_terms.specs.Registration.Ids.{Bytes, is_id}
use Rattle.mt_terms.specs.Text.{name_of}
use Rattle.mt_terms.proofs.IdFacts.{id_short}

short_in : (ids : List Bytes) (c : ℕ) → c < length ids → list_all (is_id 64) ids ≡ true → length (get_or ids c []) ≤ 64
short_in ids c l all = elim (cases_Bool (is_id 64 (get_or ids c []))) [
  | inl one ↦ id_short 64 (get_or ids c []) one
  | inr other ↦ absurd (both_ways (list_all (is_id 64) ids) (list_all_at (is_id 64) ids c [] l other) all)
]

pub short_couple_id : (r : Registered) → IsRegistration r → (c : ℕ) → c < length r.market.couples → length (name_of r.names.couples c) ≤ 64
short_couple_id r formed c l =
    let names = formed.couple_names in
    short_in r.names.couples c (omega (arith, names.one_each)) names.are_ids
