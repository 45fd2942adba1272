-- Going down a list, one of a set is refused once quota of them stood before.
use Rattle.std.proofs.Common.{◌≡◌, ℕ, ◌+◌, ◌<◌, not, ◌&&◌, nat_lt, List, take, length, get_or, IsTrue, refl, ap, sym, ◌∙◌, if◌then◌else◌}
use Rattle.mt_terms.specs.Lists.{Set, count, above, is_distinct}
use Rattle.mt_terms.specs.Market.{Program}
use Rattle.mt_terms.specs.Choice.{choice}
use Rattle.mt_stage_tables.proofs.PlaceFacts.{has_read, until_at, count_more}

-- whether a program refuses an applicant of a set: one that it doesn't choose from the set
abbrev pub is_refused : Program → Set → Set
is_refused p set a = set a && not (choice p set a)

abbrev pub program_with : ℕ → List ℕ → Program
program_with quota list = record { quota = quota; ranking = list }

module _ (set : Set) (quota : ℕ) (list : List ℕ) (i a : ℕ) (distinct : IsTrue (is_distinct list)) (within : i < length list) (read : a ≡ get_or list i a) where
  above_is : above set list a ≡ count set (take i list)
  above_is = ap (λ x. above set list x) read ∙ ap (count set) (until_at list i a distinct within)

  pub refused_is : is_refused (program_with quota list) set a ≡ (set a && not (set a && nat_lt (count set (take i list)) quota))
  refused_is = rw (has_read list i a within read, above_is) refl

  pub count_is : count set (take (i + 1) list) ≡ count set (take i list) + (if set a then 1 else 0)
  count_is = count_more set list i a within ∙ ap (λ x. count set (take i list) + (if set x then 1 else 0)) (sym read)
